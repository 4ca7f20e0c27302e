-- A method's type, put together from its parameters and its result.
use Rattle.std.proofs.Common.{◌≡◌, ℕ, ◌+◌, Bool, true, false, cond, ◌&&◌, ◌==◌, nat_le, List, [], ◌∷◌, length, Option, Some, None, Err, refl, sym, ap, subst, ◌∙◌, arith}
use Rattle.std.specs.Prelude.{is_some, sum_by}
use Rattle.std.specs.Option.{option_and_then, option_map}
use Rattle.std.proofs.lemmas.Option.{same_Some, some_pair_parts}
use Rattle.jvms_file.specs.declared.descriptor.FieldType.{FieldType}
use Rattle.jvms_file.specs.declared.descriptor.ResultType.{ResultType}
use Rattle.jvms_file.specs.declared.descriptor.MethodType.{MethodType}
use Rattle.jvms_file.specs.Descriptors.{parameter_units, parameters_from, result_type_of, within_255_units, method_type_of, units_of}
use Rattle.descriptor.specs.declared.fault.DescriptorFault.{DescriptorFault}
use Rattle.descriptor.specs.declared.fault.DescriptorFault.TheVariants as faults
use Rattle.descriptor.specs.Reading.{IsRead}
use Rattle.descriptor.specs.Scanning.{after_parenthesis, parameters_after, units_after, method_after}
use Rattle.descriptor.proofs.Parameters.{Read, counted, parameters_start}

-- a method's type, of its parts
abbrev pub method_of : List FieldType → ResultType → Option MethodType
method_of ts r = within_255_units (record { parameters = ts; result = r })

-- parameters, followed by the result
abbrev pub with_result : Read → Option MethodType
with_result ts = option_and_then (method_of ts.0) (result_type_of ts.1)

-- A method's type is that of its parameters and its result, with no parameters parsed yet.
pub method_behind_is : (us : List ℕ) → method_after us ≡ option_and_then with_result (parameters_from (length us) us)
unfolding method_after
method_behind_is us = ap (option_and_then with_result) (parameters_start us)

-- no opening parenthesis, by the test
unopened_if : (opens : Bool) (us : List ℕ) (o : Option MethodType) → None ≡ cond opens (Some us) None → cond opens o None ≡ None
unopened_if true us o e = absurd cc
unopened_if false us o e = refl

-- an opening parenthesis, by the test
opened_if : (opens : Bool) (us behind : List ℕ) (f : List ℕ → Option MethodType) → Some behind ≡ cond opens (Some us) None → f behind ≡ cond opens (f us) None
opened_if true us behind f e = ap f (same_Some behind us e)
opened_if false us behind f e = absurd cc

-- A text with no opening parenthesis spells no method's type.
pub method_unopened : (text : List ℕ) → None ≡ after_parenthesis text → method_type_of text ≡ None
unfolding method_type_of
method_unopened [] e = refl
method_unopened (u ∷ us) e = unopened_if (u == 40) us (option_and_then with_result (parameters_from (length us) us)) e

-- A text with an opening parenthesis spells what follows it.
pub method_opened : (text behind : List ℕ) → Some behind ≡ after_parenthesis text → method_after behind ≡ method_type_of text
unfolding method_type_of
method_opened [] behind e = absurd cc
method_opened (u ∷ us) behind e = method_behind_is behind ∙ opened_if (u == 40) us behind (λ x. option_and_then with_result (parameters_from (length x) x)) e

-- a fault in a part is a fault in the whole
fault_passes : {Y Z : Type 0} (e : DescriptorFault) (f : Y → Option Z) (o : Option Y) → IsRead {X = Y} (Err e) o → IsRead {X = Z} (Err e) (option_and_then f o)
fault_passes faults.Malformed f o none = rw none refl
fault_passes faults.Memory f o none = tt

-- after the parameters, the result remains
pub then_result : (us : List ℕ) (ts : List FieldType) (rest : List ℕ) → parameters_after [] us ≡ Some (ts, rest) → method_after us ≡ option_and_then (method_of ts) (result_type_of rest)
unfolding method_after
then_result us ts rest e = rw e refl

-- after the parameters and the result, the type is complete
pub then_method : (us : List ℕ) (ts : List FieldType) (rest : List ℕ) (r : ResultType) → parameters_after [] us ≡ Some (ts, rest) → result_type_of rest ≡ Some r → method_after us ≡ method_of ts r
then_method us ts rest r e result = then_result us ts rest e ∙ rw result refl

-- a fault in the parameters
pub parameters_fault : (e : DescriptorFault) (us : List ℕ) → IsRead {X = Read} (Err e) (parameters_after [] us) → IsRead {X = MethodType} (Err e) (method_after us)
unfolding method_after
parameters_fault e us fault = fault_passes e with_result (parameters_after [] us) fault

-- a fault in the result
pub result_fault : (e : DescriptorFault) (us : List ℕ) (ts : List FieldType) (rest : List ℕ) → parameters_after [] us ≡ Some (ts, rest)
    → IsRead {X = ResultType} (Err e) (result_type_of rest) → IsRead {X = MethodType} (Err e) (method_after us)
result_fault e us ts rest read fault =
    subst (λ (o : Option MethodType). IsRead {X = MethodType} (Err e) o) (sym (then_result us ts rest read)) (fault_passes e (method_of ts) (result_type_of rest) fault)

-- ---- Without memory

-- the units of a type, if there is one
abbrev pub units_in : Option MethodType → Option ℕ
units_in o = option_map (λ t. parameter_units t) o

-- no parameters have no units
none_of : (o : Option Read) → None ≡ option_map (counted 0) o → None ≡ units_in (option_and_then with_result o)
none_of None e = refl
none_of (Some x) e = absurd cc

-- No parameters.
pub no_parameters : (us : List ℕ) → None ≡ units_after 0 us → None ≡ units_in (method_after us)
unfolding units_after
no_parameters us e = none_of (parameters_from (length us) us) e ∙ ap units_in (sym (method_behind_is us))

-- no result
without_result : (few : Bool) (units : ℕ) → cond (few && false) (Some units) None ≡ None
without_result true units = refl
without_result false units = refl

-- a result after parameters that have few enough units or not
before_result : (few : Bool) (m : MethodType) → cond (few && true) (Some (parameter_units m)) None ≡ units_in (cond few (Some m) None)
before_result true m = refl
before_result false m = refl

-- few enough units, and a result
with_result_of : (ts : List FieldType) (o : Option ResultType)
    → cond (nat_le (sum_by units_of ts) 255 && is_some o) (Some (sum_by units_of ts)) None ≡ units_in (option_and_then (method_of ts) o)
with_result_of ts None = without_result (nat_le (sum_by units_of ts) 255) (sum_by units_of ts)
with_result_of ts (Some r) = before_result (nat_le (sum_by units_of ts) 255) (record { parameters = ts; result = r })

-- parameters have their units
some_of : (units : ℕ) (rest : List ℕ) (o : Option Read) → Some (units, rest) ≡ option_map (counted 0) o
    → cond (nat_le units 255 && is_some (result_type_of rest)) (Some units) None ≡ units_in (option_and_then with_result o)
some_of units rest None e = absurd cc
some_of units rest (Some x) e =
    let both : (units ≡ 0 + sum_by units_of x.0) × (rest ≡ x.1) = some_pair_parts units (0 + sum_by units_of x.0) rest x.1 e in
    let n : units ≡ sum_by units_of x.0 = both.0 ∙ omega arith in
    rw (n, both.1) (with_result_of x.0 (result_type_of x.1))

-- Parameters with this number of units.
pub some_parameters : (us : List ℕ) (units : ℕ) (rest : List ℕ) → Some (units, rest) ≡ units_after 0 us
    → cond (nat_le units 255 && is_some (result_type_of rest)) (Some units) None ≡ units_in (method_after us)
unfolding units_after
some_parameters us units rest e = some_of units rest (parameters_from (length us) us) e ∙ ap units_in (sym (method_behind_is us))

-- There are units exactly if there is a type.
pub units_of_some : (o : Option MethodType) → is_some (units_in o) ≡ is_some o
units_of_some None = refl
units_of_some (Some m) = refl
