-- One iteration of the loops over a method's parameters.
use Rattle.std.proofs.Common.{◌≡◌, ℕ, ◌+◌, ◌≤◌, Bool, true, false, cond, ◌&&◌, ◌==◌, List, [], ◌∷◌, ◌++◌, length, Option, Some, None, refl, sym, ap, ◌∙◌, append_assoc, arith, add-zero}
use Rattle.std.specs.Prelude.{sum_by}
use Rattle.std.specs.Option.{option_map}
use Rattle.std.proofs.lemmas.Bool.{ne_eqb}
use Rattle.std.proofs.lemmas.List.{append-nil, nil_from_length}
use Rattle.std.proofs.lemmas.List.Sums.{sum_by-cons}
use Rattle.jvms_file.specs.declared.descriptor.FieldType.{FieldType}
use Rattle.jvms_file.specs.Descriptors.{field_type_from, parameters_from, units_of, is_wide}
use Rattle.jvms_file.proofs.DescriptorLaws.{with_parameter, parameters_end, parameters_step, parameters_stop, parameters_none, enough_parameters, rest_is_shorter}
use Rattle.descriptor.specs.Scanning.{parameters_after, units_after}

-- parameters, and the text after them
abbrev pub Read : Type 0
Read = List FieldType × List ℕ

-- parameters after others
abbrev behind : List FieldType → Read → Read
behind front x = (front ++ x.0, x.1)

-- the units of parameters after others
abbrev pub counted : ℕ → Read → ℕ × List ℕ
counted units x = (units + sum_by units_of x.0, x.1)

-- a bound that suffices for one more parameter suffices for the rest
step_from : (u : ℕ) (us rest : List ℕ) (t : FieldType) → (u == 41) ≡ false → field_type_from 0 (u ∷ us) ≡ Some (t, rest)
    → parameters_from (length (u ∷ us)) (u ∷ us) ≡ with_parameter t (parameters_from (length rest) rest)
step_from u us rest t not_close front =
    let shorter = rest_is_shorter (u ∷ us) t rest front in
    parameters_step (length us) u us rest t not_close front ∙ ap (with_parameter t) (enough_parameters (length us) (length rest) rest (omega arith) (omega arith))

-- ---- The parameters

-- a parameter moves from the front of those that remain to the end of those before
put_front : (front : List FieldType) (t : FieldType) (o : Option Read)
    → option_map (behind front) (with_parameter t o) ≡ option_map (behind (front ++ t ∷ [])) o
put_front front t None = refl
put_front front t (Some x) = ap (λ (ts : List FieldType). Some (ts, x.1)) (sym (append_assoc front (t ∷ []) x.0))

-- after no others
all_of : (o : Option Read) → option_map (behind []) o ≡ o
all_of None = refl
all_of (Some x) = refl

-- No parameters were read yet.
pub parameters_start : (us : List ℕ) → parameters_after [] us ≡ parameters_from (length us) us
unfolding parameters_after
parameters_start us = all_of (parameters_from (length us) us)

-- A closing parenthesis is at the front.
pub parameters_done : (front : List FieldType) (us : List ℕ) → parameters_after front (41 ∷ us) ≡ Some (front, us)
unfolding parameters_after
parameters_done front us = rw (parameters_end (length us) us) (ap (λ (ts : List FieldType). Some (ts, us)) (append-nil front))

-- A parameter is at the front.
pub parameters_more : (front : List FieldType) (u : ℕ) (us rest : List ℕ) (t : FieldType) → (u == 41) ≡ false → field_type_from 0 (u ∷ us) ≡ Some (t, rest)
    → parameters_after (front ++ t ∷ []) rest ≡ parameters_after front (u ∷ us)
unfolding parameters_after
parameters_more front u us rest t not_close is =
    sym (ap (λ (o : Option Read). option_map (behind front) o) (step_from u us rest t not_close is) ∙ put_front front t (parameters_from (length rest) rest))

-- No type is at the front.
pub parameters_bad : (front : List FieldType) (u : ℕ) (us : List ℕ) → (u == 41) ≡ false → field_type_from 0 (u ∷ us) ≡ None → parameters_after front (u ∷ us) ≡ None
unfolding parameters_after
parameters_bad front u us not_close is = rw (parameters_stop (length us) u us not_close is) refl

-- Nothing is left.
pub parameters_cut : (front : List FieldType) → parameters_after front [] ≡ None
unfolding parameters_after
parameters_cut front = rw (parameters_none 0) refl

-- ---- Their units

-- the units of a parameter are added to those that were counted
put_units : (units : ℕ) (t : FieldType) (o : Option Read)
    → option_map (counted units) (with_parameter t o) ≡ option_map (counted (units + units_of t)) o
put_units units t None = refl
put_units units t (Some x) = ap (λ (n : ℕ). Some (n, x.1)) (omega (arith, sum_by-cons units_of t x.0))

-- A closing parenthesis is at the front.
pub units_done : (units : ℕ) (us : List ℕ) → units_after units (41 ∷ us) ≡ Some (units, us)
unfolding units_after
units_done units us = rw (parameters_end (length us) us) (ap (λ (n : ℕ). Some (n, us)) (add-zero units))

-- A parameter is at the front.
pub units_more : (units u : ℕ) (us rest : List ℕ) (t : FieldType) → (u == 41) ≡ false → field_type_from 0 (u ∷ us) ≡ Some (t, rest)
    → units_after (units + units_of t) rest ≡ units_after units (u ∷ us)
unfolding units_after
units_more units u us rest t not_close is =
    sym (ap (λ (o : Option Read). option_map (counted units) o) (step_from u us rest t not_close is) ∙ put_units units t (parameters_from (length rest) rest))

-- No type is at the front.
pub units_bad : (units u : ℕ) (us : List ℕ) → (u == 41) ≡ false → field_type_from 0 (u ∷ us) ≡ None → units_after units (u ∷ us) ≡ None
unfolding units_after
units_bad units u us not_close is = rw (parameters_stop (length us) u us not_close is) refl

-- Nothing is left.
pub units_cut : (units : ℕ) → units_after units [] ≡ None
unfolding units_after
units_cut units = rw (parameters_none 0) refl

-- ---- The loops, with the text that remains

-- a unit that is no closing parenthesis
not_close : (u : ℕ) → (u ≡ 41 → ⊥) → (u == 41) ≡ false
not_close u other = ne_eqb u 41 other

-- The loop ends at a closing parenthesis.
pub parameters_end_at : (front : List FieldType) (rest : List ℕ) (u : ℕ) (behind : List ℕ) (all : Option Read) → rest ≡ u ∷ behind → u ≡ 41
    → parameters_after front rest ≡ all → all ≡ Some (front, behind)
parameters_end_at front rest u behind all parts close so_far =
    sym so_far ∙ ap (parameters_after front) (parts ∙ ap (λ (v : ℕ). v ∷ behind) close) ∙ parameters_done front behind

-- The loop continues after a parameter.
pub parameters_next : (front : List FieldType) (rest : List ℕ) (u : ℕ) (behind after : List ℕ) (t : FieldType) (all : Option Read) → rest ≡ u ∷ behind → (u ≡ 41 → ⊥)
    → Some (t, after) ≡ field_type_from 0 rest → parameters_after front rest ≡ all → parameters_after (front ++ t ∷ []) after ≡ all
parameters_next front rest u behind after t all parts other read so_far =
    parameters_more front u behind after t (not_close u other) (ap (field_type_from 0) (sym parts) ∙ sym read) ∙ ap (parameters_after front) (sym parts) ∙ so_far

-- The loop ends where no type is.
pub parameters_stop_at : (front : List FieldType) (rest : List ℕ) (u : ℕ) (behind : List ℕ) (all : Option Read) → rest ≡ u ∷ behind → (u ≡ 41 → ⊥)
    → None ≡ field_type_from 0 rest → parameters_after front rest ≡ all → all ≡ None
parameters_stop_at front rest u behind all parts other read so_far =
    sym so_far ∙ ap (parameters_after front) parts ∙ parameters_bad front u behind (not_close u other) (ap (field_type_from 0) (sym parts) ∙ sym read)

-- The loop ends where the text ends.
pub parameters_cut_at : (front : List FieldType) (rest : List ℕ) (all : Option Read) → length rest ≡ 0 → parameters_after front rest ≡ all → all ≡ None
parameters_cut_at front rest all none so_far = sym so_far ∙ ap (parameters_after front) (nil_from_length rest none) ∙ parameters_cut front

-- The count ends at a closing parenthesis.
pub units_end_at : (units : ℕ) (rest : List ℕ) (u : ℕ) (behind : List ℕ) (all : Option (ℕ × List ℕ)) → rest ≡ u ∷ behind → u ≡ 41
    → units_after units rest ≡ all → Some (units, behind) ≡ all
units_end_at units rest u behind all parts close so_far =
    sym (units_done units behind) ∙ ap (units_after units) (sym (parts ∙ ap (λ (v : ℕ). v ∷ behind) close)) ∙ so_far

-- The count continues after a parameter.
pub units_next : (units : ℕ) (rest : List ℕ) (u : ℕ) (behind after : List ℕ) (t : FieldType) (all : Option (ℕ × List ℕ)) → rest ≡ u ∷ behind → (u ≡ 41 → ⊥)
    → Some (t, after) ≡ field_type_from 0 rest → units_after units rest ≡ all → units_after (units + units_of t) after ≡ all
units_next units rest u behind after t all parts other read so_far =
    units_more units u behind after t (not_close u other) (ap (field_type_from 0) (sym parts) ∙ sym read) ∙ ap (units_after units) (sym parts) ∙ so_far

-- The count ends where no type is.
pub units_stop_at : (units : ℕ) (rest : List ℕ) (u : ℕ) (behind : List ℕ) (all : Option (ℕ × List ℕ)) → rest ≡ u ∷ behind → (u ≡ 41 → ⊥)
    → None ≡ field_type_from 0 rest → units_after units rest ≡ all → None ≡ all
units_stop_at units rest u behind all parts other read so_far =
    sym (units_bad units u behind (not_close u other) (ap (field_type_from 0) (sym parts) ∙ sym read)) ∙ ap (units_after units) (sym parts) ∙ so_far

-- The count ends where the text ends.
pub units_cut_at : (units : ℕ) (rest : List ℕ) (all : Option (ℕ × List ℕ)) → length rest ≡ 0 → units_after units rest ≡ all → None ≡ all
units_cut_at units rest all none so_far = sym (units_cut units) ∙ ap (units_after units) (sym (nil_from_length rest none)) ∙ so_far

-- either number is at most 2
one_or_two : (b : Bool) → cond b 2 1 ≤ 2
one_or_two true = omega arith
one_or_two false = omega arith

-- A parameter has at most 2 units.
pub units_few : (t : FieldType) → units_of t ≤ 2
units_few t = one_or_two (t.dimensions == 0 && is_wide t.element)
