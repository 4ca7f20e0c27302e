-- Proves that the pool of an assembled class has no fault as names, members and constants are added (JVMS 4.4).
use Rattle.std.proofs.Common.{◌≡◌, ℕ, ◌<◌, Bool, true, false, List, [], ◌∷◌, ◌++◌, Result, Ok, ap, subst, arith, ℤ}
use Rattle.std.specs.List.{AllByRecursion}
use Rattle.jvms_file.specs.declared.class_file.Constant.{Constant}
use Rattle.jvms_file.specs.declared.class_file.Constant.TheVariants as constant
use Rattle.jvms_file.specs.Results.{◌>>=◌}
use Rattle.jvms_file.specs.Spelling.{IsU2}
use Rattle.jasmin.specs.declared.source.LoadedConstant.{LoadedConstant}
use Rattle.jasmin.specs.declared.source.LoadedConstant.TheVariants as loaded
use Rattle.jasmin.specs.declared.source.Operation.{Operation}
use Rattle.jasmin.specs.declared.source.Operation.TheVariants as operation
use Rattle.jasmin.specs.declared.source.CodeItem.{CodeItem}
use Rattle.jasmin.specs.declared.source.CodeItem.TheVariants as item
use Rattle.jasmin.specs.declared.source.Caught.{Caught}
use Rattle.jasmin.specs.declared.source.Caught.TheVariants as caught
use Rattle.jasmin.specs.declared.source.CatchLine.{CatchLine}
use Rattle.pool_entries.specs.declared.fault.EntryFault.{EntryFault}
use Rattle.pool_entries.specs.declared.fault.EntryFault.TheVariants as fault
use Rattle.pool_entries.specs.declared.kind.MethodKind.{MethodKind}
use Rattle.pool_entries.specs.declared.kind.MethodKind.TheVariants as kind
use Rattle.pool_entries.specs.Entries.{is_short, constant_entry, text_entry, class_entry, string_entry, integer_entry, long_entry, name_and_type_entry, member_entry, field_entry, method_constant, method_entry}
use Rattle.pool_entries.proofs.Lookups.{utf8_at-kept, class_name_at-kept}
use Rattle.assembly.specs.Operands.{loaded_entry, kind_of, operand_entry, operands_onto, catch_entry, catches_onto, classes_onto}
use Rattle.source_form_laws.specs.Formed.{IsSigned, IsClassOrArray, IsFormedLoad, IsFormedOperation, IsFormedItem, IsFormedCaught}
use Rattle.classfile_laws.proofs.Constants.{IsUsable}
use Rattle.classfile_laws.proofs.Steps.{step, want_step}
use Rattle.assembled_entry_laws.specs.Entered.{IsEntered}
use Rattle.assembled_entry_laws.proofs.Entries.{text_is_entered, class_is_entered, name_and_type_is_entered}
use Rattle.class_spelling_laws.proofs.Steps.{same_Ok}
use Rattle.class_spelling_laws.proofs.Names.{IsMemberOf, field_member, method_member}
use Rattle.class_spelling_laws.proofs.Pools.{IsReference, IsWell, IsGood, constant_good}

-- An index fits two bytes.
pub number_fits : (old new : List Constant) (n : ℕ) → IsEntered old n new → IsU2 n
number_fits old new n entered = let fits : n < 65535 = entered.fits in omega arith

-- ---- Texts, names and constants

pub text_good : (pool new : List Constant) (units : List ℕ) (n : ℕ) → IsGood pool → text_entry pool units ≡ Ok (n, new) → IsGood new
unfolding text_entry
text_good pool new units n good gives =
    want_step (is_short units) fault.TooLong (λ _. constant_entry pool (constant.Utf8 units)) (n, new) gives λ short made.
    constant_good pool new (constant.Utf8 units) n good tt short made

pub class_good : (pool new : List Constant) (name : List ℕ) (n : ℕ) → IsGood pool → IsClassOrArray name → class_entry pool name ≡ Ok (n, new) → IsGood new
unfolding class_entry
class_good pool new name n good form gives =
    step (text_entry pool name) (λ text. constant_entry text.1 (constant.Class text.0)) (n, new) gives λ text named made.
    let first = text_is_entered pool text.1 name text.0 good.few named in
    constant_good text.1 new (constant.Class text.0) n (text_good pool text.1 name text.0 good named) tt (number_fits pool text.1 text.0 first.0, name, first.1, form) made

pub string_good : (pool new : List Constant) (units : List ℕ) (n : ℕ) → IsGood pool → string_entry pool units ≡ Ok (n, new) → IsGood new
unfolding string_entry
string_good pool new units n good gives =
    step (text_entry pool units) (λ text. constant_entry text.1 (constant.String text.0)) (n, new) gives λ text named made.
    let first = text_is_entered pool text.1 units text.0 good.few named in
    constant_good text.1 new (constant.String text.0) n (text_good pool text.1 units text.0 good named) tt (number_fits pool text.1 text.0 first.0, units, first.1) made

pub integer_good : (pool new : List Constant) (k : ℤ) (n : ℕ) → IsGood pool → IsSigned 31 k → integer_entry pool k ≡ Ok (n, new) → IsGood new
integer_good pool new k n good signed gives = constant_good pool new (constant.Integer k) n good tt signed gives

pub long_good : (pool new : List Constant) (k : ℤ) (n : ℕ) → IsGood pool → IsSigned 63 k → long_entry pool k ≡ Ok (n, new) → IsGood new
long_good pool new k n good signed gives = constant_good pool new (constant.Long k) n good tt signed gives

-- ---- Members

name_and_type_good : (method : Bool) (pool new : List Constant) (name descriptor : List ℕ) (n : ℕ) → IsGood pool → IsMemberOf method name descriptor → name_and_type_entry pool name descriptor ≡ Ok (n, new) → IsGood new
unfolding name_and_type_entry
name_and_type_good method pool new name descriptor n good member gives =
    step (text_entry pool name) (λ first. text_entry first.1 descriptor >>= λ second. constant_entry second.1 (constant.NameAndType first.0 second.0)) (n, new) gives λ first named more.
    step (text_entry first.1 descriptor) (λ second. constant_entry second.1 (constant.NameAndType first.0 second.0)) (n, new) more λ second described made.
    let one = text_is_entered pool first.1 name first.0 good.few named in
    let good_one = text_good pool first.1 name first.0 good named in
    let two = text_is_entered first.1 second.1 descriptor second.0 good_one.few described in
    let good_two = text_good first.1 second.1 descriptor second.0 good_one described in
    let is_name = utf8_at-kept first.1 second.1 first.0 name two.0.kept one.1 in
    constant_good second.1 new (constant.NameAndType first.0 second.0) n good_two tt
    (number_fits pool first.1 first.0 one.0, number_fits first.1 second.1 second.0 two.0, name, descriptor, is_name, two.1, member.form) made

member_good : (make : ℕ → ℕ → Constant) (method : Bool) (pool new : List Constant) (class name descriptor : List ℕ) (n : ℕ)
    → ((c m : ℕ) → IsUsable (make c m)) → ((p : List Constant) (c m : ℕ) → IsReference method p c m → IsWell p (make c m))
    → IsGood pool → IsClassOrArray class → IsMemberOf method name descriptor → member_entry make pool class name descriptor ≡ Ok (n, new) → IsGood new
unfolding member_entry
member_good make method pool new class name descriptor n usable well good form member gives =
    step (class_entry pool class) (λ owner. name_and_type_entry owner.1 name descriptor >>= λ both. constant_entry both.1 (make owner.0 both.0)) (n, new) gives λ owner owned more.
    step (name_and_type_entry owner.1 name descriptor) (λ both. constant_entry both.1 (make owner.0 both.0)) (n, new) more λ both named made.
    let one = class_is_entered pool owner.1 class owner.0 good.few owned in
    let good_one = class_good pool owner.1 class owner.0 good form owned in
    let two = name_and_type_is_entered owner.1 both.1 name descriptor both.0 good_one.few named in
    let good_two = name_and_type_good method owner.1 both.1 name descriptor both.0 good_one member named in
    constant_good both.1 new (make owner.0 both.0) n good_two (usable owner.0 both.0) (well both.1 owner.0 both.0 (record {
      class_fits = number_fits pool owner.1 owner.0 one.0;
      member_fits = number_fits owner.1 both.1 both.0 two.0;
      class_name = class;
      names_class = class_name_at-kept owner.1 both.1 owner.0 class two.0.kept one.1;
      name = name;
      descriptor = descriptor;
      names_member = two.1;
      sort = member.sort;
    })) made

field_good : (pool new : List Constant) (class name descriptor : List ℕ) (n : ℕ) → IsGood pool → IsClassOrArray class → IsMemberOf false name descriptor → field_entry pool class name descriptor ≡ Ok (n, new) → IsGood new
field_good pool new class name descriptor n good form member gives =
    member_good (λ c m. constant.Field c m) false pool new class name descriptor n (λ c m. tt) (λ p c m is. is) good form member gives

method_usable : (how : MethodKind) (c m : ℕ) → IsUsable (method_constant how c m)
method_usable kind.OfClass c m = tt
method_usable kind.OfInterface c m = tt

method_well : (how : MethodKind) (p : List Constant) (c m : ℕ) → IsReference true p c m → IsWell p (method_constant how c m)
method_well kind.OfClass p c m is = is
method_well kind.OfInterface p c m is = is

method_good : (how : MethodKind) (pool new : List Constant) (class name descriptor : List ℕ) (n : ℕ) → IsGood pool → IsClassOrArray class → IsMemberOf true name descriptor → method_entry how pool class name descriptor ≡ Ok (n, new) → IsGood new
method_good how pool new class name descriptor n good form member gives =
    member_good (method_constant how) true pool new class name descriptor n (method_usable how) (method_well how) good form member gives

-- ---- The operands of instructions and catches

load_good : (pool new : List Constant) (c : LoadedConstant) (n : ℕ) → IsGood pool → IsFormedLoad c → loaded_entry pool c ≡ Ok (n, new) → IsGood new
load_good pool new (loaded.Integer k) n good form gives = integer_good pool new k n good form gives
load_good pool new (loaded.String text) n good form gives = string_good pool new text n good gives
load_good pool new (loaded.Class name) n good form gives = class_good pool new name n good form gives

nothing_good : (pool new : List Constant) (n : ℕ) → IsGood pool → ◌≡◌ {A = Result (ℕ × List Constant) EntryFault} (Ok (0, pool)) (Ok (n, new)) → IsGood new
nothing_good pool new n good gives = subst IsGood (ap (λ (r : ℕ × List Constant). r.1) (same_Ok (0, pool) (n, new) gives)) good

operand_good : (pool new : List Constant) (o : Operation) (n : ℕ) → IsGood pool → IsFormedOperation o → operand_entry pool o ≡ Ok (n, new) → IsGood new
unfolding operand_entry IsFormedOperation
operand_good pool new (operation.Constant width c) n good form gives = load_good pool new c n good form gives
operand_good pool new (operation.ConstantLong k) n good form gives = long_good pool new k n good form gives
operand_good pool new (operation.Field how f) n good form gives =
    field_good pool new f.class f.name f.descriptor n good form.0 (field_member f.name f.descriptor form.1 form.2) gives
operand_good pool new (operation.Invoke how m) n good form gives =
    method_good (kind_of how) pool new m.class m.name m.descriptor n good form.0 (method_member true m.name m.descriptor form.1 form.3) gives
operand_good pool new (operation.Class how name) n good form gives = class_good pool new name n good form.0 gives
operand_good pool new (operation.MultiNewArray name count) n good form gives = class_good pool new name n good form.0 gives
operand_good pool new _ n good form gives = nothing_good pool new n good gives

pub operands_good : (seen numbers : List ℕ) (pool new : List Constant) (items : List CodeItem) → IsGood pool → AllByRecursion IsFormedItem items → operands_onto seen pool items ≡ Ok (numbers, new) → IsGood new
unfolding operands_onto
operands_good seen numbers pool new [] good form gives = subst IsGood (ap (λ (r : List ℕ × List Constant). r.1) (same_Ok (seen, pool) (numbers, new) gives)) good
operands_good seen numbers pool new (item.Label name ∷ items) good form gives = operands_good seen numbers pool new items good form.1 gives
operands_good seen numbers pool new (item.Operation o ∷ items) good form gives =
    step (operand_entry pool o) (λ n. operands_onto (seen ++ n.0 ∷ []) n.1 items) (numbers, new) gives λ n numbered more.
    operands_good (seen ++ n.0 ∷ []) numbers n.1 new items (operand_good pool n.1 o n.0 good form.0 numbered) form.1 more

catch_good : (pool new : List Constant) (c : Caught) (n : ℕ) → IsGood pool → IsFormedCaught c → catch_entry pool c ≡ Ok (n, new) → IsGood new
unfolding catch_entry
catch_good pool new caught.All n good form gives = nothing_good pool new n good gives
catch_good pool new (caught.Class name) n good form gives = class_good pool new name n good form gives

pub catches_good : (seen numbers : List ℕ) (pool new : List Constant) (cs : List CatchLine) → IsGood pool → AllByRecursion (λ (c : CatchLine). IsFormedCaught c.caught) cs → catches_onto seen pool cs ≡ Ok (numbers, new) → IsGood new
unfolding catches_onto
catches_good seen numbers pool new [] good form gives = subst IsGood (ap (λ (r : List ℕ × List Constant). r.1) (same_Ok (seen, pool) (numbers, new) gives)) good
catches_good seen numbers pool new (c ∷ cs) good form gives =
    step (catch_entry pool c.caught) (λ n. catches_onto (seen ++ n.0 ∷ []) n.1 cs) (numbers, new) gives λ n numbered more.
    catches_good (seen ++ n.0 ∷ []) numbers n.1 new cs (catch_good pool n.1 c.caught n.0 good form.0 numbered) form.1 more

pub classes_good : (seen numbers : List ℕ) (pool new : List Constant) (names : List (List ℕ)) → IsGood pool → AllByRecursion IsClassOrArray names → classes_onto seen pool names ≡ Ok (numbers, new) → IsGood new
unfolding classes_onto
classes_good seen numbers pool new [] good form gives = subst IsGood (ap (λ (r : List ℕ × List Constant). r.1) (same_Ok (seen, pool) (numbers, new) gives)) good
classes_good seen numbers pool new (name ∷ names) good form gives =
    step (class_entry pool name) (λ n. classes_onto (seen ++ n.0 ∷ []) n.1 names) (numbers, new) gives λ n numbered more.
    classes_good (seen ++ n.0 ∷ []) numbers n.1 new names (class_good pool n.1 name n.0 good form.0 numbered) form.1 more
