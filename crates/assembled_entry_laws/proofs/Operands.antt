-- Proves what the indices for instructions, catches and classes name.
use Rattle.std.proofs.Common.{◌≡◌, ℕ, ◌<◌, ◌≤◌, List, [], ◌∷◌, ◌++◌, length, Some, Result, Ok, refl, sym, ◌∙◌, subst, append_assoc, append-nil, arith}
use Rattle.jvms_file.specs.declared.class_file.Constant.{Constant}
use Rattle.jvms_file.specs.declared.class_file.Constant.TheVariants as constant
use Rattle.jvms_file.specs.ConstantPool.{entry, class_name_at}
use Rattle.jvms_file.specs.Spelling.{IsU2}
use Rattle.jasmin.specs.declared.source.LoadedConstant.{LoadedConstant}
use Rattle.jasmin.specs.declared.source.LoadedConstant.TheVariants as loaded
use Rattle.jasmin.specs.declared.source.Operation.{Operation}
use Rattle.jasmin.specs.declared.source.Operation.TheVariants as operation
use Rattle.jasmin.specs.declared.source.CodeItem.{CodeItem}
use Rattle.jasmin.specs.declared.source.CodeItem.TheVariants as item
use Rattle.jasmin.specs.declared.source.Caught.{Caught}
use Rattle.jasmin.specs.declared.source.Caught.TheVariants as caught
use Rattle.jasmin.specs.declared.source.CatchLine.{CatchLine}
use Rattle.jasmin.specs.Denote.{operations}
use Rattle.pool_entries.specs.declared.fault.EntryFault.{EntryFault}
use Rattle.pool_entries.specs.Entries.{class_entry, method_constant}
use Rattle.pool_entries.specs.Kept.{IsKept}
use Rattle.pool_entries.specs.Named.{IsString, IsMember}
use Rattle.pool_entries.proofs.Lookups.{IsKept-reflexive, IsKept-transitive}
use Rattle.assembly.specs.Named.{NamesClass, NamesLoad, NamesOperand, AreOperands, NamesCaught, AreCaught, AreClasses}
use Rattle.assembly.specs.Operands.{loaded_entry, kind_of, operand_entry, operands_onto, catch_entry, catches_onto, classes_onto}
use Rattle.assembled_entry_laws.specs.Entered.{IsEntered}
use Rattle.assembled_entry_laws.proofs.Steps.{step, same_Ok}
use Rattle.assembled_entry_laws.proofs.Entries.{class_is_entered, string_is_entered, integer_is_entered, long_is_entered, field_is_entered, method_is_entered}
use Rattle.assembled_entry_laws.proofs.Keeping.{operand-kept, caught-kept, class-kept}

-- ---- One index

-- The index, or 0 for none, names its operand in a pool that keeps the entries.
pub record Is (P : List Constant → ℕ → Type 0) (pool : List Constant) (n : ℕ) (new : List Constant) : Type 0 where
  pub names : P new n
  pub kept : IsKept pool new
  pub few : length new ≤ 65534

is_u2 : (pool : List Constant) (n : ℕ) (new : List Constant) → IsEntered pool n new → IsU2 n
is_u2 pool n new entered = let fits : n < 65535 = entered.fits in omega arith

entered : (P : List Constant → ℕ → Type 0) (pool : List Constant) (n : ℕ) (new : List Constant) → IsEntered pool n new × P new n → Is (λ p k. IsU2 k × P p k) pool n new
entered P pool n new is = record { names = (is_u2 pool n new is.0, is.1); kept = is.0.kept; few = is.0.few }

no_number : (P : List Constant → ℕ → Type 0) (pool : List Constant) (n : ℕ) (new : List Constant) → length pool ≤ 65534 → P pool 0
    → ◌≡◌ {A = Result (ℕ × List Constant) EntryFault} (Ok (0, pool)) (Ok (n, new)) → Is P pool n new
no_number P pool n new few is gives =
    subst (λ (r : ℕ × List Constant). Is P pool r.0 r.1) (same_Ok (0, pool) (n, new) gives) (record { names = is; kept = IsKept-reflexive pool; few = few })

pub class_is_named : (pool new : List Constant) (name : List ℕ) (n : ℕ) → length pool ≤ 65534 → class_entry pool name ≡ Ok (n, new) → Is (λ p k. NamesClass p k name) pool n new
class_is_named pool new name n few gives = entered (λ p k. class_name_at p k ≡ Some name) pool n new (class_is_entered pool new name n few gives)

load_is_named : (pool new : List Constant) (c : LoadedConstant) (n : ℕ) → length pool ≤ 65534 → loaded_entry pool c ≡ Ok (n, new) → Is (λ p k. NamesLoad p k c) pool n new
load_is_named pool new (loaded.Integer k) n few gives = entered (λ p i. entry p i ≡ Some (constant.Integer k)) pool n new (integer_is_entered pool new k n few gives)
load_is_named pool new (loaded.String text) n few gives = entered (λ p i. IsString p i text) pool n new (string_is_entered pool new text n few gives)
load_is_named pool new (loaded.Class name) n few gives = class_is_named pool new name n few gives

pub operand_is_named : (pool new : List Constant) (o : Operation) (n : ℕ) → length pool ≤ 65534 → operand_entry pool o ≡ Ok (n, new) → Is (λ p k. NamesOperand p k o) pool n new
unfolding operand_entry NamesOperand
operand_is_named pool new (operation.Constant width c) n few gives = load_is_named pool new c n few gives
operand_is_named pool new (operation.ConstantLong k) n few gives =
    entered (λ p i. entry p i ≡ Some (constant.Long k)) pool n new (long_is_entered pool new k n few gives)
operand_is_named pool new (operation.Field how f) n few gives =
    entered (λ p i. IsMember (λ c m. constant.Field c m) p i f.class f.name f.descriptor) pool n new (field_is_entered pool new f.class f.name f.descriptor n few gives)
operand_is_named pool new (operation.Invoke how m) n few gives =
    entered (λ p i. IsMember (method_constant (kind_of how)) p i m.class m.name m.descriptor) pool n new (method_is_entered (kind_of how) pool new m.class m.name m.descriptor n few gives)
operand_is_named pool new (operation.Class how name) n few gives = class_is_named pool new name n few gives
operand_is_named pool new (operation.MultiNewArray name count) n few gives = class_is_named pool new name n few gives
operand_is_named pool new _ n few gives = no_number (λ p i. Unit {0}) pool n new few tt gives

pub catch_is_named : (pool new : List Constant) (c : Caught) (n : ℕ) → length pool ≤ 65534 → catch_entry pool c ≡ Ok (n, new) → Is (λ p k. NamesCaught p k c) pool n new
unfolding catch_entry
catch_is_named pool new caught.All n few gives = no_number (λ p k. k ≡ 0) pool n new few refl gives
catch_is_named pool new (caught.Class name) n few gives = class_is_named pool new name n few gives

-- ---- Consecutive indices

-- The indices after those before name what they have to, in a pool that keeps the entries.
record Are {A : Type 0} (P : List Constant → List ℕ → List A → Type 0) (seen : List ℕ) (pool : List Constant) (xs : List A) (r : List ℕ × List Constant) : Type 0 where
  own : List ℕ
  parts : r.0 ≡ seen ++ own
  names : P r.1 own xs
  kept : IsKept pool r.1
  few : length r.1 ≤ 65534

are_none : {A : Type 0} (P : List Constant → List ℕ → List A → Type 0) (seen numbers : List ℕ) (pool new : List Constant) → length pool ≤ 65534 → P pool [] []
    → ◌≡◌ {A = Result (List ℕ × List Constant) EntryFault} (Ok (seen, pool)) (Ok (numbers, new)) → Are P seen pool [] (numbers, new)
are_none P seen numbers pool new few none gives =
    subst (Are P seen pool []) (same_Ok (seen, pool) (numbers, new) gives) (record { own = []; parts = sym (append-nil seen); names = none; kept = IsKept-reflexive pool; few = few })

are_more : {A : Type 0} (P : List Constant → List ℕ → List A → Type 0) (seen : List ℕ) (pool mid : List Constant) (n : ℕ) (x : A) (xs : List A) (r : List ℕ × List Constant)
    → IsKept pool mid → (rest : Are P (seen ++ n ∷ []) mid xs r) → P r.1 (n ∷ rest.own) (x ∷ xs) → Are P seen pool (x ∷ xs) r
are_more P seen pool mid n x xs r kept rest names =
    record { own = n ∷ rest.own; parts = rest.parts ∙ append_assoc seen (n ∷ []) rest.own; names = names; kept = IsKept-transitive pool mid r.1 kept rest.kept; few = rest.few }

-- Without indices before, these are all.
are_all : {A : Type 0} (P : List Constant → List ℕ → List A → Type 0) (pool new : List Constant) (numbers : List ℕ) (xs : List A)
    → Are P [] pool xs (numbers, new) → P new numbers xs × IsKept pool new × (length new ≤ 65534)
are_all P pool new numbers xs are = (subst (λ ns. P new ns xs) (sym are.parts) are.names, are.kept, are.few)

-- ---- Instructions, catches, classes

operands_by : (seen numbers : List ℕ) (pool new : List Constant) (items : List CodeItem) → length pool ≤ 65534 → operands_onto seen pool items ≡ Ok (numbers, new)
    → Are AreOperands seen pool (operations items) (numbers, new)
unfolding operands_onto
operands_by seen numbers pool new [] few gives = are_none AreOperands seen numbers pool new few tt gives
operands_by seen numbers pool new (item.Label name ∷ items) few gives = operands_by seen numbers pool new items few gives
operands_by seen numbers pool new (item.Operation o ∷ items) few gives =
    step (operand_entry pool o) (λ n. operands_onto (seen ++ n.0 ∷ []) n.1 items) (numbers, new) gives λ n numbered more.
    let first = operand_is_named pool n.1 o n.0 few numbered in
    let rest = operands_by (seen ++ n.0 ∷ []) numbers n.1 new items first.few more in
    are_more AreOperands seen pool n.1 n.0 o (operations items) (numbers, new) first.kept rest (operand-kept n.1 new n.0 o rest.kept first.names, rest.names)

pub operands_are_named : (pool new : List Constant) (items : List CodeItem) (numbers : List ℕ) → length pool ≤ 65534 → operands_onto [] pool items ≡ Ok (numbers, new)
    → AreOperands new numbers (operations items) × IsKept pool new × (length new ≤ 65534)
operands_are_named pool new items numbers few gives = are_all AreOperands pool new numbers (operations items) (operands_by [] numbers pool new items few gives)

catches_by : (seen numbers : List ℕ) (pool new : List Constant) (cs : List CatchLine) → length pool ≤ 65534 → catches_onto seen pool cs ≡ Ok (numbers, new)
    → Are AreCaught seen pool cs (numbers, new)
unfolding catches_onto
catches_by seen numbers pool new [] few gives = are_none AreCaught seen numbers pool new few tt gives
catches_by seen numbers pool new (c ∷ cs) few gives =
    step (catch_entry pool c.caught) (λ n. catches_onto (seen ++ n.0 ∷ []) n.1 cs) (numbers, new) gives λ n numbered more.
    let first = catch_is_named pool n.1 c.caught n.0 few numbered in
    let rest = catches_by (seen ++ n.0 ∷ []) numbers n.1 new cs first.few more in
    are_more AreCaught seen pool n.1 n.0 c cs (numbers, new) first.kept rest (caught-kept n.1 new n.0 c.caught rest.kept first.names, rest.names)

pub catches_are_named : (pool new : List Constant) (cs : List CatchLine) (numbers : List ℕ) → length pool ≤ 65534 → catches_onto [] pool cs ≡ Ok (numbers, new)
    → AreCaught new numbers cs × IsKept pool new × (length new ≤ 65534)
catches_are_named pool new cs numbers few gives = are_all AreCaught pool new numbers cs (catches_by [] numbers pool new cs few gives)

classes_by : (seen numbers : List ℕ) (pool new : List Constant) (names : List (List ℕ)) → length pool ≤ 65534 → classes_onto seen pool names ≡ Ok (numbers, new)
    → Are AreClasses seen pool names (numbers, new)
unfolding classes_onto
classes_by seen numbers pool new [] few gives = are_none AreClasses seen numbers pool new few tt gives
classes_by seen numbers pool new (name ∷ names) few gives =
    step (class_entry pool name) (λ n. classes_onto (seen ++ n.0 ∷ []) n.1 names) (numbers, new) gives λ n numbered more.
    let first = class_is_named pool n.1 name n.0 few numbered in
    let rest = classes_by (seen ++ n.0 ∷ []) numbers n.1 new names first.few more in
    are_more AreClasses seen pool n.1 n.0 name names (numbers, new) first.kept rest (class-kept n.1 new n.0 name rest.kept first.names, rest.names)

pub classes_are_named : (pool new : List Constant) (names : List (List ℕ)) (numbers : List ℕ) → length pool ≤ 65534 → classes_onto [] pool names ≡ Ok (numbers, new)
    → AreClasses new numbers names × IsKept pool new × (length new ≤ 65534)
classes_are_named pool new names numbers few gives = are_all AreClasses pool new numbers names (classes_by [] numbers pool new names few gives)
