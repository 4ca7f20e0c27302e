-- Objects that are saved in groups.
use Rattle.std.proofs.Common.{◌≡◌, ℕ, zero, suc, ◌<◌, List, [], ◌∷◌, ◌++◌, length, get_or, flat_map, sym, subst, arith}
use Rattle.std.specs.List.{AllByRecursion}
use Rattle.jvms_program.specs.declared.program.Class.{Class}
use Rattle.heap.specs.declared.stored_object.StoredObject.{StoredObject}
use Rattle.heap.specs.Stored.{IsKept}

all_front : {X : Type 0} (P : X → Type 0) (xs ys : List X) → AllByRecursion P (xs ++ ys) → AllByRecursion P xs
all_front P [] ys all = tt
all_front P (x ∷ xs) ys all = (all.0, all_front P xs ys all.1)

all_back : {X : Type 0} (P : X → Type 0) (xs ys : List X) → AllByRecursion P (xs ++ ys) → AllByRecursion P ys
all_back P [] ys all = all
all_back P (x ∷ xs) ys all = all_back P xs ys all.1

-- The objects of each group are well formed, if those of all groups are.
pub group_kept : (program : List Class) (groups : List (List StoredObject)) (i : ℕ) (group default : List StoredObject) → i < length groups → group ≡ get_or groups i default
    → AllByRecursion (IsKept program) (flat_map (λ g. g) groups) → AllByRecursion (IsKept program) group
group_kept program [] i group default within at all = absurd (omega (arith, within))
group_kept program (g ∷ groups) zero group default within at all = subst (AllByRecursion (IsKept program)) (sym at) (all_front (IsKept program) g (flat_map (λ g. g) groups) all)
group_kept program (g ∷ groups) (suc i) group default within at all =
    group_kept program groups i group default (omega (arith, within)) at (all_back (IsKept program) g (flat_map (λ g. g) groups) all)
