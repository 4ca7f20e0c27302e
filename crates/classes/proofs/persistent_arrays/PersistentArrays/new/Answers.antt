use Rattle.std.proofs.Common.{◌≡◌, ℕ, List, [], ◌∷◌, refl, subst, sym, arith}
use Rattle.classes.specs.PersistentArrays.{IsTree, item_at}
use Rattle.classes.proofs.PersistentArrayLaws.{empty_item, empty_tree, no_children}
use Rattle.classes.proofs.persistent_arrays.PersistentArrays.new.Goals as goal

pub returns-clause-tree : goal.returns-clause-tree
returns-clause-tree c =
    subst (λ (nodes : List (List ℕ)). IsTree nodes c.levels_for-levels.result 0) (sym c.in_ok-nodes.ensures.items)
    (empty_tree ((0 ∷ 0 ∷ 0 ∷ 0 ∷ []) ∷ []) (omega arith) refl no_children c.levels_for-levels.result)

pub returns-clause-items : goal.returns-clause-items
returns-clause-items c =
    subst (λ (nodes : List (List ℕ)). (i : ℕ) → item_at nodes c.levels_for-levels.result 0 i ≡ 0) (sym c.in_ok-nodes.ensures.items)
    (λ i. empty_item ((0 ∷ 0 ∷ 0 ∷ 0 ∷ []) ∷ []) (omega arith) refl no_children c.levels_for-levels.result i)
