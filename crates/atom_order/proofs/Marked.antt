-- Sets of numbers, and one more or one less.
use Rattle.std.proofs.Common.{◌≡◌, ℕ, Bool, true, false, cond, ◌||◌, ◌==◌, List, [], ◌∷◌, ◌++◌, refl, sym, ap, ◌∙◌, arith}
use Rattle.std.proofs.lemmas.Bool.Decides.{nat_tests}
use Rattle.std.specs.Ordering.{nat_cmp}
use Rattle.std.specs.BTreeMap.{is_at}
use Rattle.atom_order.specs.Reaching.{is_among}
use Rattle.atom_order.specs.Marking.{has_key, HasMarks}
use Rattle.atom_order.proofs.Vacated.{among_push}

pub same_key : (y q : ℕ) → is_at (nat_cmp y) q ≡ (q == y)
same_key y q = grind (arith, nat_tests)

-- The numbers of a list are in a set. One more is.
pub marks_push : (keys more list : List ℕ) (y : ℕ) → HasMarks keys list → ((q : ℕ) → has_key more q ≡ cond (is_at (nat_cmp y) q) true (has_key keys q)) → HasMarks more (list ++ y ∷ [])
marks_push keys more list y has updates q =
    updates q ∙ ap (λ b. cond b true (has_key keys q)) (same_key y q) ∙ ap (λ b. cond (q == y) true b) (has q) ∙ turned (q == y) (is_among q list) ∙ sym (among_push q y list)
  where
    turned : (a b : Bool) → cond a true b ≡ (b || a)
    turned true true = refl
    turned true false = refl
    turned false true = refl
    turned false false = refl
