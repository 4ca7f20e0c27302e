-- Proves properties of lists that grow at their end.
use Rattle.std.proofs.Common.{◌≡◌, Bool, false, List, [], ◌∷◌, ◌++◌, refl, ◌∙◌}
use Rattle.std.specs.List.{AllByRecursion, list_any}
use Rattle.std.proofs.lemmas.Bool.{or_parts, or_from}
use Rattle.std.proofs.lemmas.List.Folds.{list_any-append}
use Rattle.jvms_file.specs.Spelling.{IsDistinctBy}

-- All elements satisfy a predicate if a new last one does too.
pub one_more : {A : Type 0} (P : A → Type 0) (xs : List A) (x : A) → AllByRecursion P xs → P x → AllByRecursion P (xs ++ x ∷ [])
one_more P [] x all new = (new, tt)
one_more P (y ∷ ys) x all new = (all.0, one_more P ys x all.1 new)

-- Distinct elements stay distinct if a new last one equals none of them.
pub one_more_distinct : {A : Type 0} (same : A → A → Bool) (seen : List A) (x : A) → IsDistinctBy same seen → list_any (λ s. same s x) seen ≡ false → IsDistinctBy same (seen ++ x ∷ [])
one_more_distinct same [] x distinct fresh = (refl, tt)
one_more_distinct same (s ∷ seen) x distinct fresh =
    let other = or_parts (same s x) (list_any (λ y. same y x) seen) fresh in (
      list_any-append (λ y. same s y) seen (x ∷ []) ∙ or_from (list_any (λ y. same s y) seen) (list_any (λ y. same s y) (x ∷ [])) distinct.0 (or_from (same s x) false other.0 refl),
      one_more_distinct same seen x distinct.1 other.1,
    )
