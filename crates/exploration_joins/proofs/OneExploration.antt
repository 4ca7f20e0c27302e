-- Parts that are of one exploration, and parts that aren't.
use Rattle.std.proofs.Common.{◌≡◌, ℕ, ◌<◌, Bool, true, false, List, All, Any, MatchBool, MatchOption, Option, Some, None, get_or, is_some, length, sym, ap, ◌∙◌, subst}
use Rattle.std.proofs.lemmas.Bool.{false≢true}
use Rattle.exploration_joins.specs.Joins.{AreAlike, AreOfOne, AreOfSeveral, CoversNoOther, CoversOther, covered_words}
use Rattle.exploration_joins.specs.declared.part.PartText.{PartText}

module _ (parts : List PartText) (first : PartText) (some : 0 < length parts) (is : first ≡ get_or parts 0 first) where
  pub other_count : Any (λ part. part.part.count ≡ first.part.count → ⊥) parts → AreOfSeveral parts
  other_count one = (one.0, one.1, one.2, one.3, (0, first, some, sym is, (λ alike. one.4 alike.count)))

  abbrev HaveCount : Type 0
  HaveCount = All (λ part. part.part.count ≡ first.part.count) parts

  pub same_words : (words : List ℕ) → HaveCount → All (CoversNoOther words) parts → AreOfOne parts
  same_words words counts none k d within j e inside =
      record {
        count = counts k d within ∙ sym (counts j e inside);
        words = λ a b covers others. none k d within a covers ∙ sym (none j e inside b others);
      }

  pub no_words : HaveCount → All (λ part. covered_words part.found ≡ None) parts → AreOfOne parts
  no_words counts none k d within j e inside =
      record {
        count = counts k d within ∙ sym (counts j e inside);
        words = λ a b covers others. absurd (false≢true (ap is_some (sym (none k d within) ∙ covers)));
      }

  pub other_words : (words : List ℕ) → Any (λ part. covered_words part.found ≡ Some words) parts → Any (CoversOther words) parts → AreOfSeveral parts
  other_words words one other =
      (other.0, other.1, other.2, other.3, (one.0, one.1, one.2, one.3, (λ alike. other.4.differ (alike.words other.4.others words other.4.covers one.4))))

  pub by_words : (words : List ℕ) (b : Bool) → HaveCount → Any (λ part. covered_words part.found ≡ Some words) parts
      → MatchBool b (All (CoversNoOther words) parts) (Any (CoversOther words) parts) → MatchBool b (AreOfOne parts) (AreOfSeveral parts)
  by_words words true counts one all = same_words words counts all
  by_words words false counts one other = other_words words one other
