-- Levels that are counted together, and the least number of levels.
use Rattle.std.proofs.Common.{◌≡◌, ℕ, ◌+◌, ◌<◌, ◌≤◌, List, Any, IfSome, get_or, length, take, sym, ap, ◌∙◌, subst, arith, slice_get}
use Rattle.std.proofs.lemmas.List.Elements.{All-more}
use Rattle.exploring.specs.declared.answer.LevelRuns.{LevelRuns}
use Rattle.exploration_joins.specs.Sums.{HaveLevels, sum_at}
use Rattle.exploration_joins.specs.declared.part.PartText.{PartText}

-- The levels so far are sums.
pub record AreSumsBelow (parts : List PartText) (level : ℕ) (levels : List LevelRuns) : Type 0 where
  pub count : length levels ≡ level
  pub each : (k : ℕ) → IfSome (slice_get levels k) (λ runs. runs ≡ sum_at k parts)

module _ (parts : List PartText) (i : ℕ) (part : PartText) (within : i < length parts) (is : part ≡ get_or parts i part) where
  more : (old new : ℕ) → HaveLevels (take i parts) old → new ≤ old → new ≤ length part.levels.items → HaveLevels (take (i + 1) parts) new
  more old new have less here =
      All-more (λ p. new ≤ length p.levels.items) parts i part within
      (λ k d inside. let all = have k d inside in omega (arith, all, less))
      (subst (λ p. new ≤ length p.levels.items) is here)

  pub takes : (old new : ℕ) → HaveLevels (take i parts) old → new ≡ length part.levels.items → new < old → HaveLevels (take (i + 1) parts) new × Any (λ p. length p.levels.items ≡ new) parts
  takes old new have here less =
      (more old new have (omega (arith, less)) (omega (arith, here)), (i, part, within, sym is, sym here))

  pub keeps : (old new : ℕ) → HaveLevels (take i parts) old → Any (λ p. length p.levels.items ≡ old) parts → new ≡ old → old ≤ length part.levels.items → HaveLevels (take (i + 1) parts) new × Any (λ p. length p.levels.items ≡ new) parts
  keeps old new have one same less =
      (more old new have (omega (arith, same)) (omega (arith, same, less)), (one.0, one.1, one.2, one.3, one.4 ∙ sym same))
