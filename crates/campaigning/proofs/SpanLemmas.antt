-- The span of a run is that of its ending.
use Rattle.std.proofs.Common.{◌≡◌, ℕ, ap, ◌∙◌}
use Rattle.std.specs.Prelude.{max, min, Result, Ok, Err}
use Rattle.program_runs.specs.declared.runs.Ending.{Ending}
use Rattle.program_runs.specs.Shown.{HasEnding, Shown}
use Rattle.judge.specs.Programs.{NotRun}
use Rattle.campaigning.specs.Spans.{IsSpanIn}

pub span_is : (shown : Result Shown NotRun) (ending : Ending) (span : ℕ) → HasEnding shown ending
    → span ≡ max 1 (min 4294967296 ending.turns) → IsSpanIn shown span
span_is (Ok shown) ending span ends is = is ∙ ap (λ (e : Ending). max 1 (min 4294967296 e.turns)) ends
span_is (Err why) ending span ends is = absurd ends
