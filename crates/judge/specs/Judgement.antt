-- Defines the judgement on a trace, if there is a specification.
use Rattle.std.specs.Prelude.{List, Option, Some, None, Result, Ok}
use Rattle.jvms_machine.specs.declared.trace.Item.{Item}
use Rattle.velodrome.specs.Specification.{Specification}
use Rattle.program_runs.specs.declared.feeding.Judgement.{Judgement}
use Rattle.program_runs.specs.Judgements.{IsJudgementBy}
use Rattle.program_runs.specs.Shown.{Shown}
use Rattle.judge.specs.Programs.{NotRun}

-- The judgement is that of the items by the specification. Without one there is none.
abbrev pub IsJudgement : Option Specification → List Item → Option Judgement → Type 0
IsJudgement None items None = Unit {0}
IsJudgement (Some lines) items (Some j) = IsJudgementBy lines items j
IsJudgement _ _ _ = ⊥

-- The judgement is that of the items of a run by the specification. Without one there is none.
abbrev pub IsJudgementOn : Option Specification → Result Shown NotRun → Option Judgement → Type 0
IsJudgementOn None said None = Unit {0}
IsJudgementOn (Some lines) (Ok shown) (Some j) = IsJudgementBy lines shown.items j
IsJudgementOn _ _ _ = ⊥
