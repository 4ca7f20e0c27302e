-- Defines what a run of the program of inputs returns, or the fault instead.
use Rattle.std.specs.Prelude.{◌≡◌, ℕ, List, Option, Result, Ok, IfOk, IfErr, OnOk, length}
use Rattle.jvms_program.specs.declared.program.Class.{Class}
use Rattle.jvms_machine.specs.declared.machine.Entry.{Entry}
use Rattle.jvms_machine.specs.declared.machine.Limits.{Limits}
use Rattle.program_runs.specs.schedule.Choosers.{Chooser}
use Rattle.velodrome.specs.Specification.{Specification}
use Rattle.program_runs.specs.declared.runs.Ending.{Ending}
use Rattle.program_runs.specs.declared.feeding.Judgement.{Judgement}
use Rattle.program_runs.specs.declared.fault.ProgramFault.{ProgramFault}
use Rattle.program_runs.specs.Faults.{IsProgramFault}
use Rattle.program_runs.specs.Shown.{HasEnding, program_chooser_left, view_of_program}
use Rattle.inputs.specs.declared.input.Input.{Input}
use Rattle.judge.specs.declared.fault.JudgeFault.{JudgeFault}
use Rattle.judge.specs.Faults.{IsFault, NamesFile}
use Rattle.judge.specs.Judgement.{IsJudgementOn}
use Rattle.judge.specs.Shown.{chooser_left, program_judged, run_judged}

-- The result of a run by a chooser, which is `before` first and `after` then. A value has an ending and a judgement.
pub record IsRunOf {A : Type 0} (ending_of : A → Ending) (judgement_of : A → Option Judgement) (spec : Option Specification) (most : ℕ) (before after : Chooser) (limits : Limits) (inputs : List Input) (entry : Entry) (result : Result A JudgeFault) : Type 0 where
  -- The number of turns, the result, output, status and uncaught exceptions are those of the run that `judge` returns.
  pub ending : IfOk result (λ run. HasEnding (run_judged most before limits inputs entry) (ending_of run))
  -- The judgement is the verdict on the items of that run with their counts, or `None` without a specification.
  pub judged : IfOk result (λ run. IsJudgementOn spec (run_judged most before limits inputs entry) (judgement_of run))
  -- The chooser is then the one after its choices.
  pub chooser : OnOk result (chooser_left most before limits inputs entry ≡ Ok after)
  -- A fault is returned only if its condition holds. A fault of an input names one of these.
  pub fault : IfErr result (λ fault. IsFault fault (run_judged most before limits inputs entry))
  pub named : IfErr result (λ fault. NamesFile (length inputs) fault)

-- The result of a run of a program by a chooser, which is `before` first and `after` then. A value has an ending and a
-- judgement.
pub record IsProgramRunOf {A : Type 0} (ending_of : A → Ending) (judgement_of : A → Option Judgement) (spec : Option Specification) (most : ℕ) (before after : Chooser) (limits : Limits) (program : List Class) (entry : Entry) (result : Result A ProgramFault) : Type 0 where
  -- The number of turns, the result, output, status and uncaught exceptions are those of the run.
  pub ending : IfOk result (λ run. HasEnding (program_judged most before limits program entry) (ending_of run))
  -- The judgement is the verdict on the items of the run with their counts, or `None` without a specification.
  pub judged : IfOk result (λ run. IsJudgementOn spec (program_judged most before limits program entry) (judgement_of run))
  -- The chooser is then the one after its choices.
  pub chooser : OnOk result (program_chooser_left most before limits program entry ≡ Ok after)
  -- A fault is returned only if its condition holds.
  pub fault : IfErr result (λ fault. IsProgramFault fault (view_of_program most before limits program entry))
