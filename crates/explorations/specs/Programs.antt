-- Defines the exploration of the program of class files and sources (own).
use Rattle.std.specs.Prelude.{ℕ, List, Option, Result, Ok, Err}
use Rattle.jvms_file.specs.Results.{◌>>=◌}
use Rattle.jvms_program.specs.declared.program.Class.{Class}
use Rattle.jvms_machine.specs.Opening.{start_of_entry}
use Rattle.trace.specs.Bytes.{AppendsBeginning}
use Rattle.exploration_text.specs.declared.explore_jobs.Plan.{Plan}
use Rattle.exploration_text.specs.exploring.Answers.{IsAnswerTo}
use Rattle.exploration_text.specs.declared.exploring.Answer.{Answer}
use Rattle.exploration_text.specs.declared.exploring.Bounds.{Bounds}
use Rattle.exploration_text.specs.Texts.{answer_text}
use Rattle.inputs.specs.declared.input.Input.{Input}
use Rattle.judge.specs.Programs.{NotRun, not_made, program_in, with_reason}

-- Returns the program if a machine of it can be made for a plan, or why not.
abbrev pub fitting_program : Plan → List Class → Result (List Class) NotRun
fitting_program plan program = do
  start ← with_reason not_made (start_of_entry program plan.limits plan.entry)
  Ok program

-- Returns the program of inputs if a machine of it can be made for a plan, or why there is no exploration.
unfoldable pub program_for : Plan → List Input → Result (List Class) NotRun
program_for plan inputs = do
  program ← program_in inputs
  fitting_program plan program

-- This is the answer of the program's exploration up to these bounds.
abbrev pub IsAnswerOf : Plan → Bounds → Result (List Class) NotRun → Answer → Type 0
IsAnswerOf plan bounds (Ok program) answer = IsAnswerTo program plan bounds answer
IsAnswerOf plan bounds (Err why) answer = ⊥

-- A prefix of the answer's text was written.
abbrev pub WroteBeginning : Plan → Bounds → Result (List Class) NotRun → Option (List ℕ) → Option (List ℕ) → Type 0
WroteBeginning plan bounds said old new =
    (answer : Answer) × IsAnswerOf plan bounds said answer × AppendsBeginning old new (answer_text bounds.departures plan answer)
