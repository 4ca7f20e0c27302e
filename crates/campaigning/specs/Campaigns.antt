-- Defines the campaign of the program of class files and sources (own).
use Rattle.std.specs.Prelude.{ℕ, List, Option, Result, Ok, Err}
use Rattle.jvms_file.specs.Results.{◌>>=◌}
use Rattle.jvms_program.specs.declared.program.Class.{Class}
use Rattle.jvms_machine.specs.Opening.{start_of_entry}
use Rattle.trace.specs.Bytes.{AppendsBeginning}
use Rattle.campaign_jobs.specs.declared.plan.Plan.{Plan}
use Rattle.campaign_jobs.specs.declared.result.JobResult.{JobResult}
use Rattle.campaign_text.specs.campaign.Tables.{IsTable}
use Rattle.campaign_text.specs.TableTexts.{table_text}
use Rattle.inputs.specs.declared.input.Input.{Input}
use Rattle.judge.specs.Programs.{NotRun, not_made, program_in, with_reason}

-- Returns the program if a machine of it can be made for a plan, or why not.
abbrev pub fitting_program : Plan → List Class → Result (List Class) NotRun
fitting_program plan program = do
  start ← with_reason not_made (start_of_entry program plan.limits plan.entry)
  Ok program

-- Returns the program of inputs if a machine of it can be made for a plan, or why there is no campaign.
unfoldable pub program_for : Plan → List Input → Result (List Class) NotRun
program_for plan inputs = do
  program ← program_in inputs
  fitting_program plan program

-- These are the results of the campaign's table.
abbrev pub IsTableOf : Plan → Result (List Class) NotRun → List JobResult → Type 0
IsTableOf plan (Ok program) results = IsTable program plan results
IsTableOf plan (Err why) results = ⊥

-- A prefix of the table's text was written.
abbrev pub WroteBeginning : Plan → Result (List Class) NotRun → Option (List ℕ) → Option (List ℕ) → Type 0
WroteBeginning plan said old new =
    (results : List JobResult) × IsTableOf plan said results × AppendsBeginning old new (table_text plan.first results)
