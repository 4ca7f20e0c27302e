-- Defines over how many turns the priorities of a campaign's jobs change (own): as many as the default's run has.
use Rattle.std.specs.Prelude.{◌≡◌, ℕ, max, min, List, [], length, Result, Ok, Err}
use Rattle.jvms_machine.specs.declared.machine.Entry.{Entry}
use Rattle.jvms_machine.specs.declared.machine.Limits.{Limits}
use Rattle.schedule.specs.Choosers.{chooser_of_schedule}
use Rattle.schedule.specs.Schedules.{Staying}
use Rattle.program_runs.specs.Shown.{Shown}
use Rattle.inputs.specs.declared.input.Input.{Input}
use Rattle.judge.specs.Programs.{NotRun}
use Rattle.judge.specs.Shown.{run_judged}

-- Returns what the run of the default shows, which is the schedule without departures, `stay:`, or why there is no run.
abbrev pub default_shown : ℕ → Limits → List Input → Entry → Result Shown NotRun
default_shown most limits inputs entry = run_judged most (chooser_of_schedule (Staying [])) limits inputs entry

-- Returns the span of a run: the number of its turns, but at least 1 and at most 2^32.
abbrev pub span_of : Shown → ℕ
span_of shown = max 1 (min 4294967296 (length shown.choices))

-- There is a run, and this is its span.
abbrev pub IsSpanIn : Result Shown NotRun → ℕ → Type 0
IsSpanIn (Ok shown) span = span ≡ span_of shown
IsSpanIn (Err why) span = ⊥
