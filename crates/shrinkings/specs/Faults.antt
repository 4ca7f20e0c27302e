-- Defines why no run is shrunk, or why it wasn't written.
use Rattle.std.specs.Prelude.{◌≡◌, ℕ, List, None, Result, Ok}
use Rattle.departures.specs.declared.departure.Departure.{Departure}
use Rattle.explore_jobs.specs.declared.plan.Plan.{Plan}
use Rattle.judge.specs.Faults as judge
use Rattle.judge.specs.Programs.{NotRun}
use Rattle.jvms_program.specs.declared.program.Class.{Class}
use Rattle.schedule.specs.Choosers.{Chooser}
use Rattle.shrinkings.specs.Programs.{NamesRun}
use Rattle.shrinkings.specs.Shrunk.{FailsFirst}
use Rattle.shrinkings.specs.declared.fault.ShrinkFault.{ShrinkFault}
use Rattle.shrinkings.specs.declared.fault.ShrinkFault.TheVariants as fault

-- There is a program that the plan fits.
abbrev pub IsFitted : Result (List Class) NotRun → Type 0
IsFitted said = (program : List Class) × (said ≡ Ok program)

-- The run of the departures that name the choices of a chooser's run of the program doesn't fail.
abbrev pub IsFine : List Class → Plan → Chooser → Type 0
IsFine program plan chooser =
    (given : List Departure) × NamesRun program plan chooser given × FailsFirst program plan given None

-- The fault of a program is the first one, unless memory ran out. A run that doesn't fail isn't shrunk.
abbrev pub IsFault : Plan → Chooser → ShrinkFault → Result (List Class) NotRun → Type 0
IsFault plan chooser (fault.Judge why) said = judge.IsFault why said
IsFault plan chooser fault.NotFailing said = (program : List Class) × (said ≡ Ok program) × IsFine program plan chooser
IsFault plan chooser fault.Output said = IsFitted said

-- A fault of an input names one of this number of files.
abbrev pub NamesFile : ℕ → ShrinkFault → Type 0
NamesFile files (fault.Judge why) = judge.NamesFile files why
NamesFile files fault.NotFailing = Unit {0}
NamesFile files fault.Output = Unit {0}
