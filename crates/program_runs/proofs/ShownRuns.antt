-- The items that a run shows may be fed to a checker.
use Rattle.std.proofs.Common.{◌≡◌, ℕ, ◌≤◌, Bool, true, false, List, refl, sym, subst, arith}
use Rattle.std.specs.Prelude.{IsTrue, if◌then◌else◌, Option, Some, None, Result, Ok, Err}
use Rattle.jvms_file.specs.Results.{◌>>=◌}
use Rattle.jvms_program.specs.declared.program.Class.{Class}
use Rattle.jvms_program.specs.Program.{IsProgram}
use Rattle.jvms_machine.specs.declared.machine.Entry.{Entry}
use Rattle.jvms_machine.specs.declared.machine.Limits.{Limits}
use Rattle.jvms_machine.specs.Limits.{are_limits}
use Rattle.jvms_machine.specs.Opening.{StartFault, no_limits, start_of_entry, start_within_limits}
use Rattle.jvms_machine.specs.Start.{Start, start_of}
use Rattle.jvms_machine.proofs.StartLaws.{entry_is_start}
use Rattle.runs.specs.machine.Machine.{Machine}
use Rattle.runs.specs.machine.Started.{opened_machine}
use Rattle.runs.specs.machine.Runs.{run_of}
use Rattle.runs.specs.schedule.Choosers.{Chooser}
use Rattle.runs.specs.Choices.{choices_from}
use Rattle.runs.proofs.ChosenTurns.{choices_are_few}
use Rattle.velodrome.specs.Specification.{Specification}
use Rattle.program_runs.specs.Judgements.{IsOpened, MayBeFed}
use Rattle.program_runs.specs.Shown.{Shown, view_of_program, view_of_run}
use Rattle.program_runs.proofs.Fed.{run_may_be_fed}

abbrev within_by : Bool → Start → Result Start StartFault
within_by are start = if are then Ok start else Err no_limits

within_is : (are : Bool) (s start : Start) → within_by are s ≡ Ok start → (Some s ≡ Some start) × IsTrue are
within_is true s start is = (cc, refl)
within_is false s start is = absurd (cc)

start_is : (limits : Limits) (o : Option Start) (start : Start) → start_within_limits limits o ≡ Ok start → (o ≡ Some start) × IsTrue (are_limits limits)
start_is limits None start is = absurd (cc)
start_is limits (Some s) start is = within_is (are_limits limits) s start is

-- A machine that was made is before its first turn.
pub made_is_opened : (limits : Limits) (program : List Class) (entry : Entry) (start : Start) → IsProgram program → start_of_entry program limits entry ≡ Ok start → IsOpened (opened_machine program limits start)
made_is_opened limits program entry start is made_is =
    let starts = start_is limits (start_of program entry) start made_is in
    record { classes = is; limits = starts.1; start = entry_is_start program entry start starts.0; state = refl }

-- The items of a chooser's choices may be fed if the choices aren't too many.
pub opened_may_be_fed : (lines : Specification) (most : ℕ) (chooser : Chooser) (m : Machine) → IsOpened m → most ≤ 100000000 → MayBeFed lines (run_of m (choices_from most chooser m)).items
opened_may_be_fed lines most chooser m is few =
    let short = choices_are_few most chooser m in
    subst (λ (n : Machine). MayBeFed lines (run_of n (choices_from most chooser m)).items) (sym is.state)
    (run_may_be_fed lines m.program m.limits m.start (choices_from most chooser m) is.classes is.limits is.start (omega arith))

-- Returns what a run shows from the start of its entry.
abbrev shown_from : ℕ → Chooser → List Class → Limits → Result Start StartFault → Result Shown StartFault
shown_from most chooser program limits start = start >>= λ start. Ok (view_of_run most chooser (opened_machine program limits start))

fed_from : (lines : Specification) (most : ℕ) (chooser : Chooser) (limits : Limits) (program : List Class) (entry : Entry) (shown : Shown) (r : Result Start StartFault)
    → IsProgram program → most ≤ 100000000 → start_of_entry program limits entry ≡ r → shown_from most chooser program limits r ≡ Ok shown → MayBeFed lines shown.items
fed_from lines most chooser limits program entry shown (Err why) is few made_is said = absurd (cc)
fed_from lines most chooser limits program entry shown (Ok start) is few made_is said =
    let same : view_of_run most chooser (opened_machine program limits start) ≡ shown = cc in
    subst (λ (s : Shown). MayBeFed lines s.items) same
    (opened_may_be_fed lines most chooser (opened_machine program limits start) (made_is_opened limits program entry start is made_is) few)

pub shown_may_be_fed : (lines : Specification) (most : ℕ) (chooser : Chooser) (limits : Limits) (program : List Class) (entry : Entry) (shown : Shown)
    → IsProgram program → most ≤ 100000000 → view_of_program most chooser limits program entry ≡ Ok shown → MayBeFed lines shown.items
unfolding view_of_program
shown_may_be_fed lines most chooser limits program entry shown is few said =
    fed_from lines most chooser limits program entry shown (start_of_entry program limits entry) is few refl said
