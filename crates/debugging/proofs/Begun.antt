-- A session that begins, or the reason why it doesn't.
use Rattle.std.proofs.Common.{◌≡◌, ℕ, List, Result, Ok, Err, refl, sym, ap, ◌∙◌}
use Rattle.std.specs.Prelude.{IsTrue, is_ok}
use Rattle.jvms_file.specs.Results.{◌>>=◌}
use Rattle.jvms_program.specs.declared.program.Class.{Class}
use Rattle.jvms_machine.specs.declared.machine.Entry.{Entry}
use Rattle.jvms_machine.specs.declared.machine.Limits.{Limits}
use Rattle.jvms_machine.specs.Opening.{StartFault, start_of_entry}
use Rattle.jvms_machine.specs.Start.{Start}
use Rattle.machine.specs.declared.fault.MachineFault.{MachineFault}
use Rattle.machine.specs.declared.fault.MachineFault.TheVariants as machine_fault
use Rattle.machine.specs.Started.{IsNotMade}
use Rattle.schedule.specs.Choosers.{Chooser}
use Rattle.judge.specs.Faults.{IsMachineFault}
use Rattle.judge.specs.Programs.{not_made, with_reason}
use Rattle.debugger.specs.Sessions.{Debugger, new_debugger}
use Rattle.debugging.specs.Sessions.{AreChoices, session_from, session_on}

-- ---- Faults

-- If there is a start, there is a session.
is_session_too : (start : Result Start StartFault) (session : Start → Debugger) → IsTrue (is_ok start)
    → IsTrue (is_ok (with_reason not_made start >>= λ s. Ok (session s)))
is_session_too (Ok start) session is = refl
is_session_too (Err why) session is = absurd (cc)

-- The reason why no machine was made is why there is no session.
pub is_fault : (most : ℕ) (chooser : Chooser) (limits : Limits) (program : List Class) (entry : Entry) (why : MachineFault)
    → IsNotMade program limits entry why → IsMachineFault why (session_on most chooser limits program entry)
unfolding session_on
is_fault most chooser limits program entry machine_fault.NoEntry is = ap (λ r. with_reason not_made r >>= λ start. Ok (session_from most chooser limits program start)) is
is_fault most chooser limits program entry machine_fault.Limits is = ap (λ r. with_reason not_made r >>= λ start. Ok (session_from most chooser limits program start)) is
is_fault most chooser limits program entry machine_fault.Memory is =
    is_session_too (start_of_entry program limits entry) (λ start. session_from most chooser limits program start) is

-- ---- The session

-- One entry has one start.
one_start : (r : Result Start StartFault) (a b : Start) → r ≡ Ok a → r ≡ Ok b → a ≡ b
one_start r a b first second = let same : Ok a ≡ Ok b = sym first ∙ second in cc

pub is_session : (most : ℕ) (chooser : Chooser) (limits : Limits) (program : List Class) (entry : Entry) (choices : List ℕ) (other : Start) (d : Debugger)
    → AreChoices most chooser limits program entry choices → start_of_entry program limits entry ≡ Ok other
    → d ≡ new_debugger (record { program = program; limits = limits; start = other }) choices → session_on most chooser limits program entry ≡ Ok d
unfolding session_on
is_session most chooser limits program entry choices other d (start, is, all) also begins =
    let same : start ≡ other = one_start (start_of_entry program limits entry) start other is also in
    ap (λ r. with_reason not_made r >>= λ s. Ok (session_from most chooser limits program s)) is
    ∙ ap (λ cs. Ok (new_debugger (record { program = program; limits = limits; start = start }) cs)) (sym all)
    ∙ ap (λ s. Ok (new_debugger (record { program = program; limits = limits; start = s }) choices)) same ∙ ap Ok (sym begins)
