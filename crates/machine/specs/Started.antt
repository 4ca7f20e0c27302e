-- The start of a machine, by its entry.
use Rattle.std.specs.Prelude.{◌≡◌, MatchResult, Result, Ok, Err, List, IsTrue, is_ok}
use Rattle.jvms_machine.specs.declared.machine.Entry.{Entry}
use Rattle.jvms_machine.specs.declared.machine.Limits.{Limits}
use Rattle.jvms_program.specs.declared.number.MethodNumber.{MethodNumber}
use Rattle.jvms_program.specs.declared.program.Class.{Class}
use Rattle.jvms_machine.specs.Start.{Start, entry_arguments}
use Rattle.jvms_machine.specs.Opening.{start_of_entry, opening, no_entry, no_limits}
use Rattle.machine.specs.declared.fault.MachineFault.{MachineFault}
use Rattle.machine.specs.declared.fault.MachineFault.TheVariants as fault
use Rattle.invoke.specs.machine_parts.Machine.{Machine}

abbrev pub with_arguments : Entry → MethodNumber → Start
with_arguments e n = record { method = n; arguments = entry_arguments e }

-- Returns a machine at its opening.
abbrev pub opened_machine : List Class → Limits → Start → Machine
opened_machine program limits start = record { program = program; limits = limits; start = start; state = opening program }

-- The fault of a machine that isn't made: the entry is tested first, then the limits, and then memory can run out.
abbrev pub IsNotMade : List Class → Limits → Entry → MachineFault → Type 0
IsNotMade program limits e fault.NoEntry = start_of_entry program limits e ≡ Err no_entry
IsNotMade program limits e fault.Limits = start_of_entry program limits e ≡ Err no_limits
IsNotMade program limits e fault.Memory = IsTrue (is_ok (start_of_entry program limits e))

-- The result is a machine at its opening with the start of the entry, or the fault.
abbrev pub IsNew : List Class → Limits → Entry → Result Machine MachineFault → Type 0
IsNew program limits e result =
    MatchResult result (λ m. (start : Start) × (start_of_entry program limits e ≡ Ok start) × (m ≡ opened_machine program limits start)) (IsNotMade program limits e)
