-- Maps the faults of pool entries to those of a source, and defines the results of functions that may fail.
use Rattle.std.specs.Prelude.{◌≡◌, Result, Ok, Err}
use Rattle.pool_entries.specs.declared.fault.EntryFault.{EntryFault}
use Rattle.pool_entries.specs.declared.fault.EntryFault.TheVariants as entry_fault
use Rattle.assembly.specs.declared.fault.AsmFault.{AsmFault}
use Rattle.assembly.specs.declared.fault.AsmFault.TheVariants as fault

-- Returns the fault of a source. A text of too many bytes is the fault TooMany.
abbrev pub fault_of : EntryFault → AsmFault
fault_of entry_fault.TooLong = fault.TooMany
fault_of entry_fault.PoolFull = fault.PoolFull
fault_of entry_fault.Memory = fault.Memory

-- Returns the result with the entry's fault mapped to that of a source.
abbrev pub with_source_fault : {A : Type 0} → Result A EntryFault → Result A AsmFault
with_source_fault (Ok a) = Ok a
with_source_fault (Err e) = Err (fault_of e)

-- The fault is that of the definition. If memory ran out, it states nothing about the definition.
abbrev pub Fails : {A : Type 0} → AsmFault → Result A AsmFault → Type 0
Fails fault.Memory given = Unit {0}
Fails e given = given ≡ Err e

-- The result is that of the definition, unless memory ran out.
abbrev pub Answers : {A : Type 0} → Result A AsmFault → Result A AsmFault → Type 0
Answers (Ok a) given = given ≡ Ok a
Answers (Err e) given = Fails e given
