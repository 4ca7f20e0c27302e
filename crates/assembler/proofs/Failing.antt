-- Proves that the fault of one step is that of the sequence.
use Rattle.std.proofs.Common.{Result, Err, ap}
use Rattle.jvms_file.specs.Results.{◌>>=◌}
use Rattle.pool_entries.specs.declared.fault.EntryFault.{EntryFault}
use Rattle.pool_entries.specs.declared.fault.EntryFault.TheVariants as entry_fault
use Rattle.pool_entries.specs.Entries.{Fails}
use Rattle.assembly.specs.declared.fault.AsmFault.{AsmFault}
use Rattle.assembly.specs.declared.fault.AsmFault.TheVariants as fault
use Rattle.assembly.specs.Faults.{fault_of, with_source_fault, Answers}

pub fails_on : {A B : Type 0} (e : EntryFault) (asked : Result A EntryFault) (next : A → Result B EntryFault) → Fails e asked → Fails e (asked >>= next)
fails_on {A} entry_fault.Memory asked next is = tt
fails_on {A} entry_fault.TooLong asked next is = ap (λ (r : Result A EntryFault). r >>= next) is
fails_on {A} entry_fault.PoolFull asked next is = ap (λ (r : Result A EntryFault). r >>= next) is

pub numbered_fails : {A B : Type 0} (e : EntryFault) (asked : Result A EntryFault) (next : A → Result B AsmFault) → Fails e asked → Answers (Err (fault_of e)) (with_source_fault asked >>= next)
numbered_fails {A} entry_fault.Memory asked next is = tt
numbered_fails {A} entry_fault.TooLong asked next is = ap (λ (r : Result A EntryFault). with_source_fault r >>= next) is
numbered_fails {A} entry_fault.PoolFull asked next is = ap (λ (r : Result A EntryFault). with_source_fault r >>= next) is

pub answers_on : {A B : Type 0} (e : AsmFault) (asked : Result A AsmFault) (next : A → Result B AsmFault) → Answers (Err e) asked → Answers (Err e) (asked >>= next)
answers_on {A} fault.Memory asked next is = tt
answers_on {A} e asked next is = ap (λ (r : Result A AsmFault). r >>= next) is
