-- Defines the results of functions that read a source and allocate memory.
use Rattle.std.specs.Prelude.{◌≡◌, ℕ, Result, Ok, Err}
use Rattle.jasmin.specs.declared.source.Source.{Source}
use Rattle.jasmin.specs.declared.statement.Flaw.{Flaw}
use Rattle.jasmin_instructions.specs.declared.fault.LineFault.{LineFault}
use Rattle.jasmin_instructions.specs.declared.fault.LineFault.TheVariants as line_fault
use Rattle.jasmin_reader.specs.declared.fault.SourceFault.{SourceFault}
use Rattle.jasmin_reader.specs.declared.fault.SourceFault.TheVariants as fault

-- Returns the fault of a line with its number.
abbrev pub source_fault : ℕ → LineFault → SourceFault
source_fault n (line_fault.Flaw f) = fault.Flawed f n
source_fault n line_fault.Memory = fault.Memory

-- The result, mapped by `view`, is what is read, or its fault. If memory ran out, it states nothing about the
-- definition.
abbrev pub Reads : {X Y : Type 0} → (X → Y) → Result X SourceFault → Result Y (ℕ × Flaw) → Type 0
Reads view (Ok x) read = read ≡ Ok (view x)
Reads view (Err (fault.Flawed f n)) read = read ≡ Err (n, f)
Reads view (Err fault.Memory) read = Unit {0}

-- The result is the tree that is read, or the first faulty line with the least number of its faults. If memory ran out,
-- it states nothing about the definition.
abbrev pub IsRead : Result Source SourceFault → Result Source (ℕ × Flaw) → Type 0
IsRead = Reads (λ s. s)
