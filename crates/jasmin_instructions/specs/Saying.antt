-- Defines the results of functions that judge a line and allocate memory.
use Rattle.std.specs.Prelude.{◌≡◌, Result, Ok, Err}
use Rattle.jasmin.specs.Judgements.{Judged}
use Rattle.jasmin_instructions.specs.declared.fault.LineFault.{LineFault}
use Rattle.jasmin_instructions.specs.declared.fault.LineFault.TheVariants as fault

-- The result is the value of the judgement, or its fault. If memory ran out, it states nothing about the definition.
abbrev pub Says : {X : Type 0} → Result X LineFault → Judged X → Type 0
Says (Ok x) judged = judged ≡ Ok x
Says (Err (fault.Flaw f)) judged = judged ≡ Err f
Says (Err fault.Memory) judged = Unit {0}
