-- Defines the results of functions that read a line and allocate memory.
use Rattle.std.specs.Prelude.{◌≡◌, Option, Some, None, Result, Ok, Err}
use Rattle.jasmin_lex.specs.declared.fault.LexFault.{LexFault}
use Rattle.jasmin_lex.specs.declared.fault.LexFault.TheVariants as fault

-- The result, mapped by `view`, is what is read, or `Lexeme` if nothing is read. If memory ran out, it states nothing
-- about the definition.
abbrev pub IsLexed : {X Y : Type 0} → (X → Y) → Result X LexFault → Option Y → Type 0
IsLexed view (Ok x) read = read ≡ Some (view x)
IsLexed view (Err fault.Lexeme) read = read ≡ None
IsLexed view (Err fault.Memory) read = Unit {0}
