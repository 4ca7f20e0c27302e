-- Defines how lines are read.
use Rattle.std.specs.Prelude.{◌≡◌, ◌≢◌, ℕ, ◌≤◌, ◌==◌, List, [], ◌∷◌, Option, Some, None, Result, Ok, Err, MatchBool, codes, IsUtf8}
use Rattle.std.specs.List.{slice_split}
use Rattle.std.specs.Option.{ok_or}
use Rattle.std.specs.Str.Parse.{IsNumeral, digits_value}
use Rattle.jvms_file.specs.Names.{same_text}
use Rattle.escapes.specs.Escapes.{name_text}
use Rattle.escapes.specs.Keys.{IsNameOf, IsMethodKey, method_text}
use Rattle.escapes.specs.Readings.{IsReadAs}
use Rattle.escapes.specs.declared.sort.NameSort.TheVariants as sort
use Rattle.debugger_commands.specs.declared.command.Command.{Command}
use Rattle.debugger_commands.specs.declared.command.Command.TheVariants as command
use Rattle.debugger_commands.specs.declared.command.Place.{Place}
use Rattle.debugger_commands.specs.declared.fault.DebugFault.{DebugFault}
use Rattle.debugger_commands.specs.declared.fault.DebugFault.TheVariants as fault
use Rattle.debugger_commands.specs.Commands.{command_of, with_number}

-- Returns the words of a line, separated by single spaces.
abbrev pub words_of : List ℕ → List (List ℕ)
words_of line = slice_split (λ b. b == 32) line

-- The word is decimal digits of n, which is at most 4,294,967,295. Leading zeros are allowed.
abbrev pub WritesNumber : List ℕ → ℕ → Type 0
WritesNumber word n = IsNumeral 10 word × (digits_value 10 word ≡ n) × (n ≤ 4294967295)

-- The word spells no such number.
abbrev pub WritesNone : List ℕ → Type 0
WritesNone word = (n : ℕ) → ¬ (WritesNumber word n)

-- Reads `class` and a word, which may be no class's name.
abbrev pub IsClassRead : List ℕ → Result Command DebugFault → Type 0
IsClassRead word (Ok c) = (class : Option (List ℕ)) × (c ≡ command.Class class) × IsReadAs (IsNameOf sort.Class) name_text word class
IsClassRead word (Err e) = e ≡ fault.Memory

-- Reads `break`, a word, which may be no method's text, and a number.
abbrev pub IsBreakRead : List ℕ → List ℕ → Result Command DebugFault → Type 0
IsBreakRead word digits (Ok c) = (place : Place) × (c ≡ command.Break place) × IsReadAs IsMethodKey method_text word place.method × WritesNumber digits place.instruction
IsBreakRead word digits (Err fault.Number) = WritesNone digits
IsBreakRead word digits (Err e) = (e ≡ fault.Memory) × ((n : ℕ) × WritesNumber digits n)

-- Reads a name and a number. If no command has the name, that is the fault, whatever the other word is.
abbrev pub IsNumberRead : List ℕ → List ℕ → Result Command DebugFault → Type 0
IsNumberRead name word (Ok c) = (n : ℕ) × WritesNumber word n × (with_number name n ≡ Some c)
IsNumberRead name word (Err fault.Number) = WritesNone word × ((n : ℕ) → with_number name n ≢ None)
IsNumberRead name word (Err e) = (e ≡ fault.UnknownCommand) × ((n : ℕ) → with_number name n ≡ None)

-- Words are read as this command or fault.
abbrev pub AreRead : List (List ℕ) → Result Command DebugFault → Type 0
AreRead (name ∷ []) r = r ≡ ok_or (command_of name) fault.UnknownCommand
AreRead (name ∷ word ∷ []) r = MatchBool (same_text name (codes "class")) (IsClassRead word r) (IsNumberRead name word r)
AreRead (name ∷ word ∷ digits ∷ []) r = MatchBool (same_text name (codes "break")) (IsBreakRead word digits r) (r ≡ Err fault.UnknownCommand)
AreRead _ r = r ≡ Err fault.UnknownCommand

-- A line is read as this command or fault. A line that isn't UTF-8 is no command.
abbrev pub Reads : List ℕ → Result Command DebugFault → Type 0
Reads line (Ok c) = IsUtf8 line × AreRead (words_of line) (Ok c)
Reads line (Err fault.UnknownCommand) = IsUtf8 line → AreRead (words_of line) (Err fault.UnknownCommand)
Reads line (Err e) = IsUtf8 line × AreRead (words_of line) (Err e)
