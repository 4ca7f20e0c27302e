-- A line is read as one result, apart from lack of memory.
use Rattle.std.proofs.Common.{◌≡◌, ◌≢◌, ◌⊎◌, ℕ, Bool, true, false, List, [], ◌∷◌, Option, Some, None, Result, Ok, Err, MatchBool, inl, inr, refl, sym, ap, ◌∙◌, codes}
use Rattle.std.specs.Prelude.{IsUtf8}
use Rattle.jvms_file.specs.Names.{same_text}
use Rattle.debugger_commands.specs.declared.command.Command.{Command}
use Rattle.debugger_commands.specs.declared.fault.DebugFault.{DebugFault}
use Rattle.debugger_commands.specs.declared.fault.DebugFault.TheVariants as fault
use Rattle.debugger_commands.specs.Commands.{with_number}
use Rattle.debugger_commands.specs.Readings.{AreRead, IsBreakRead, IsClassRead, IsNumberRead, Reads, WritesNone, words_of}

-- A line is no command.
abbrev IsUnknown : Result Command DebugFault → Type 0
IsUnknown r = r ≡ Err fault.UnknownCommand

-- Memory ran out while reading a line.
abbrev pub IsMemory : Result Command DebugFault → Type 0
IsMemory r = r ≡ Err fault.Memory

-- ---- A command is no fault

no_none : (c : Command) (o : Option Command) → o ≡ Some c → o ≡ None → ⊥
no_none c o some none = let no : Some c ≡ None → ⊥ = λ h. cc in no (sym some ∙ none)

-- If a name and a number are no command, the fault is Number or UnknownCommand.
data IsNumberFault (name word : List ℕ) (e : DebugFault) : Type 0 where
  number : e ≡ fault.Number → WritesNone word → ((n : ℕ) → with_number name n ≢ None) → IsNumberFault name word e
  unknown : e ≡ fault.UnknownCommand → ((n : ℕ) → with_number name n ≡ None) → IsNumberFault name word e

number_fault : (name word : List ℕ) (e : DebugFault) → IsNumberRead name word (Err e) → IsNumberFault name word e
number_fault name word fault.UnknownCommand (is, none) = unknown is none
number_fault name word fault.Number (none, some) = number refl none some
number_fault name word fault.NoThread (is, none) = unknown is none
number_fault name word fault.NoObject (is, none) = unknown is none
number_fault name word fault.NoBreakpoint (is, none) = unknown is none
number_fault name word fault.NoPlace (is, none) = unknown is none
number_fault name word fault.Memory (is, none) = unknown is none

-- `break` with a place is no command only because of its number.
break_fault : (word digits : List ℕ) (e : DebugFault) → e ≢ fault.Memory → IsBreakRead word digits (Err e) → (e ≡ fault.Number) × WritesNone digits
break_fault word digits fault.UnknownCommand some (is, n) = absurd (some is)
break_fault word digits fault.Number some none = (refl, none)
break_fault word digits fault.NoThread some (is, n) = absurd (some is)
break_fault word digits fault.NoObject some (is, n) = absurd (some is)
break_fault word digits fault.NoBreakpoint some (is, n) = absurd (some is)
break_fault word digits fault.NoPlace some (is, n) = absurd (some is)
break_fault word digits fault.Memory some (is, n) = absurd (some is)

no_number_fault : (name word : List ℕ) (c : Command) (e : DebugFault) → IsNumberRead name word (Ok c) → IsNumberFault name word e → ⊥
no_number_fault name word c e (n, writes, is) (number _ none some) = none n writes
no_number_fault name word c e (n, writes, is) (unknown _ none) = no_none c (with_number name n) is (none n)

no_two_words : (b : Bool) (name word : List ℕ) (c : Command) (e : DebugFault) → e ≢ fault.Memory → MatchBool b (IsClassRead word (Ok c)) (IsNumberRead name word (Ok c)) → MatchBool b (IsClassRead word (Err e)) (IsNumberRead name word (Err e)) → ⊥
no_two_words true name word c e some left right = some right
no_two_words false name word c e some left right = no_number_fault name word c e left (number_fault name word e right)

no_three_words : (b : Bool) (word digits : List ℕ) (c : Command) (e : DebugFault) → e ≢ fault.Memory → MatchBool b (IsBreakRead word digits (Ok c)) (IsUnknown (Ok c)) → MatchBool b (IsBreakRead word digits (Err e)) (IsUnknown (Err e)) → ⊥
no_three_words true word digits c e some (place, is, read, writes) right = (break_fault word digits e some right).1 place.instruction writes
no_three_words false word digits c e some left right = let no : IsUnknown (Ok c) → ⊥ = λ h. cc in no left

no_fault : (words : List (List ℕ)) (c : Command) (e : DebugFault) → e ≢ fault.Memory → AreRead words (Ok c) → AreRead words (Err e) → ⊥
no_fault [] c e some left right = let no : IsUnknown (Ok c) → ⊥ = λ h. cc in no left
no_fault (name ∷ []) c e some left right = let no : Ok c ≡ Err e → ⊥ = λ h. cc in no (left ∙ sym right)
no_fault (name ∷ word ∷ []) c e some left right = no_two_words (same_text name (codes "class")) name word c e some left right
no_fault (name ∷ word ∷ digits ∷ []) c e some left right = no_three_words (same_text name (codes "break")) word digits c e some left right
no_fault (name ∷ word ∷ digits ∷ more ∷ words) c e some left right = let no : IsUnknown (Ok c) → ⊥ = λ h. cc in no left

-- ---- One fault

one_number_fault : (name word : List ℕ) (e f : DebugFault) → IsNumberFault name word e → IsNumberFault name word f → e ≡ f
one_number_fault name word e f (number first _ _) (number second _ _) = first ∙ sym second
one_number_fault name word e f (number _ _ some) (unknown _ none) = absurd (some 0 (none 0))
one_number_fault name word e f (unknown _ none) (number _ _ some) = absurd (some 0 (none 0))
one_number_fault name word e f (unknown first _) (unknown second _) = first ∙ sym second

two_words : (b : Bool) (name word : List ℕ) (e f : DebugFault) → e ≢ fault.Memory → MatchBool b (IsClassRead word (Err e)) (IsNumberRead name word (Err e)) → MatchBool b (IsClassRead word (Err f)) (IsNumberRead name word (Err f)) → e ≡ f
two_words true name word e f some left right = absurd (some left)
two_words false name word e f some left right = one_number_fault name word e f (number_fault name word e left) (number_fault name word f right)

three_words : (b : Bool) (word digits : List ℕ) (e f : DebugFault) → e ≢ fault.Memory → f ≢ fault.Memory → MatchBool b (IsBreakRead word digits (Err e)) (IsUnknown (Err e)) → MatchBool b (IsBreakRead word digits (Err f)) (IsUnknown (Err f)) → e ≡ f
three_words true word digits e f some more left right = (break_fault word digits e some left).0 ∙ sym (break_fault word digits f more right).0
three_words false word digits e f some more left right = let same : Err e ≡ Err f = left ∙ sym right in cc

one_fault : (words : List (List ℕ)) (e f : DebugFault) → e ≢ fault.Memory → f ≢ fault.Memory → AreRead words (Err e) → AreRead words (Err f) → e ≡ f
one_fault [] e f some more left right = let same : Err e ≡ Err f = left ∙ sym right in cc
one_fault (name ∷ []) e f some more left right = let same : Err e ≡ Err f = left ∙ sym right in cc
one_fault (name ∷ word ∷ []) e f some more left right = two_words (same_text name (codes "class")) name word e f some left right
one_fault (name ∷ word ∷ digits ∷ []) e f some more left right = three_words (same_text name (codes "break")) word digits e f some more left right
one_fault (name ∷ word ∷ digits ∷ other ∷ words) e f some more left right = let same : Err e ≡ Err f = left ∙ sym right in cc

-- ---- Lines

fault_words : (line : List ℕ) (e : DebugFault) → IsUtf8 line → Reads line (Err e) → AreRead (words_of line) (Err e)
fault_words line fault.UnknownCommand utf8 read = read utf8
fault_words line fault.Number utf8 read = read.1
fault_words line fault.NoThread utf8 read = read.1
fault_words line fault.NoObject utf8 read = read.1
fault_words line fault.NoBreakpoint utf8 read = read.1
fault_words line fault.NoPlace utf8 read = read.1
fault_words line fault.Memory utf8 read = read.1

-- Only a line with the fault UnknownCommand may not be UTF-8.
unknown_or_utf8 : (line : List ℕ) (e : DebugFault) → Reads line (Err e) → (e ≡ fault.UnknownCommand) ⊎ IsUtf8 line
unknown_or_utf8 line fault.UnknownCommand read = inl refl
unknown_or_utf8 line fault.Number read = inr read.0
unknown_or_utf8 line fault.NoThread read = inr read.0
unknown_or_utf8 line fault.NoObject read = inr read.0
unknown_or_utf8 line fault.NoBreakpoint read = inr read.0
unknown_or_utf8 line fault.NoPlace read = inr read.0
unknown_or_utf8 line fault.Memory read = inr read.0

one_line_fault : (line : List ℕ) (e f : DebugFault) → e ≢ fault.Memory → f ≢ fault.Memory → Reads line (Err e) → Reads line (Err f) → e ≡ f
one_line_fault line e f some more left right =
    let same : IsUtf8 line → e ≡ f = λ utf8. one_fault (words_of line) e f some more (fault_words line e utf8 left) (fault_words line f utf8 right) in
    elim (unknown_or_utf8 line e left) [
      | inl is ↦ elim (unknown_or_utf8 line f right) [
        | inl also ↦ is ∙ sym also
        | inr utf8 ↦ same utf8
      ]
      | inr utf8 ↦ same utf8
    ]

is_fault : (e : DebugFault) → ¬ (IsMemory (Err e)) → e ≢ fault.Memory
is_fault e some = λ is. some (ap Err is)

-- Words are read as one command at most.
abbrev pub OneCommand : Type 0
OneCommand = (words : List (List ℕ)) (x y : Command) → AreRead words (Ok x) → AreRead words (Ok y) → x ≡ y

pub one_result : OneCommand → (line : List ℕ) (a b : Result Command DebugFault) → ¬ (IsMemory a) → ¬ (IsMemory b) → Reads line a → Reads line b → a ≡ b
one_result one line (Ok x) (Ok y) some more left right = ap Ok (one (words_of line) x y left.1 right.1)
one_result one line (Ok x) (Err e) some more left right = absurd (no_fault (words_of line) x e (is_fault e more) left.1 (fault_words line e left.0 right))
one_result one line (Err e) (Ok y) some more left right = absurd (no_fault (words_of line) y e (is_fault e some) right.1 (fault_words line e right.0 left))
one_result one line (Err e) (Err f) some more left right = ap Err (one_line_fault line e f (is_fault e some) (is_fault f more) left right)
