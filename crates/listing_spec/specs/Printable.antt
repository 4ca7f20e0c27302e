-- Defines which trees have a text. A word has no white space, line end, quote, colon or equals sign, and no surrogate
-- without its other half.
use Rattle.std.specs.Prelude.{ℕ, Bool, true, false, not, ◌==◌, ◌&&◌, ◌||◌, if◌then◌else◌, List, [], ◌∷◌, Option, Some, None, is_some, codes}
use Rattle.std.specs.List.{list_all, list_any}
use Rattle.shared_data.specs.Surrogates.{is_high, is_low}
use Rattle.jvms_file.specs.Names.{same_text}
use Rattle.jasmin.specs.declared.source.LoadedConstant.{LoadedConstant}
use Rattle.jasmin.specs.declared.source.LoadedConstant.TheVariants as loaded
use Rattle.jasmin.specs.declared.source.Operation.{Operation}
use Rattle.jasmin.specs.declared.source.Operation.TheVariants as operation
use Rattle.jasmin.specs.declared.source.CodeItem.{CodeItem}
use Rattle.jasmin.specs.declared.source.CodeItem.TheVariants as item
use Rattle.jasmin.specs.declared.source.Caught.{Caught}
use Rattle.jasmin.specs.declared.source.Caught.TheVariants as caught
use Rattle.jasmin.specs.declared.source.CatchLine.{CatchLine}
use Rattle.jasmin.specs.declared.source.FieldLine.{FieldLine}
use Rattle.jasmin.specs.declared.source.MethodLines.{MethodLines}
use Rattle.jasmin.specs.declared.source.Source.{Source}
use Rattle.jasmin.specs.Denote.{has_code}
use Rattle.jasmin.specs.Lexing.{ends_word}
use Rattle.jasmin.specs.Numerals.{number_of}

-- Decides whether each surrogate has its other half.
unfoldable pub is_paired : List ℕ → Bool
is_paired [] = true
is_paired (u ∷ []) = not (is_high u || is_low u)
is_paired (u ∷ v ∷ us) =
    if is_high u then is_low v && is_paired us else not (is_low u) && is_paired (v ∷ us)

abbrev pub is_word_unit : ℕ → Bool
is_word_unit u = not (ends_word u || u == 10)

-- Decides whether a name can be spelled as a word.
unfoldable pub is_word : List ℕ → Bool
is_word name = list_all is_word_unit name && is_paired name

-- Decides whether a name can be spelled before a descriptor, which begins at the first parenthesis.
abbrev pub is_before_descriptor : List ℕ → Bool
is_before_descriptor name = is_word name && not (list_any (λ u. u == 40) name)

-- ---- Instructions

-- Decides whether a constant of ldc can be spelled. The name of a class must not spell a number.
abbrev pub is_loadable_word : LoadedConstant → Bool
is_loadable_word (loaded.Class name) = is_word name && not (is_some (number_of name))
is_loadable_word _ = true

unfoldable pub is_printable_operation : Operation → Bool
is_printable_operation (operation.Constant width c) = is_loadable_word c
is_printable_operation (operation.Field how f) = is_word f.class && (is_word f.name && is_word f.descriptor)
is_printable_operation (operation.Invoke how m) =
    is_before_descriptor m.class && (is_before_descriptor m.name && is_word m.descriptor)
is_printable_operation (operation.Class how name) = is_word name
is_printable_operation (operation.MultiNewArray name count) = is_word name
is_printable_operation _ = true

abbrev pub is_printable_item : CodeItem → Bool
is_printable_item (item.Label name) = true
is_printable_item (item.Operation o) = is_printable_operation o

-- ---- Members

-- Decides whether a caught class can be spelled. Its name must not be `all`.
abbrev pub is_printable_caught : Caught → Bool
is_printable_caught caught.All = true
is_printable_caught (caught.Class name) = is_word name && not (same_text (codes "all") name)

abbrev pub is_printable_field : FieldLine → Bool
is_printable_field f = is_word f.name && is_word f.descriptor

unfoldable pub is_printable_method : MethodLines → Bool
is_printable_method m =
    is_before_descriptor m.name && (is_word m.descriptor && (list_all is_word m.throws
    && (list_all (λ c. is_printable_caught c.caught) m.catches && list_all is_printable_item m.code)))

-- Decides whether all names of a tree can be spelled as words.
unfoldable pub is_printable : Source → Bool
is_printable s =
    is_word s.name && (is_word s.superclass && (list_all is_word s.interfaces
    && (list_all is_printable_field s.fields && list_all is_printable_method s.methods)))
