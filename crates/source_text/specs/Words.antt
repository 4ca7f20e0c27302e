-- Defines the words of a line that is written, by what they spell.
use Rattle.std.specs.Prelude.{ℕ, List, ◌++◌}
use Rattle.std.specs.Fmt.{signed_decimal}
use Rattle.listing_spec.specs.Printed.{quotation, member_word}
use Rattle.source_text.specs.declared.word.Word.{Word}
use Rattle.source_text.specs.declared.word.Word.TheVariants as word

-- Returns the units of a word.
abbrev pub units_in : Word → List ℕ
units_in (word.Ascii text) = text.now
units_in (word.Name name) = name.now
units_in (word.Number n) = signed_decimal n
units_in (word.Quoted text) = quotation text.now
units_in (word.Member class name) = member_word class.now name.now
units_in (word.Described name descriptor) = name.now ++ descriptor.now
units_in (word.Method class name descriptor) = member_word class.now name.now ++ descriptor.now
