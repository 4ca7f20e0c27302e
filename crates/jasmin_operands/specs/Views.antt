-- Maps borrowed operands to the values of the definitions.
use Rattle.jasmin.specs.declared.source.Caught.{Caught}
use Rattle.jasmin.specs.declared.source.Caught.TheVariants as caught
use Rattle.jasmin.specs.Operands.{Access, class_words, field_words, method_words}
use Rattle.jasmin_operands.specs.declared.access.AccessWords.{AccessWords}
use Rattle.jasmin_operands.specs.declared.access.AccessWords.TheVariants as words
use Rattle.jasmin_operands.specs.declared.caught.CaughtName.{CaughtName}
use Rattle.jasmin_operands.specs.declared.caught.CaughtName.TheVariants as name

-- Returns what a handler catches.
abbrev pub caught_of : CaughtName → Caught
caught_of name.All = caught.All
caught_of (name.Class w) = caught.Class w.now

-- Returns the access words of a kind.
abbrev pub words_of : AccessWords → Access
words_of words.Class = class_words
words_of words.Field = field_words
words_of words.Method = method_words
