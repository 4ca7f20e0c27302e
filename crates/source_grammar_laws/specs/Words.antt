-- Defines the grammar of words: names, access words, and the operand of `.catch`.
use Rattle.std.specs.Prelude.{◌≡◌, ◌⊎◌, ◌<◌, ◌==◌, IsTrue, ℕ, false, not, List, [], ◌∷◌, is_some, codes, bit_or}
use Rattle.std.specs.List.{list_any}
use Rattle.jvms_file.specs.Names.{same_text, is_name, is_class_name}
use Rattle.jvms_file.specs.Descriptors.{field_type_of, is_class_entry_name}
use Rattle.jvms_file.specs.declared.insn.ArrayType.{ArrayType}
use Rattle.jvms_file.specs.declared.insn.ArrayType.TheVariants as array_type
use Rattle.jasmin.specs.declared.token.Lexeme.{Lexeme}
use Rattle.jasmin.specs.declared.token.Lexeme.TheVariants as lexeme
use Rattle.jasmin.specs.declared.source.Caught.{Caught}
use Rattle.jasmin.specs.declared.source.Caught.TheVariants as caught
use Rattle.jasmin.specs.Operands.{Access}

-- ---- Names

abbrev pub IsName : List ℕ → Type 0
IsName w = IsTrue (is_name w)

-- A word is a class's name, which is no array's.
abbrev pub IsClassName : List ℕ → Type 0
IsClassName w = IsTrue (is_class_name w)

-- A word is a class's name or an array's descriptor.
abbrev pub IsClass : List ℕ → Type 0
IsClass w = IsTrue (is_class_entry_name w)

abbrev pub IsFieldDescriptor : List ℕ → Type 0
IsFieldDescriptor w = IsTrue (is_some (field_type_of w))

-- A word is a label: it isn't empty and doesn't begin with a digit, `+`, `-` or `.`.
abbrev pub IsLabel : List ℕ → Type 0
IsLabel w =
    (u : ℕ) × (us : List ℕ) × (w ≡ u ∷ us) × ((u < 48) ⊎ (57 < u)) × (u ≡ 43 → ⊥) × (u ≡ 45 → ⊥) × (u ≡ 46 → ⊥)

-- A word has no parenthesis. A descriptor begins at the first parenthesis of a word.
abbrev pub HasNoParenthesis : List ℕ → Type 0
HasNoParenthesis w = list_any (λ u. u == 40) w ≡ false

-- A word spells `all`, or a class that isn't named so.
abbrev pub SpellsCaught : List ℕ → Caught → Type 0
SpellsCaught w caught.All = w ≡ codes "all"
SpellsCaught w (caught.Class name) = (w ≡ name) × IsClass name × IsTrue (not (same_text (codes "all") name))

-- Returns the word of a newarray's component type (JVMS table 6.5.newarray-A).
abbrev pub type_word : ArrayType → List ℕ
type_word array_type.Boolean = codes "boolean"
type_word array_type.Char = codes "char"
type_word array_type.Float = codes "float"
type_word array_type.Double = codes "double"
type_word array_type.Byte = codes "byte"
type_word array_type.Short = codes "short"
type_word array_type.Int = codes "int"
type_word array_type.Long = codes "long"

-- ---- Access words

-- A word with its flag is one of a table.
abbrev pub IsAccessWord : Access → List ℕ → ℕ → Type 0
IsAccessWord [] w flag = ⊥
IsAccessWord ((word, bit) ∷ others) w flag = ((w ≡ word) × (flag ≡ bit)) ⊎ IsAccessWord others w flag

-- A word isn't among the tokens.
abbrev pub IsAbsent : List ℕ → List Lexeme → Type 0
IsAbsent w [] = Unit {0}
IsAbsent w (t ∷ ts) = (t ≡ lexeme.Word w → ⊥) × IsAbsent w ts

-- Tokens are words of a table without repetition, and their flags combined with those before are these flags.
abbrev pub SpellsFlags : Access → ℕ → List Lexeme → ℕ → Type 0
SpellsFlags table before [] flags = flags ≡ before
SpellsFlags table before (t ∷ ts) flags =
    (w : List ℕ) × (flag : ℕ) × (t ≡ lexeme.Word w) × IsAccessWord table w flag × IsAbsent w ts
    × SpellsFlags table (bit_or before flag) ts flags

-- Tokens are words of a table without repetition, and these are their flags.
abbrev pub SpellsAccess : Access → List Lexeme → ℕ → Type 0
SpellsAccess table ts flags = SpellsFlags table 0 ts flags
