-- Judges the operands of a line, each by its place. A missing or superfluous operand is the fault Operand.
use Rattle.std.specs.Prelude.{ℕ, ◌-◌, ◌^◌, Bool, false, not, ◌==◌, ◌&&◌, ◌||◌, nat_le, if◌then◌else◌, List, [], ◌∷◌, length, drop, Option, Some, None, is_some, Ok, Err, ℤ, pos, neg_ℤ, unsigned_abs, codes, bit_or}
use Rattle.std.specs.Option.{option_and_then}
use Rattle.std.specs.List.{list_any, before_first, before_last, after_last, position_or_len}
use Rattle.jvms_file.specs.Names.{same_text, is_name, is_class_name}
use Rattle.jvms_file.specs.Descriptors.{field_type_of, is_class_entry_name}
use Rattle.jvms_file.specs.Members.{has_flag}
use Rattle.jvms_file.specs.declared.insn.ArrayType.{ArrayType}
use Rattle.jvms_file.specs.declared.insn.ArrayType.TheVariants as array_type
use Rattle.jasmin.specs.declared.token.Lexeme.{Lexeme}
use Rattle.jasmin.specs.declared.token.Lexeme.TheVariants as lexeme
use Rattle.jasmin.specs.declared.source.Caught.{Caught}
use Rattle.jasmin.specs.declared.source.Caught.TheVariants as caught
use Rattle.jasmin.specs.declared.statement.Flaw.{Flaw}
use Rattle.jasmin.specs.declared.statement.Flaw.TheVariants as flaw
use Rattle.jasmin.specs.Numerals.{number_of, between}
use Rattle.jasmin.specs.Judgements.{Judged, map_ok, judge_test, unless}

-- Judges the number of operands: exactly `n` are required.
abbrev pub exactly : ℕ → List Lexeme → Judged (Unit {0})
exactly n ts = judge_test (length ts == n) flaw.Operand

-- ---- Words

-- Judges a place that requires a word, and returns the word.
abbrev pub word_at : Option Lexeme → Judged (List ℕ)
word_at (Some (lexeme.Word w)) = Ok w
word_at _ = Err flaw.Operand

-- Returns the word if it passes a test, or else the fault.
abbrev pub word_if : (List ℕ → Bool) → Flaw → Judged (List ℕ) → Judged (List ℕ)
word_if test f (Ok w) = if test w then Ok w else Err f
word_if test f (Err g) = Err g

-- Judges a place that requires this word.
abbrev pub keyword_at : List ℕ → Option Lexeme → Judged (Unit {0})
keyword_at text t = map_ok (λ w. tt) (word_if (same_text text) flaw.Operand (word_at t))

abbrev pub name_at : Option Lexeme → Judged (List ℕ)
name_at t = word_if is_name flaw.Name (word_at t)

-- Judges a place that requires a class's name, which is no array's.
abbrev pub class_name_at : Option Lexeme → Judged (List ℕ)
class_name_at t = word_if is_class_name flaw.Name (word_at t)

-- Judges a place that requires a class's name or an array's descriptor.
abbrev pub class_at : Option Lexeme → Judged (List ℕ)
class_at t = word_if is_class_entry_name flaw.Name (word_at t)

abbrev pub field_descriptor_at : Option Lexeme → Judged (List ℕ)
field_descriptor_at t = word_if (λ w. is_some (field_type_of w)) flaw.Descriptor (word_at t)

-- Decides whether a word is a label: it isn't empty and doesn't begin with a digit, `+`, `-` or `.`.
abbrev pub is_label : List ℕ → Bool
is_label [] = false
is_label (u ∷ us) = not ((nat_le 48 u && nat_le u 57) || (u == 43 || (u == 45 || u == 46)))

abbrev pub label_at : Option Lexeme → Judged (List ℕ)
label_at t = word_if is_label flaw.Name (word_at t)

-- ---- Numbers

-- Returns the number that a word spells, if it is within the bounds. Any other word is the fault Number.
abbrev pub judged_number : ℤ → ℤ → List ℕ → Judged ℤ
judged_number least most w = given (option_and_then (between least most) (number_of w))
  where
    given : Option ℤ → Judged ℤ
    given (Some n) = Ok n
    given None = Err flaw.Number

-- Judges a place that requires a number within the bounds. A token other than a word is the fault Number.
abbrev pub number_at : ℤ → ℤ → Option Lexeme → Judged ℤ
number_at least most (Some (lexeme.Word w)) = judged_number least most w
number_at least most (Some _) = Err flaw.Number
number_at least most None = Err flaw.Operand

-- Judge places that require a signed number of 8, 16, 32 or 64 bits.
abbrev pub i8_at : Option Lexeme → Judged ℤ
i8_at t = number_at (neg_ℤ (pos (2 ^ 7))) (pos (2 ^ 7 - 1)) t

abbrev pub i16_at : Option Lexeme → Judged ℤ
i16_at t = number_at (neg_ℤ (pos (2 ^ 15))) (pos (2 ^ 15 - 1)) t

abbrev pub i32_at : Option Lexeme → Judged ℤ
i32_at t = number_at (neg_ℤ (pos (2 ^ 31))) (pos (2 ^ 31 - 1)) t

abbrev pub i64_at : Option Lexeme → Judged ℤ
i64_at t = number_at (neg_ℤ (pos (2 ^ 63))) (pos (2 ^ 63 - 1)) t

-- Judge places that require an unsigned number of 8 or 16 bits.
abbrev pub u8_at : Option Lexeme → Judged ℕ
u8_at t = map_ok unsigned_abs (number_at (pos 0) (pos 255) t)

abbrev pub u16_at : Option Lexeme → Judged ℕ
u16_at t = map_ok unsigned_abs (number_at (pos 0) (pos 65535) t)

-- ---- Members

-- Split `class/name` at the last slash.
abbrev pub is_slash : ℕ → Bool
is_slash u = u == 47

abbrev pub class_of : List ℕ → List ℕ
class_of w = before_last is_slash w

abbrev pub name_of : List ℕ → List ℕ
name_of w = after_last is_slash w

-- Decides whether a word is `class/name`, with the name of a class or an array's descriptor, and a member's name that
-- passes a test.
abbrev pub is_member : (List ℕ → Bool) → List ℕ → Bool
is_member test w = list_any is_slash w && is_class_entry_name (class_of w) && test (name_of w)

-- Split `name(..)r` before the first parenthesis.
abbrev pub is_parenthesis : ℕ → Bool
is_parenthesis u = u == 40

abbrev pub before_descriptor : List ℕ → List ℕ
before_descriptor w = before_first is_parenthesis w

abbrev pub descriptor_of : List ℕ → List ℕ
descriptor_of w = drop (position_or_len is_parenthesis w) w

-- ---- Access words

abbrev pub Access : Type 0
Access = List (List ℕ × ℕ)

-- Return the access words of classes, fields and methods with their flags (JVMS tables 4.1-A, 4.5-A, 4.6-A).
abbrev pub class_words : Access
class_words = (codes "public", 1) ∷ (codes "final", 16) ∷ (codes "abstract", 1024) ∷ (codes "interface", 512) ∷ (codes "super", 32) ∷ []

abbrev pub member_words : Access → Access
member_words others =
    (codes "public", 1) ∷ (codes "private", 2) ∷ (codes "protected", 4) ∷ (codes "static", 8) ∷ (codes "final", 16) ∷ others

abbrev pub field_words : Access
field_words = member_words ((codes "volatile", 64) ∷ (codes "transient", 128) ∷ [])

abbrev pub method_words : Access
method_words = member_words ((codes "synchronized", 32) ∷ (codes "native", 256) ∷ (codes "abstract", 1024) ∷ [])

-- Returns the flag of a word, if it is one of the access words.
abbrev pub flag_of : Access → List ℕ → Option ℕ
flag_of [] w = None
flag_of ((word, flag) ∷ others) w = if same_text word w then Some flag else flag_of others w

abbrev pub flag_at : Access → Lexeme → Option ℕ
flag_at words (lexeme.Word w) = flag_of words w
flag_at words _ = None

-- Returns the flags so far, with those of all access words among the tokens.
abbrev pub flags_with : Access → ℕ → List Lexeme → ℕ
flags_with words before [] = before
flags_with words before (t ∷ ts) = flags_with words (with_flag (flag_at words t)) ts
  where
    with_flag : Option ℕ → ℕ
    with_flag None = before
    with_flag (Some flag) = bit_or before flag

abbrev pub flags_in : Access → List Lexeme → ℕ
flags_in words ts = flags_with words 0 ts

-- Judges a place that requires one of the access words, whose flag isn't set yet.
abbrev pub access_word : Access → ℕ → Lexeme → Judged (Unit {0})
access_word words before (lexeme.Word w) = judge_test (is_new (flag_of words w)) flaw.Flags
  where
    is_new : Option ℕ → Bool
    is_new None = false
    is_new (Some flag) = not (has_flag flag before)
access_word words before _ = Err flaw.Operand

-- Judges tokens that have to be access words. None repeats a flag that is set.
abbrev pub access_words_after : Access → ℕ → List Lexeme → Judged (Unit {0})
access_words_after words before [] = Ok tt
access_words_after words before (t ∷ ts) =
    unless (access_word words before t) (access_words_after words (flags_with words before (t ∷ [])) ts)

abbrev pub access_words : Access → List Lexeme → Judged (Unit {0})
access_words words ts = access_words_after words 0 ts

-- ---- Classes that a handler names

-- Judges a place that requires `all`, a class's name or an array's descriptor.
abbrev pub caught_at : Option Lexeme → Judged Caught
caught_at t = map_ok caught_of (word_if (λ w. same_text (codes "all") w || is_class_entry_name w) flaw.Name (word_at t))
  where
    caught_of : List ℕ → Caught
    caught_of w = if same_text (codes "all") w then caught.All else caught.Class w

-- Returns the component type of a newarray by its word (JVMS table 6.5.newarray-A).
abbrev pub array_type_of : List ℕ → Option ArrayType
array_type_of w =
    if same_text (codes "boolean") w then Some array_type.Boolean
    else (if same_text (codes "char") w then Some array_type.Char
    else (if same_text (codes "float") w then Some array_type.Float
    else (if same_text (codes "double") w then Some array_type.Double
    else (if same_text (codes "byte") w then Some array_type.Byte
    else (if same_text (codes "short") w then Some array_type.Short
    else (if same_text (codes "int") w then Some array_type.Int
    else (if same_text (codes "long") w then Some array_type.Long
    else None)))))))

abbrev pub array_type_at : Option Lexeme → Judged ArrayType
array_type_at (Some (lexeme.Word w)) = given (array_type_of w)
  where
    given : Option ArrayType → Judged ArrayType
    given (Some type) = Ok type
    given None = Err flaw.Operand
array_type_at _ = Err flaw.Operand
