-- Proves that the combined flags of access words fit two bytes.
use Rattle.std.proofs.Common.{◌≡◌, ℕ, ◌<◌, ◌^◌, List, [], ◌∷◌, Option, Some, None, bit_or, refl, subst, arith}
use Rattle.std.specs.List.{AllByRecursion}
use Rattle.std.proofs.lemmas.Option.{none-some, same_Some}
use Rattle.std.proofs.lemmas.Nat.{or_of_16}
use Rattle.jvms_file.specs.Names.{same_text}
use Rattle.jvms_file.specs.Spelling.{IsU2}
use Rattle.jasmin.specs.declared.token.Lexeme.{Lexeme}
use Rattle.jasmin.specs.declared.token.Lexeme.TheVariants as lexeme
use Rattle.jasmin.specs.Operands.{Access, class_words, field_words, method_words, flag_of, flag_at, flags_with, flags_in}
use Rattle.source_form_laws.proofs.Judged.{choose}

abbrev AreSmall : Access → Type 0
AreSmall words = AllByRecursion (λ (p : List ℕ × ℕ). p.1 < 2 ^ 16) words

flag_of_small : (words : Access) (w : List ℕ) (flag : ℕ) → AreSmall words → flag_of words w ≡ Some flag → flag < 2 ^ 16
flag_of_small [] w flag small e = absurd (none-some flag e)
flag_of_small ((word, f) ∷ others) w flag small e =
    choose (same_text word w) (Some f) (flag_of others w) (Some flag) e
    (λ met is. subst (λ (n : ℕ). n < 2 ^ 16) (same_Some f flag is) small.0)
    (λ unmet is. flag_of_small others w flag small.1 is)

flag_at_small : (words : Access) (t : Lexeme) (flag : ℕ) → AreSmall words → flag_at words t ≡ Some flag → flag < 2 ^ 16
flag_at_small words (lexeme.Word w) flag small e = flag_of_small words w flag small e
flag_at_small words _ flag small e = absurd (none-some flag e)

-- The flags of a word, with those before and after it, fit two bytes.
with_one : (words : Access) (t : Lexeme) (ts : List Lexeme) (before : ℕ) (o : Option ℕ) → flag_at words t ≡ o → AreSmall words → before < 2 ^ 16
    → ((n : ℕ) → n < 2 ^ 16 → flags_with words n ts < 2 ^ 16) → flags_with words before (t ∷ ts) < 2 ^ 16
with_one words t ts before (Some flag) is small fits others =
    rw is (others (bit_or before flag) (or_of_16 before flag fits (flag_at_small words t flag small is)))
with_one words t ts before None is small fits others = rw is (others before fits)

flags_small : (words : Access) → AreSmall words → (ts : List Lexeme) (before : ℕ) → before < 2 ^ 16 → flags_with words before ts < 2 ^ 16
flags_small words small [] before fits = fits
flags_small words small (t ∷ ts) before fits =
    with_one words t ts before (flag_at words t) refl small fits (λ n under. flags_small words small ts n under)

pub class_flags_small : (ts : List Lexeme) (added : ℕ) → IsU2 added → IsU2 (bit_or (flags_in class_words ts) added)
class_flags_small ts added fits =
    or_of_16 (flags_in class_words ts) added (flags_small class_words (omega arith) ts 0 (omega arith)) fits

pub field_flags_small : (ts : List Lexeme) → IsU2 (flags_in field_words ts)
field_flags_small ts = flags_small field_words (omega arith) ts 0 (omega arith)

pub method_flags_small : (ts : List Lexeme) → IsU2 (flags_in method_words ts)
method_flags_small ts = flags_small method_words (omega arith) ts 0 (omega arith)
