-- Proves that the words of flags are read as those flags.
use Rattle.std.proofs.Common.{◌≡◌, ℕ, ◌<◌, ◌≤◌, ◌&&◌, ◌||◌, Bool, true, false, not, cond, eqb, List, [], ◌∷◌, map, Ok, Err, refl, arith}
use Rattle.std.specs.Prelude.{bit_and, bit_or}
use Rattle.std.specs.List.{list_all, AllByRecursion}
use Rattle.std.proofs.lemmas.Bool.{and_parts, agree_below, agree_below_at, eqb-true, eq-eqb}
use Rattle.std.proofs.lemmas.Nat.{and_le_r, or_lt}
use Rattle.jvms_file.specs.Members.{has_flag, is_interface}
use Rattle.jasmin.specs.declared.token.Lexeme.{Lexeme}
use Rattle.jasmin.specs.declared.token.Lexeme.TheVariants as lexeme
use Rattle.jasmin.specs.Judgements.{Judged}
use Rattle.jasmin.specs.Operands.{Access, class_words, field_words, method_words, flags_in, access_words}
use Rattle.listing_spec.specs.Printed.{access_names, written_class_words, written_interface_words}
use Rattle.listing_spec.specs.TreeOf.{class_flags, field_flags, method_flags}
use Rattle.listing_laws.proofs.Words.{IsPlain, ArePieces, is_plain, plain_from, plain_piece}

-- Returns words as tokens.
abbrev pub as_words : List (List ℕ) → List Lexeme
as_words ws = map (λ w. lexeme.Word w) ws

abbrev is_right : {A : Type 0} → Judged A → Bool
is_right (Ok a) = true
is_right (Err f) = false

right : (j : Judged (Unit {0})) → is_right j ≡ true → j ≡ Ok tt
right (Ok tt) e = refl
right (Err f) e = absurd cc

-- Decides whether words are read as these flags without a fault, with the flags that the directive adds.
abbrev pub is_written : Access → Access → (ℕ → ℕ) → ℕ → Bool
is_written known written added access =
    eqb (added (flags_in known (as_words (access_names written access)))) access && is_right (access_words known (as_words (access_names written access)))

pub record IsWritten (known written : Access) (added : ℕ → ℕ) (access : ℕ) : Type 0 where
  pub flags : added (flags_in known (as_words (access_names written access))) ≡ access
  pub apart : access_words known (as_words (access_names written access)) ≡ Ok tt

written_is : (known written : Access) (added : ℕ → ℕ) (access : ℕ) → is_written known written added access ≡ true → IsWritten known written added access
written_is known written added access e =
    let both = and_parts (eqb (added (flags_in known (as_words (access_names written access)))) access) (is_right (access_words known (as_words (access_names written access)))) e in
    record { flags = eqb-true (added (flags_in known (as_words (access_names written access)))) access both.0; apart = right (access_words known (as_words (access_names written access))) both.1 }

abbrev always : ℕ → Bool
always n = true

met : (a b : Bool) → (not a || b) ≡ true → a ≡ true → b ≡ true
met true b e is = e
met false b e is = absurd cc

abbrev pub none_added : ℕ → ℕ
none_added n = n

abbrev pub class_added : ℕ → ℕ
class_added n = bit_or n 32

abbrev pub interface_added : ℕ → ℕ
interface_added n = bit_or n 1536

-- ---- Fields

abbrev field_test : ℕ → Bool
field_test access = not (eqb access (field_flags access)) || is_written field_words field_words none_added access

field_tests : agree_below field_test always 224 ≡ true
unfolding access_names
field_tests = refl

pub field_words_read : (access : ℕ) → access ≡ field_flags access → IsWritten field_words field_words none_added access
field_words_read access is =
    let below : field_flags access ≤ 223 = and_le_r access 223 in
    let test : field_test access ≡ true = agree_below_at field_test always 224 access field_tests (omega arith) in
    written_is field_words field_words none_added access (met (eqb access (field_flags access)) (is_written field_words field_words none_added access) test (eq-eqb access (field_flags access) is))

-- ---- Methods

abbrev method_test : ℕ → Bool
method_test access = not (eqb access (method_flags access)) || is_written method_words method_words none_added access

method_tests : agree_below method_test always 1344 ≡ true
unfolding access_names
method_tests = refl

pub method_words_read : (access : ℕ) → access ≡ method_flags access → IsWritten method_words method_words none_added access
method_words_read access is =
    let below : method_flags access ≤ 1343 = and_le_r access 1343 in
    let test : method_test access ≡ true = agree_below_at method_test always 1344 access method_tests (omega arith) in
    written_is method_words method_words none_added access (met (eqb access (method_flags access)) (is_written method_words method_words none_added access) test (eq-eqb access (method_flags access) is))

-- ---- Classes

abbrev class_test : ℕ → Bool
class_test access = not (eqb access (class_flags access) && not (is_interface access)) || is_written class_words written_class_words class_added access

class_tests : agree_below class_test always 2048 ≡ true
unfolding access_names
class_tests = refl

abbrev interface_test : ℕ → Bool
interface_test access = not (eqb access (class_flags access) && is_interface access) || is_written class_words written_interface_words interface_added access

interface_tests : agree_below interface_test always 2048 ≡ true
unfolding access_names
interface_tests = refl

class_flags_small : (access : ℕ) → class_flags access < 2048
class_flags_small access = by (is_interface access)
  where
    by : (b : Bool) → cond b (bit_or (bit_and access 49) 1536) (bit_or (bit_and access 1041) 32) < 2048
    by true = let low : bit_and access 49 ≤ 49 = and_le_r access 49 in or_lt 11 (bit_and access 49) 1536 (omega arith) (omega arith)
    by false = let low : bit_and access 1041 ≤ 1041 = and_le_r access 1041 in or_lt 11 (bit_and access 1041) 32 (omega arith) (omega arith)

pub class_words_read : (access : ℕ) → access ≡ class_flags access → is_interface access ≡ false → IsWritten class_words written_class_words class_added access
class_words_read access is none =
    let below : class_flags access < 2048 = class_flags_small access in
    let test : class_test access ≡ true = agree_below_at class_test always 2048 access class_tests (omega arith) in
    written_is class_words written_class_words class_added access (met (eqb access (class_flags access) && not (is_interface access)) (is_written class_words written_class_words class_added access) test (rw (eq-eqb access (class_flags access) is, none) refl))

pub interface_words_read : (access : ℕ) → access ≡ class_flags access → is_interface access ≡ true → IsWritten class_words written_interface_words interface_added access
interface_words_read access is some =
    let below : class_flags access < 2048 = class_flags_small access in
    let test : interface_test access ≡ true = agree_below_at interface_test always 2048 access interface_tests (omega arith) in
    written_is class_words written_interface_words interface_added access (met (eqb access (class_flags access) && is_interface access) (is_written class_words written_interface_words interface_added access) test (rw (eq-eqb access (class_flags access) is, some) refl))

-- ---- The words are words

abbrev pub ArePlain : Access → Type 0
ArePlain words = AllByRecursion (λ (p : List ℕ × ℕ). IsPlain p.0) words

names_by : (w : List ℕ) (ws : List (List ℕ)) (b : Bool) → IsPlain w → ArePieces ws (as_words ws) → ArePieces (cond b (w ∷ ws) ws) (as_words (cond b (w ∷ ws) ws))
names_by w ws true p are = (plain_piece w p, are)
names_by w ws false p are = are

pub names_are : (words : Access) (access : ℕ) → ArePlain words → ArePieces (access_names words access) (as_words (access_names words access))
unfolding access_names
names_are [] access plain = tt
names_are ((word, flag) ∷ others) access plain = names_by word (access_names others access) (has_flag flag access) plain.0 (names_are others access plain.1)

table_plain : (words : Access) → list_all (λ (p : List ℕ × ℕ). is_plain p.0) words ≡ true → ArePlain words
table_plain [] e = tt
table_plain ((word, flag) ∷ others) e =
    let both = and_parts (is_plain word) (list_all (λ (p : List ℕ × ℕ). is_plain p.0) others) e in
    (plain_from word both.0, table_plain others both.1)

pub field_words_plain : ArePlain field_words
field_words_plain = table_plain field_words refl

pub method_words_plain : ArePlain method_words
method_words_plain = table_plain method_words refl

pub class_words_plain : ArePlain written_class_words
class_words_plain = table_plain written_class_words refl

pub interface_words_plain : ArePlain written_interface_words
interface_words_plain = table_plain written_interface_words refl
