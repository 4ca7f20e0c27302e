-- Proves that words of a table without repetition are those each of whose flags is new.
use Rattle.std.proofs.Common.{◌≡◌, ℕ, inl, inr, Bool, true, false, not, eqb, List, [], ◌∷◌, Option, Some, None, Ok, Err, IsTrue, refl, sym, ap, subst, ◌∙◌, bit_or, bit_and}
use Rattle.std.specs.List.{AllByRecursion}
use Rattle.std.specs.Int.Bits.{and_zero_l}
use Rattle.std.proofs.lemmas.Nat.{and_or_self, and_or_apart}
use Rattle.std.proofs.lemmas.Option.{none-some, same_Some}
use Rattle.jvms_file.specs.Names.{same_text}
use Rattle.jvms_file.specs.Members.{has_flag}
use Rattle.jasmin.specs.declared.token.Lexeme.{Lexeme}
use Rattle.jasmin.specs.declared.token.Lexeme.TheVariants as lexeme
use Rattle.jasmin.specs.declared.statement.Flaw.TheVariants as flaw
use Rattle.jasmin.specs.Judgements.{Judged}
use Rattle.jasmin.specs.Operands.{Access, class_words, field_words, method_words, flag_of, flags_with, flags_in, access_word, access_words_after, access_words}
use Rattle.source_form_laws.proofs.Judged.{choose, unless_is, asked_is}
use Rattle.source_grammar_laws.specs.Words.{IsAccessWord, IsAbsent, SpellsFlags, SpellsAccess}
use Rattle.source_grammar_laws.proofs.Places.{text_is, text_same}

-- ---- Access words

flag_said : (table : Access) (w : List ℕ) (flag : ℕ) → flag_of table w ≡ Some flag → IsAccessWord table w flag
flag_said [] w flag e = absurd (none-some flag e)
flag_said ((word, bit) ∷ others) w flag e =
    choose (same_text word w) (Some bit) (flag_of others w) (Some flag) e
    (λ met is. inl (sym (text_is word w met), sym (same_Some bit flag is)))
    (λ no is. inr (flag_said others w flag is))

-- Two flags have no bit in common.
record AreApart (f g : ℕ) : Type 0 where
  pub first : bit_and f g ≡ 0
  pub second : bit_and g f ≡ 0

-- No word is repeated in a table, and no two of its flags have a bit in common.
abbrev IsTable : Access → Type 0
IsTable [] = Unit {0}
IsTable ((word, bit) ∷ others) =
    (flag_of others word ≡ None) × (eqb bit 0 ≡ false) × AllByRecursion (λ (p : List ℕ × ℕ). AreApart bit p.1) others × IsTable others

-- Tokens are words of a table whose flags are new, each among those before it.
abbrev SpellsAccessBehind : Access → ℕ → List Lexeme → ℕ → Type 0
SpellsAccessBehind table before [] flags = flags ≡ before
SpellsAccessBehind table before (t ∷ ts) flags =
    (w : List ℕ) × (flag : ℕ) × (t ≡ lexeme.Word w) × IsAccessWord table w flag × IsTrue (not (has_flag flag before))
    × SpellsAccessBehind table (bit_or before flag) ts flags

flag_says : (table : Access) (w : List ℕ) (flag : ℕ) → IsTable table → IsAccessWord table w flag → flag_of table w ≡ Some flag
flag_says [] w flag t is = absurd is
flag_says ((word, bit) ∷ others) w flag t (inl p) = rw (p.0, text_same word) (ap (λ (n : ℕ). Some n) (sym p.1))
flag_says ((word, bit) ∷ others) w flag t (inr is) =
    by (same_text word w) refl (flag_says others w flag t.3 is)
  where
    by : (b : Bool) → same_text word w ≡ b → flag_of others w ≡ Some flag → flag_of ((word, bit) ∷ others) w ≡ Some flag
    by true same f =
        let word_is = text_is word w same in
        absurd (none-some flag (sym t.0 ∙ ap (λ (v : List ℕ). flag_of others v) word_is ∙ f))
    by false other f = rw other f

access_said : (table : Access) (before : ℕ) (ts : List Lexeme) (u : Unit {0}) → access_words_after table before ts ≡ Ok u → SpellsAccessBehind table before ts (flags_with table before ts)
access_said table before [] u e = refl
access_said table before (lexeme.Word w ∷ ts) u e = one (flag_of table w) refl (unless_is (access_word table before (lexeme.Word w)) (access_words_after table (flags_with table before (lexeme.Word w ∷ [])) ts) u e) (λ n v f. access_said table n ts v f)
  where
    one : (o : Option ℕ) → flag_of table w ≡ o → (access_word table before (lexeme.Word w) ≡ Ok u) × (access_words_after table (flags_with table before (lexeme.Word w ∷ [])) ts ≡ Ok tt)
        → ((n : ℕ) (v : Unit {0}) → access_words_after table n ts ≡ Ok v → SpellsAccessBehind table n ts (flags_with table n ts)) → SpellsAccessBehind table before (lexeme.Word w ∷ ts) (flags_with table before (lexeme.Word w ∷ ts))
    one None is parts next =
        let none : ◌≡◌ {A = Judged (Unit {0})} (Err flaw.Flags) (Ok u) = rw is at parts.0 in absurd cc
    one (Some flag) is parts next =
        let first = asked_is _ flaw.Flags u (rw is at parts.0) in
        rw is (w, flag, refl, flag_said table w flag is, first, next (bit_or before flag) tt (rw is at parts.1))
access_said table before (lexeme.Text w ∷ ts) u e = let bad = (unless_is (access_word table before (lexeme.Text w)) (access_words_after table before ts) u e).0 in absurd cc
access_said table before (lexeme.Colon ∷ ts) u e = let bad = (unless_is (access_word table before lexeme.Colon) (access_words_after table before ts) u e).0 in absurd cc
access_said table before (lexeme.Equals ∷ ts) u e = let bad = (unless_is (access_word table before lexeme.Equals) (access_words_after table before ts) u e).0 in absurd cc

-- The words are read without a fault, and as these flags.
pub record AreRead (table : Access) (before : ℕ) (ts : List Lexeme) (flags : ℕ) : Type 0 where
  pub faultless : access_words_after table before ts ≡ Ok tt
  pub value : flags_with table before ts ≡ flags

access_says : (table : Access) (before : ℕ) (ts : List Lexeme) (flags : ℕ) → IsTable table → SpellsAccessBehind table before ts flags → AreRead table before ts flags
access_says table before [] flags t is = record { faultless = refl; value = sym is }
access_says table before (t ∷ ts) flags good (w, flag, e, is, new, rest) =
    let read = access_says table (bit_or before flag) ts flags good rest in
    let known = flag_says table w flag good is in
    record { faultless = rw (e, known, new, read.faultless) refl; value = rw (e, known) read.value }

-- ---- New flags, and new words

flag_some : (table : Access) (w : List ℕ) (flag : ℕ) → IsTable table → IsAccessWord table w flag → eqb flag 0 ≡ false
flag_some [] w flag t is = absurd is
flag_some ((word, bit) ∷ others) w flag t (inl p) = ap (λ (n : ℕ). eqb n 0) p.1 ∙ t.1
flag_some ((word, bit) ∷ others) w flag t (inr is) = flag_some others w flag t.3 is

among : (bit : ℕ) (others : Access) (w : List ℕ) (flag : ℕ) → AllByRecursion (λ (p : List ℕ × ℕ). AreApart bit p.1) others → IsAccessWord others w flag → AreApart bit flag
among bit [] w flag all is = absurd is
among bit ((word, other) ∷ others) w flag all (inl p) = subst (λ (n : ℕ). AreApart bit n) (sym p.1) all.0
among bit ((word, other) ∷ others) w flag all (inr is) = among bit others w flag all.1 is

-- The flags of two different words have no bit in common.
flags_apart : (table : Access) (w v : List ℕ) (f g : ℕ) → IsTable table → IsAccessWord table w f → IsAccessWord table v g → (v ≡ w → ⊥) → bit_and f g ≡ 0
flags_apart [] w v f g t a b other = absurd a
flags_apart ((word, bit) ∷ others) w v f g t (inl p) (inl q) other = absurd (other (q.0 ∙ sym p.0))
flags_apart ((word, bit) ∷ others) w v f g t (inl p) (inr b) other = ap (λ (n : ℕ). bit_and n g) p.1 ∙ (among bit others v g t.2 b).first
flags_apart ((word, bit) ∷ others) w v f g t (inr a) (inl q) other = ap (λ (n : ℕ). bit_and f n) q.1 ∙ (among bit others w f t.2 a).second
flags_apart ((word, bit) ∷ others) w v f g t (inr a) (inr b) other = flags_apart others w v f g t.3 a b other

-- A flag is set in the flags that include it.
has_own : (n f : ℕ) → eqb f 0 ≡ false → has_flag f (bit_or n f) ≡ true
has_own n f some = rw (and_or_self f n, some) refl

has_other : (n f g : ℕ) → bit_and f g ≡ 0 → has_flag g (bit_or n f) ≡ has_flag g n
has_other n f g apart = rw (and_or_apart g n f apart) refl

no_both : (b : Bool) → IsTrue (not b) → b ≡ true → ⊥
no_both true e is = cc
no_both false e is = cc

-- A word has only one flag in a table.
one_flag : (table : Access) (w : List ℕ) (f g : ℕ) → IsTable table → IsAccessWord table w f → IsAccessWord table w g → f ≡ g
one_flag table w f g t a b = same_Some f g (sym (flag_says table w f t a) ∙ flag_says table w g t b)

-- A word whose flag is set already isn't among tokens whose flags are new.
absent_behind : (table : Access) (w : List ℕ) (f n : ℕ) (ts : List Lexeme) (flags : ℕ) → IsTable table → IsAccessWord table w f → has_flag f n ≡ true → SpellsAccessBehind table n ts flags → IsAbsent w ts
absent_behind table w f n [] flags t a has is = tt
absent_behind table w f n (u ∷ ts) flags t a has (v, g, e, b, new, rest) =
    let other : u ≡ lexeme.Word w → ⊥ = λ same.
    let text = word_same v w (sym e ∙ same) in
    no_both (has_flag g n) new (subst (λ (k : ℕ). has_flag k n ≡ true) (one_flag table w f g t a (subst (λ (x : List ℕ). IsAccessWord table x g) text b)) has) in
    let apart = flags_apart table v w g f t b a (λ same. other (e ∙ ap (λ (x : List ℕ). lexeme.Word x) (sym same))) in
    (other, absent_behind table w f (bit_or n g) ts flags t a (has_other n g f apart ∙ has) rest)
  where
    word_same : (a b : List ℕ) → lexeme.Word a ≡ lexeme.Word b → a ≡ b
    word_same a b e = cc

new_words : (table : Access) (before : ℕ) (ts : List Lexeme) (flags : ℕ) → IsTable table → SpellsAccessBehind table before ts flags → SpellsFlags table before ts flags
new_words table before [] flags t is = is
new_words table before (u ∷ ts) flags t (w, f, e, a, new, rest) =
    (w, f, e, a, absent_behind table w f (bit_or before f) ts flags t a (has_own before f (flag_some table w f t a)) rest, new_words table (bit_or before f) ts flags t rest)

-- The flags of these words aren't set yet.
abbrev AreFree : Access → ℕ → List Lexeme → Type 0
AreFree table n [] = Unit {0}
AreFree table n (u ∷ ts) = ((w : List ℕ) (f : ℕ) → u ≡ lexeme.Word w → IsAccessWord table w f → has_flag f n ≡ false) × AreFree table n ts

still_free : (table : Access) (w : List ℕ) (f n : ℕ) (ts : List Lexeme) → IsTable table → IsAccessWord table w f → IsAbsent w ts → AreFree table n ts → AreFree table (bit_or n f) ts
still_free table w f n [] t a absent free = tt
still_free table w f n (u ∷ ts) t a absent free = (
  λ v g e b. has_other n f g (flags_apart table w v f g t a b (λ same. absent.0 (e ∙ ap (λ (x : List ℕ). lexeme.Word x) same))) ∙ free.0 v g e b,
  still_free table w f n ts t a absent.1 free.1,
)

new_flags : (table : Access) (before : ℕ) (ts : List Lexeme) (flags : ℕ) → IsTable table → AreFree table before ts → SpellsFlags table before ts flags → SpellsAccessBehind table before ts flags
new_flags table before [] flags t free is = is
new_flags table before (u ∷ ts) flags t free (w, f, e, a, absent, rest) =
    (w, f, e, a, rw (free.0 w f e a) refl, new_flags table (bit_or before f) ts flags t (still_free table w f before ts t a absent free.1) rest)

none_free : (table : Access) (ts : List Lexeme) → AreFree table 0 ts
none_free table [] = tt
none_free table (u ∷ ts) = (λ w f e a. ap (λ (n : ℕ). not (eqb n 0)) (and_zero_l f), none_free table ts)

-- ---- The three tables

class_table : IsTable class_words
class_table = (refl, refl, (record { first = refl; second = refl }, (record { first = refl; second = refl }, (record { first = refl; second = refl }, (record { first = refl; second = refl }, tt)))), (refl, refl, (record { first = refl; second = refl }, (record { first = refl; second = refl }, (record { first = refl; second = refl }, tt))), (refl, refl, (record { first = refl; second = refl }, (record { first = refl; second = refl }, tt)), (refl, refl, (record { first = refl; second = refl }, tt), (refl, refl, tt, tt)))))

field_table : IsTable field_words
field_table = (refl, refl, (record { first = refl; second = refl }, (record { first = refl; second = refl }, (record { first = refl; second = refl }, (record { first = refl; second = refl }, (record { first = refl; second = refl }, (record { first = refl; second = refl }, tt)))))), (refl, refl, (record { first = refl; second = refl }, (record { first = refl; second = refl }, (record { first = refl; second = refl }, (record { first = refl; second = refl }, (record { first = refl; second = refl }, tt))))), (refl, refl, (record { first = refl; second = refl }, (record { first = refl; second = refl }, (record { first = refl; second = refl }, (record { first = refl; second = refl }, tt)))), (refl, refl, (record { first = refl; second = refl }, (record { first = refl; second = refl }, (record { first = refl; second = refl }, tt))), (refl, refl, (record { first = refl; second = refl }, (record { first = refl; second = refl }, tt)), (refl, refl, (record { first = refl; second = refl }, tt), (refl, refl, tt, tt)))))))

method_table : IsTable method_words
method_table = (refl, refl, (record { first = refl; second = refl }, (record { first = refl; second = refl }, (record { first = refl; second = refl }, (record { first = refl; second = refl }, (record { first = refl; second = refl }, (record { first = refl; second = refl }, (record { first = refl; second = refl }, tt))))))), (refl, refl, (record { first = refl; second = refl }, (record { first = refl; second = refl }, (record { first = refl; second = refl }, (record { first = refl; second = refl }, (record { first = refl; second = refl }, (record { first = refl; second = refl }, tt)))))), (refl, refl, (record { first = refl; second = refl }, (record { first = refl; second = refl }, (record { first = refl; second = refl }, (record { first = refl; second = refl }, (record { first = refl; second = refl }, tt))))), (refl, refl, (record { first = refl; second = refl }, (record { first = refl; second = refl }, (record { first = refl; second = refl }, (record { first = refl; second = refl }, tt)))), (refl, refl, (record { first = refl; second = refl }, (record { first = refl; second = refl }, (record { first = refl; second = refl }, tt))), (refl, refl, (record { first = refl; second = refl }, (record { first = refl; second = refl }, tt)), (refl, refl, (record { first = refl; second = refl }, tt), (refl, refl, tt, tt))))))))

pub class_words_said : (ts : List Lexeme) (u : Unit {0}) → access_words class_words ts ≡ Ok u → SpellsAccess class_words ts (flags_in class_words ts)
class_words_said ts u e = new_words class_words 0 ts (flags_in class_words ts) class_table (access_said class_words 0 ts u e)

pub field_words_said : (ts : List Lexeme) (u : Unit {0}) → access_words field_words ts ≡ Ok u → SpellsAccess field_words ts (flags_in field_words ts)
field_words_said ts u e = new_words field_words 0 ts (flags_in field_words ts) field_table (access_said field_words 0 ts u e)

pub method_words_said : (ts : List Lexeme) (u : Unit {0}) → access_words method_words ts ≡ Ok u → SpellsAccess method_words ts (flags_in method_words ts)
method_words_said ts u e = new_words method_words 0 ts (flags_in method_words ts) method_table (access_said method_words 0 ts u e)

pub class_words_say : (ts : List Lexeme) (flags : ℕ) → SpellsAccess class_words ts flags → AreRead class_words 0 ts flags
class_words_say ts flags is = access_says class_words 0 ts flags class_table (new_flags class_words 0 ts flags class_table (none_free class_words ts) is)

pub field_words_say : (ts : List Lexeme) (flags : ℕ) → SpellsAccess field_words ts flags → AreRead field_words 0 ts flags
field_words_say ts flags is = access_says field_words 0 ts flags field_table (new_flags field_words 0 ts flags field_table (none_free field_words ts) is)

pub method_words_say : (ts : List Lexeme) (flags : ℕ) → SpellsAccess method_words ts flags → AreRead method_words 0 ts flags
method_words_say ts flags is = access_says method_words 0 ts flags method_table (new_flags method_words 0 ts flags method_table (none_free method_words ts) is)
