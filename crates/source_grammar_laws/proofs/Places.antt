-- Proves what the token at an operand's place spells, by what is read from it.
use Rattle.std.proofs.Common.{◌≡◌, ℕ, ◌+◌, ◌^◌, ◌≤◌, inl, inr, ◌&&◌, ◌||◌, Bool, true, false, cond, eqb, List, [], ◌∷◌, ◌++◌, length, Option, Some, None, Ok, Err, IsTrue, ℤ, refl, sym, ap, subst, ◌∙◌, arith, option_and_then, codes, unsigned_abs}
use Rattle.std.specs.Prelude.{nat_le, pos, negsuc, int_le}
use Rattle.std.specs.List.{list_any, before_first, after_first, position_or_len}
use Rattle.std.proofs.lemmas.Bool.{and_parts, le-leb, leb-true, eqb-true, eq-eqb, ne_eqb, not-true, ltb-false}
use Rattle.std.proofs.lemmas.Option.{none-some, same_Some}
use Rattle.jvms_file.proofs.DescriptorLaws.{any_is_inside}
use Rattle.std.proofs.lemmas.List.{drop_all}
use Rattle.jvms_file.specs.Names.{same_text}
use Rattle.jvms_file.specs.Descriptors.{is_class_entry_name}
use Rattle.jvms_file.specs.declared.insn.ArrayType.{ArrayType}
use Rattle.jvms_file.specs.declared.insn.ArrayType.TheVariants as array_type
use Rattle.jasmin.specs.declared.token.Lexeme.{Lexeme}
use Rattle.jasmin.specs.declared.token.Lexeme.TheVariants as lexeme
use Rattle.jasmin.specs.declared.source.Caught.{Caught}
use Rattle.jasmin.specs.declared.source.Caught.TheVariants as caught
use Rattle.jasmin.specs.declared.statement.Flaw.{Flaw}
use Rattle.jasmin.specs.declared.statement.Flaw.TheVariants as flaw
use Rattle.jasmin.specs.Judgements.{Judged, map_ok}
use Rattle.jasmin.specs.Numerals.{number_of, between, natural, is_from_to, is_version}
use Rattle.jasmin.specs.Operands.{exactly, word_at, word_if, keyword_at, judged_number, number_at, u8_at, u16_at, caught_at, array_type_of, array_type_at}
use Rattle.source_form_laws.proofs.Judged.{same_ok, choose, said_gives, asked_is, tested_is}
use Rattle.source_grammar_laws.specs.Numbers.{IsDigit, SpellsDigits, SpellsNatural, SpellsNumber, SpellsUnsigned, SpellsVersion}
use Rattle.source_grammar_laws.specs.Words.{SpellsCaught, type_word}
use Rattle.source_grammar_laws.proofs.Cuts.{cut_first, has_first}
use Rattle.source_grammar_laws.proofs.Numbers.{natural_says, natural_said, number_says, number_said}

-- ---- Words

pub text_is : (a b : List ℕ) → same_text a b ≡ true → a ≡ b
text_is [] [] e = refl
text_is [] (v ∷ vs) e = absurd cc
text_is (u ∷ us) [] e = absurd cc
text_is (u ∷ us) (v ∷ vs) e =
    let both = and_parts (eqb u v) (same_text us vs) e in
    let first = eqb-true u v both.0 in
    let rest = text_is us vs both.1 in
    cc

pub text_same : (a : List ℕ) → same_text a a ≡ true
text_same [] = refl
text_same (u ∷ us) = rw (eq-eqb u u refl, text_same us) refl

pub word_said : (o : Option Lexeme) (w : List ℕ) → word_at o ≡ Ok w → o ≡ Some (lexeme.Word w)
word_said (Some (lexeme.Word v)) w e = ap (λ (x : List ℕ). Some (lexeme.Word x)) (same_ok v w e)
word_said (Some (lexeme.Text v)) w e = absurd cc
word_said (Some lexeme.Colon) w e = absurd cc
word_said (Some lexeme.Equals) w e = absurd cc
word_said None w e = absurd cc

-- The operand is a word that passes the test.
pub place_said : (test : List ℕ → Bool) (f : Flaw) (o : Option Lexeme) (w : List ℕ) → word_if test f (word_at o) ≡ Ok w → (o ≡ Some (lexeme.Word w)) × IsTrue (test w)
place_said test f o w e =
    let both = tested_is test f (word_at o) w e in
    (word_said o w both.0, both.1)

pub place_says : (test : List ℕ → Bool) (f : Flaw) (w : List ℕ) → IsTrue (test w) → word_if test f (Ok w) ≡ Ok w
place_says test f w is = rw is refl

-- The operand is the given word.
pub keyword_said : (text : List ℕ) (o : Option Lexeme) (u : Unit {0}) → keyword_at text o ≡ Ok u → o ≡ Some (lexeme.Word text)
keyword_said text o u e =
    said_gives (λ (v : Unit {0}). o ≡ Some (lexeme.Word text)) (λ (w : List ℕ). tt) (word_if (same_text text) flaw.Operand (word_at o)) u e (λ w is.
    let both = place_said (same_text text) flaw.Operand o w is in
    both.0 ∙ ap (λ (x : List ℕ). Some (lexeme.Word x)) (sym (text_is text w both.1)))

pub keyword_says : (text : List ℕ) → keyword_at text (Some (lexeme.Word text)) ≡ Ok tt
keyword_says text = rw (text_same text) refl

pub exactly_said : (n : ℕ) (ts : List Lexeme) (u : Unit {0}) → exactly n ts ≡ Ok u → length ts ≡ n
exactly_said n ts u e = eqb-true (length ts) n (asked_is (eqb (length ts) n) flaw.Operand u e)

-- ---- Numbers

-- The operand is a word that spells a number within the bounds.
pub record IsNumber (least most : ℤ) (o : Option Lexeme) (z : ℤ) : Type 0 where
  pub w : List ℕ
  pub word : o ≡ Some (lexeme.Word w)
  pub spelled : SpellsNumber w z
  pub fits : IsTrue (int_le least z && int_le z most)

between_said : (least most : ℤ) (w : List ℕ) (z : ℤ) (o : Option ℤ) → number_of w ≡ o → (q : Option ℤ) → option_and_then (between least most) o ≡ q → q ≡ Some z → IsNumber least most (Some (lexeme.Word w)) z
between_said least most w z (Some n) is q e f =
    choose (int_le least n && int_le n most) (Some n) None (Some z) (e ∙ f)
    (λ met same. subst (IsNumber least most (Some (lexeme.Word w))) (same_Some n z same) (record { w = w; word = refl; spelled = number_said w n is; fits = met }))
    (λ no none. absurd (none-some z none))
between_said least most w z None is q e f = absurd (none-some z (e ∙ f))

judged_said : (least most : ℤ) (w : List ℕ) (z : ℤ) → judged_number least most w ≡ Ok z → IsNumber least most (Some (lexeme.Word w)) z
judged_said least most w z e = given (option_and_then (between least most) (number_of w)) refl
  where
    given : (o : Option ℤ) → option_and_then (between least most) (number_of w) ≡ o → IsNumber least most (Some (lexeme.Word w)) z
    given (Some m) is =
        let same : ◌≡◌ {A = Judged ℤ} (Ok m) (Ok z) = rw is at e in
        between_said least most w z (number_of w) refl (Some m) is (ap (λ (n : ℤ). Some n) (same_ok m z same))
    given None is =
        let none : ◌≡◌ {A = Judged ℤ} (Err flaw.Number) (Ok z) = rw is at e in
        absurd cc

pub number_place_said : (least most : ℤ) (o : Option Lexeme) (z : ℤ) → number_at least most o ≡ Ok z → IsNumber least most o z
number_place_said least most (Some (lexeme.Word w)) z e = judged_said least most w z e
number_place_said least most (Some (lexeme.Text t)) z e = absurd cc
number_place_said least most (Some lexeme.Colon) z e = absurd cc
number_place_said least most (Some lexeme.Equals) z e = absurd cc
number_place_said least most None z e = absurd cc

pub number_place_says : (least most : ℤ) (w : List ℕ) (z : ℤ) → SpellsNumber w z → IsTrue (int_le least z && int_le z most) → number_at least most (Some (lexeme.Word w)) ≡ Ok z
number_place_says least most w z is fits = rw (number_says w z is, fits) refl

-- The operand is a word that spells an unsigned number.
pub record IsUnsigned (bits : ℕ) (o : Option Lexeme) (n : ℕ) : Type 0 where
  pub w : List ℕ
  pub word : o ≡ Some (lexeme.Word w)
  pub spelled : SpellsUnsigned bits w n

below : (most : ℕ) (z : ℤ) → IsTrue (int_le (pos 0) z && int_le z (pos most)) → (z ≡ pos (unsigned_abs z)) × (unsigned_abs z ≤ most)
below most (pos n) e = (refl, leb-true n most (and_parts (int_le (pos 0) (pos n)) (int_le (pos n) (pos most)) e).1)
below most (negsuc n) e = absurd cc

unsigned_said : (bits most : ℕ) (o : Option Lexeme) (n : ℕ) → most + 1 ≡ 2 ^ bits → map_ok unsigned_abs (number_at (pos 0) (pos most) o) ≡ Ok n → IsUnsigned bits o n
unsigned_said bits most o n size e =
    said_gives (IsUnsigned bits o) unsigned_abs (number_at (pos 0) (pos most) o) n e (λ z is.
    let h = number_place_said (pos 0) (pos most) o z is in
    let b = below most z h.fits in
    let small = b.1 in
    record { w = h.w; word = h.word; spelled = (subst (λ (y : ℤ). SpellsNumber h.w y) b.0 h.spelled, omega arith) })

pub u16_said : (o : Option Lexeme) (n : ℕ) → u16_at o ≡ Ok n → IsUnsigned 16 o n
u16_said o n e = unsigned_said 16 65535 o n refl e

pub u8_said : (o : Option Lexeme) (n : ℕ) → u8_at o ≡ Ok n → IsUnsigned 8 o n
u8_said o n e = unsigned_said 8 255 o n refl e

unsigned_says : (bits most : ℕ) (w : List ℕ) (n : ℕ) → most + 1 ≡ 2 ^ bits → SpellsUnsigned bits w n → map_ok unsigned_abs (number_at (pos 0) (pos most) (Some (lexeme.Word w))) ≡ Ok n
unsigned_says bits most w n size is =
    let small = is.1 in
    rw (number_place_says (pos 0) (pos most) w (pos n) is.0 (rw (le-leb 0 n (omega arith), le-leb n most (omega arith)) refl)) refl

pub u16_says : (w : List ℕ) (n : ℕ) → SpellsUnsigned 16 w n → u16_at (Some (lexeme.Word w)) ≡ Ok n
u16_says w n is = unsigned_says 16 65535 w n refl is

pub u8_says : (w : List ℕ) (n : ℕ) → SpellsUnsigned 8 w n → u8_at (Some (lexeme.Word w)) ≡ Ok n
u8_says w n is = unsigned_says 8 255 w n refl is

-- ---- Versions

abbrev is_dot : ℕ → Bool
is_dot u = eqb u 46

-- Digits that were read spell a number within the bounds.
record IsWithin (least most : ℕ) (us : List ℕ) : Type 0 where
  pub n : ℕ
  pub spelled : SpellsNatural 10 us n
  pub low : least ≤ n
  pub high : n ≤ most

within_said : (least most : ℕ) (us : List ℕ) (o : Option ℕ) → natural 10 us ≡ o → is_from_to least most o ≡ true → IsWithin least most us
within_said least most us (Some n) is e =
    let both = and_parts (nat_le least n) (nat_le n most) e in
    record { n = n; spelled = natural_said 10 us n is; low = leb-true least n both.0; high = leb-true n most both.1 }
within_said least most us None is e = absurd cc

-- Without a dot, no unit follows one.
none_behind : (w : List ℕ) → list_any is_dot w ≡ false → after_first is_dot w ≡ []
none_behind w none =
    let far = ltb-false (position_or_len is_dot w) (length w) (sym (any_is_inside is_dot w) ∙ none) in
    drop_all (position_or_len is_dot w + 1) w (omega arith)

pub version_said : (w : List ℕ) → is_version w ≡ true → SpellsVersion w
version_said w e = by (list_any is_dot w) refl
  where
    both : (is_from_to 45 50 (natural 10 (before_first is_dot w)) ≡ true) × (is_from_to 0 65535 (natural 10 (after_first is_dot w)) ≡ true)
    both = and_parts (is_from_to 45 50 (natural 10 (before_first is_dot w))) (is_from_to 0 65535 (natural 10 (after_first is_dot w))) e

    by : (b : Bool) → list_any is_dot w ≡ b → SpellsVersion w
    by true is =
        let h = has_first is_dot w is in
        let cut = cut_first is_dot h.xs h.y h.ys h.none h.passes in
        let front = ap (λ (v : List ℕ). before_first is_dot v) h.whole ∙ cut.before in
        let back = ap (λ (v : List ℕ). after_first is_dot v) h.whole ∙ cut.behind in
        let major = within_said 45 50 h.xs (natural 10 h.xs) refl (subst (λ (v : List ℕ). is_from_to 45 50 (natural 10 v) ≡ true) front both.0) in
        let minor = within_said 0 65535 h.ys (natural 10 h.ys) refl (subst (λ (v : List ℕ). is_from_to 0 65535 (natural 10 v) ≡ true) back both.1) in
        let dot = eqb-true h.y 46 h.passes in
        (h.xs, h.ys, major.n, minor.n, h.whole ∙ ap (λ (u : ℕ). h.xs ++ u ∷ h.ys) dot, major.spelled, minor.spelled, major.low, major.high, minor.high)
    by false is = let bad : is_from_to 0 65535 (natural 10 []) ≡ true = subst (λ (v : List ℕ). is_from_to 0 65535 (natural 10 v) ≡ true) (none_behind w is) both.1 in absurd cc

no_dot : (us : List ℕ) (n : ℕ) → SpellsDigits 10 us n → list_any is_dot us ≡ false
no_dot [] n is = refl
no_dot (u ∷ us) n (d, m, is, rest, e) =
    let other = not_dot u d is in
    rw (other, no_dot us m rest) refl
  where
    not_dot : (u d : ℕ) → IsDigit 10 u d → eqb u 46 ≡ false
    not_dot u d (small, inl p) = let e = p.0 in ne_eqb u 46 (λ same. omega arith)
    not_dot u d (small, inr p) = let low = p.0 in absurd (omega arith)

pub version_says : (w : List ℕ) → SpellsVersion w → is_version w ≡ true
version_says w (major, minor, m, n, e, front, back, low, high, small) =
    let cut = cut_first is_dot major 46 minor (no_dot major m front.1) refl in
    rw (e, cut.before, cut.behind, natural_says 10 major m front, natural_says 10 minor n back, le-leb 45 m low, le-leb m 50 high, le-leb 0 n (omega arith), le-leb n 65535 small) refl

-- ---- Handlers and types of arrays

caught_by : (w : List ℕ) (all : Bool) → same_text (codes "all") w ≡ all → IsTrue (all || is_class_entry_name w) → SpellsCaught w (cond all caught.All (caught.Class w))
caught_by w true is e = sym (text_is (codes "all") w is)
caught_by w false is e = (refl, e, rw is refl)

-- The operand is a word that spells what a handler catches.
pub record IsCaught (o : Option Lexeme) (c : Caught) : Type 0 where
  pub w : List ℕ
  pub word : o ≡ Some (lexeme.Word w)
  pub spelled : SpellsCaught w c

pub caught_said : (o : Option Lexeme) (c : Caught) → caught_at o ≡ Ok c → IsCaught o c
caught_said o c e =
    said_gives (IsCaught o) _ _ c e (λ w is.
    let both = place_said (λ v. same_text (codes "all") v || is_class_entry_name v) flaw.Name o w is in
    record { w = w; word = both.0; spelled = caught_by w (same_text (codes "all") w) refl both.1 })

pub caught_says : (w : List ℕ) (c : Caught) → SpellsCaught w c → caught_at (Some (lexeme.Word w)) ≡ Ok c
caught_says w caught.All e = rw e refl
caught_says w (caught.Class name) (e, named, other) =
    let no = not-true (same_text (codes "all") name) other in
    rw (e, no, named, no) refl

pub array_type_said : (o : Option Lexeme) (type : ArrayType) → array_type_at o ≡ Ok type → o ≡ Some (lexeme.Word (type_word type))
array_type_said (Some (lexeme.Word w)) type e = by (array_type_of w) refl
  where
    next : (text : List ℕ) (found : ArrayType) (o : Option ArrayType) → cond (same_text text w) (Some found) o ≡ Some type → type_word found ≡ text
        → (o ≡ Some type → w ≡ type_word type) → w ≡ type_word type
    next text found o e is later =
        choose (same_text text w) (Some found) o (Some type) e
        (λ met same. sym (text_is text w met) ∙ sym is ∙ ap type_word (same_Some found type same))
        (λ no rest. later rest)

    found_in : array_type_of w ≡ Some type → w ≡ type_word type
    found_in e =
        next (codes "boolean") array_type.Boolean _ e refl (λ e.
        next (codes "char") array_type.Char _ e refl (λ e.
        next (codes "float") array_type.Float _ e refl (λ e.
        next (codes "double") array_type.Double _ e refl (λ e.
        next (codes "byte") array_type.Byte _ e refl (λ e.
        next (codes "short") array_type.Short _ e refl (λ e.
        next (codes "int") array_type.Int _ e refl (λ e.
        next (codes "long") array_type.Long _ e refl (λ e. absurd (none-some type e)))))))))

    by : (q : Option ArrayType) → array_type_of w ≡ q → Some (lexeme.Word w) ≡ Some (lexeme.Word (type_word type))
    by (Some t) is =
        let same : ◌≡◌ {A = Judged ArrayType} (Ok t) (Ok type) = rw is at e in
        ap (λ (v : List ℕ). Some (lexeme.Word v)) (found_in (is ∙ ap (λ (s : ArrayType). Some s) (same_ok t type same)))
    by None is = let none : ◌≡◌ {A = Judged ArrayType} (Err flaw.Operand) (Ok type) = rw is at e in absurd cc
array_type_said (Some (lexeme.Text w)) type e = absurd cc
array_type_said (Some lexeme.Colon) type e = absurd cc
array_type_said (Some lexeme.Equals) type e = absurd cc
array_type_said None type e = absurd cc

pub array_type_says : (type : ArrayType) → array_type_at (Some (lexeme.Word (type_word type))) ≡ Ok type
array_type_says array_type.Boolean = refl
array_type_says array_type.Char = refl
array_type_says array_type.Float = refl
array_type_says array_type.Double = refl
array_type_says array_type.Byte = refl
array_type_says array_type.Short = refl
array_type_says array_type.Int = refl
array_type_says array_type.Long = refl
