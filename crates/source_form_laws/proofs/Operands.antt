-- Derives the form of an operand from its judgement.
use Rattle.std.proofs.Common.{◌≡◌, ℕ, ◌≤◌, Bool, true, false, ◌&&◌, ◌||◌, List, Option, Some, None, Ok, Err, IsTrue, ℤ, pos, negsuc, int_le, unsigned_abs, option_and_then, cond, codes, refl, ap, subst, ◌∙◌, arith, is_some}
use Rattle.std.specs.List.{list_any}
use Rattle.std.proofs.lemmas.Bool.{and_parts, leb-true}
use Rattle.std.proofs.lemmas.Option.{none-some, same_Some}
use Rattle.jvms_file.specs.declared.descriptor.MethodType.{MethodType}
use Rattle.jvms_file.specs.Names.{same_text, is_name, is_class_name}
use Rattle.jvms_file.specs.Descriptors.{field_type_of, is_class_entry_name, method_type_of}
use Rattle.jvms_file.specs.Members.{is_method_descriptor_for}
use Rattle.jvms_file.specs.Spelling.{IsU1, IsU2}
use Rattle.jasmin.specs.declared.token.Lexeme.{Lexeme}
use Rattle.jasmin.specs.declared.token.Lexeme.TheVariants as lexeme
use Rattle.jasmin.specs.declared.source.Caught.{Caught}
use Rattle.jasmin.specs.declared.source.Caught.TheVariants as caught
use Rattle.jasmin.specs.declared.statement.Flaw.TheVariants as flaw
use Rattle.jasmin.specs.Judgements.{Judged}
use Rattle.jasmin.specs.Numerals.{number_of, between}
use Rattle.jasmin.specs.Operands.{word_at, name_at, class_name_at, class_at, field_descriptor_at, judged_number, number_at, u8_at, u16_at, is_slash, class_of, name_of, is_member, caught_at}
use Rattle.jasmin.specs.Statements.{word_or_none}
use Rattle.source_form_laws.specs.Formed.{IsClassOrArray, IsFormedCaught}
use Rattle.source_form_laws.proofs.Judged.{same_ok, choose, said_gives, tested_is}

-- ---- Numbers

between_is : (least most : ℤ) (o : Option ℤ) (n : ℤ) → option_and_then (between least most) o ≡ Some n → IsTrue (int_le least n && int_le n most)
between_is least most (Some m) n e =
    choose (int_le least m && int_le m most) (Some m) None (Some n) e
    (λ met is. subst (λ (z : ℤ). IsTrue (int_le least z && int_le z most)) (same_Some m n is) met)
    (λ unmet is. absurd (none-some n is))
between_is least most None n e = absurd (none-some n e)

judged_between : (least most : ℤ) (w : List ℕ) (n : ℤ) → judged_number least most w ≡ Ok n → IsTrue (int_le least n && int_le n most)
judged_between least most w n e = given (option_and_then (between least most) (number_of w)) refl
  where
    given : (o : Option ℤ) → option_and_then (between least most) (number_of w) ≡ o → IsTrue (int_le least n && int_le n most)
    given (Some m) is =
        let same : ◌≡◌ {A = Judged ℤ} (Ok m) (Ok n) = rw is at e in
        between_is least most (number_of w) n (is ∙ ap (λ (z : ℤ). Some z) (same_ok m n same))
    given None is =
        let none : ◌≡◌ {A = Judged ℤ} (Err flaw.Number) (Ok n) = rw is at e in
        absurd cc

-- A number that was judged is within its bounds.
pub number_between : (least most : ℤ) (t : Option Lexeme) (n : ℤ) → number_at least most t ≡ Ok n → IsTrue (int_le least n && int_le n most)
number_between least most (Some (lexeme.Word w)) n e = judged_between least most w n e
number_between least most (Some _) n e = absurd cc
number_between least most None n e = absurd cc

unsigned_below : (most : ℕ) (n : ℤ) → IsTrue (int_le (pos 0) n && int_le n (pos most)) → unsigned_abs n ≤ most
unsigned_below most (pos n) e = leb-true n most (and_parts (int_le (pos 0) (pos n)) (int_le (pos n) (pos most)) e).1
unsigned_below most (negsuc n) e = absurd cc

pub u8_small : (t : Option Lexeme) (n : ℕ) → u8_at t ≡ Ok n → IsU1 n
u8_small t n e =
    said_gives IsU1 unsigned_abs (number_at (pos 0) (pos 255) t) n e (λ z is.
    let below : unsigned_abs z ≤ 255 = unsigned_below 255 z (number_between (pos 0) (pos 255) t z is) in
    omega arith)

pub u16_small : (t : Option Lexeme) (n : ℕ) → u16_at t ≡ Ok n → IsU2 n
u16_small t n e =
    said_gives IsU2 unsigned_abs (number_at (pos 0) (pos 65535) t) n e (λ z is.
    let below : unsigned_abs z ≤ 65535 = unsigned_below 65535 z (number_between (pos 0) (pos 65535) t z is) in
    omega arith)

-- ---- Words

pub word_is : (t : Option Lexeme) (w : List ℕ) → word_at t ≡ Ok w → word_or_none t ≡ w
word_is (Some (lexeme.Word v)) w e = same_ok v w e
word_is (Some _) w e = absurd cc
word_is None w e = absurd cc

pub name_is : (t : Option Lexeme) (w : List ℕ) → name_at t ≡ Ok w → IsTrue (is_name w)
name_is t w e = (tested_is is_name flaw.Name (word_at t) w e).1

pub class_name_is : (t : Option Lexeme) (w : List ℕ) → class_name_at t ≡ Ok w → IsTrue (is_class_name w)
class_name_is t w e = (tested_is is_class_name flaw.Name (word_at t) w e).1

pub class_is : (t : Option Lexeme) (w : List ℕ) → class_at t ≡ Ok w → (word_or_none t ≡ w) × IsClassOrArray w
class_is t w e =
    let both = tested_is is_class_entry_name flaw.Name (word_at t) w e in
    (word_is t w both.0, both.1)

pub field_descriptor_is : (t : Option Lexeme) (w : List ℕ) → field_descriptor_at t ≡ Ok w → (word_or_none t ≡ w) × IsTrue (is_some (field_type_of w))
field_descriptor_is t w e =
    let both = tested_is (λ v. is_some (field_type_of v)) flaw.Descriptor (word_at t) w e in
    (word_is t w both.0, both.1)

-- The two parts of a member's name.
pub member_parts : (test : List ℕ → Bool) (w : List ℕ) → IsTrue (is_member test w) → IsClassOrArray (class_of w) × IsTrue (test (name_of w))
member_parts test w e =
    let all = and_parts (list_any is_slash w && is_class_entry_name (class_of w)) (test (name_of w)) e in
    ((and_parts (list_any is_slash w) (is_class_entry_name (class_of w)) all.0).1, all.1)

-- A method's descriptor has a type.
pub described_type : (on_none : Bool) (text : List ℕ) → IsTrue (is_method_descriptor_for on_none text) → (t : MethodType) × (method_type_of text ≡ Some t)
described_type on_none text e = typed (method_type_of text) refl
  where
    typed : (o : Option MethodType) → method_type_of text ≡ o → (t : MethodType) × (method_type_of text ≡ Some t)
    typed (Some t) is = (t, is)
    typed None is = let none : false ≡ true = rw is at e in absurd cc

-- ---- Handlers

caught_formed : (all : Bool) (w : List ℕ) → IsTrue (all || is_class_entry_name w) → IsFormedCaught (cond all caught.All (caught.Class w))
caught_formed true w e = tt
caught_formed false w e = e

pub caught_is : (t : Option Lexeme) (c : Caught) → caught_at t ≡ Ok c → IsFormedCaught c
caught_is t c e =
    said_gives IsFormedCaught _ _ c e (λ w is.
    caught_formed (same_text (codes "all") w) w (tested_is (λ v. same_text (codes "all") v || is_class_entry_name v) flaw.Name (word_at t) w is).1)
