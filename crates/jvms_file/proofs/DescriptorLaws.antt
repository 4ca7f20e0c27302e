-- Reading and spelling agree (JVMS 4.3): what is read from a text is what the text spells, and what a text
-- spells is read from it. So a text spells at most one type.
use Rattle.std.proofs.Common.{◌≡◌, ℕ, zero, suc, ◌+◌, ◌<◌, ◌≤◌, Bool, true, false, cond, not, ◌&&◌, ◌||◌, ◌==◌, nat_lt, nat_le, IsTrue, List, [], ◌∷◌, ◌++◌, length, take, drop, Option, Some, None, refl, sym, ap, subst, ◌∙◌, append_assoc, arith, add-zero, lit≤}
use Rattle.std.specs.Prelude.{replicate}
use Rattle.std.specs.Option.{option_and_then, option_map}
use Rattle.std.specs.List.{flat_map, AllByRecursion, before_first, after_first, list_all, list_any, onto_first, position_or_len, slice_split}
use Rattle.std.proofs.lemmas.Bool.{and_parts, and_from, or_parts, or_from, not-true, eqb-true, ne_eqb, lt-ltb, ltb-true, leb-true, le-leb}
use Rattle.std.proofs.lemmas.Bool.Decides.{nat_tests}
use Rattle.std.proofs.lemmas.List.{take_at, drop_at, length-append, append-nil}
use Rattle.std.proofs.lemmas.List.Sums.{split_at_first, passes_at_first}
use Rattle.std.proofs.lemmas.Option.{same_Some, cond_some}
use Rattle.jvms_file.specs.declared.descriptor.Primitive.{Primitive}
use Rattle.jvms_file.specs.declared.descriptor.Primitive.TheVariants as primitive
use Rattle.jvms_file.specs.declared.descriptor.Element.{Element}
use Rattle.jvms_file.specs.declared.descriptor.Element.TheVariants as element
use Rattle.jvms_file.specs.declared.descriptor.FieldType.{FieldType}
use Rattle.jvms_file.specs.declared.descriptor.ResultType.{ResultType}
use Rattle.jvms_file.specs.declared.descriptor.ResultType.TheVariants as result_type
use Rattle.jvms_file.specs.declared.descriptor.MethodType.{MethodType}
use Rattle.jvms_file.specs.Names.{is_name, is_class_name, is_reserved, same_text}
use Rattle.jvms_file.specs.Descriptors.{letter_of, primitive_of, element_text, field_text, result_text, method_text, IsElement, IsFieldType, IsResultType, IsMethodType, parameter_units, SpellsFieldType, SpellsMethodType, object_type_from, field_type_from, without_rest, field_type_of, parameters_from, result_type_of, within_255_units, method_type_of}

-- ---- Options

-- a step that gave a value
then_some : {A B : Type 0} (f : A → Option B) (o : Option A) (y : B) → option_and_then f o ≡ Some y → (x : A) × (o ≡ Some x) × (f x ≡ Some y)
then_some f None y e = absurd cc
then_some f (Some x) y e = (x, refl, e)

-- a value that was changed
map_some : {A B : Type 0} (f : A → B) (o : Option A) (y : B) → option_map f o ≡ Some y → (x : A) × (o ≡ Some x) × (f x ≡ y)
map_some f None y e = absurd cc
map_some f (Some x) y e = (x, refl, same_Some (f x) y e)

-- a test that passed
guarded : {A : Type 0} (b : Bool) (o : Option A) (y : A) → cond b o None ≡ Some y → (b ≡ true) × (o ≡ Some y)
guarded true o y e = (refl, e)
guarded false o y e = absurd cc

-- nothing follows what was read
no_rest : {A : Type 0} (o : Option (A × List ℕ)) (x : A) → without_rest o ≡ Some x → o ≡ Some (x, [])
no_rest None x e = absurd cc
no_rest (Some (y, [])) x e = ap (λ (z : _). Some (z, [])) (same_Some y x e)
no_rest (Some (y, u ∷ us)) x e = absurd cc

-- ---- Names

-- no unit of a part is reserved, and an empty part has none
abbrev is_clean : List ℕ → Bool
is_clean us = list_all (λ v. not (is_reserved v)) us

-- a name is clean
name_is_clean : (us : List ℕ) → is_name us ≡ true → is_clean us ≡ true
name_is_clean [] e = refl
name_is_clean (u ∷ us) e = e

-- names are clean
names_are_clean : (parts : List (List ℕ)) → list_all is_name parts ≡ true → list_all is_clean parts ≡ true
names_are_clean [] e = refl
names_are_clean (part ∷ parts) e =
    let both = and_parts (is_name part) (list_all is_name parts) e in
    and_from (is_clean part) (list_all is_clean parts) (name_is_clean part both.0) (names_are_clean parts both.1)

-- a unit joined to the first part is not reserved if the parts are clean
onto_first_clean : (u : ℕ) (parts : List (List ℕ)) → list_all is_clean (onto_first u parts) ≡ true → (not (is_reserved u) ≡ true) × (list_all is_clean parts ≡ true)
onto_first_clean u [] e =
    let both = and_parts (is_clean (u ∷ [])) true e in
    let first = and_parts (not (is_reserved u)) true both.0 in
    (first.0, refl)
onto_first_clean u (part ∷ parts) e =
    let both = and_parts (is_clean (u ∷ part)) (list_all is_clean parts) e in
    let first = and_parts (not (is_reserved u)) (is_clean part) both.0 in
    (first.0, and_from (is_clean part) (list_all is_clean parts) first.1 both.1)

-- a unit that is not reserved is no semicolon
not_semicolon : (u : ℕ) → not (is_reserved u) ≡ true → (u == 59) ≡ false
not_semicolon u e =
    let all = or_parts _ (u == 47) (not-true (is_reserved u) e) in
    let three = or_parts _ (u == 91) all.0 in
    let two = or_parts (u == 46) (u == 59) three.0 in
    two.1

-- one unit of a class's name is no semicolon, and the units after it are those of names
one_unit : (u : ℕ) (us : List ℕ) (slash : Bool) → (u == 47) ≡ slash
    → list_all is_clean (cond slash ([] ∷ slice_split (λ u. u == 47) us) (onto_first u (slice_split (λ u. u == 47) us))) ≡ true
    → ((u == 59) ≡ false) × (list_all is_clean (slice_split (λ u. u == 47) us) ≡ true)
one_unit u us true is e =
    let same = eqb-true u 47 is in
    (ne_eqb u 59 (λ other. absurd (omega arith)), e)
one_unit u us false is e =
    let both = onto_first_clean u (slice_split (λ u. u == 47) us) e in
    (not_semicolon u both.0, both.1)

-- clean parts have no semicolon
no_semicolon : (us : List ℕ) → list_all is_clean (slice_split (λ u. u == 47) us) ≡ true → list_any (λ u. u == 59) us ≡ false
no_semicolon [] e = refl
no_semicolon (u ∷ us) e =
    let both = one_unit u us (u == 47) refl e in
    or_from (u == 59) (list_any (λ v. v == 59) us) both.0 (no_semicolon us both.1)

-- A class's name has no semicolon.
pub class_name_has_no_semicolon : (us : List ℕ) → IsTrue (is_class_name us) → list_any (λ u. u == 59) us ≡ false
class_name_has_no_semicolon us e = no_semicolon us (names_are_clean (slice_split (λ u. u == 47) us) e)

-- ---- The first unit that passes a test

-- a place plus one is in a text of one more unit exactly if the place is in the text
one_further : (i n : ℕ) (b : Bool) → nat_lt i n ≡ b → nat_lt (1 + i) (suc n) ≡ b
one_further i n b e = grind (arith, nat_tests)

-- one unit of a search
any_step : (passes others : Bool) (i n : ℕ) → others ≡ nat_lt i n → (passes || others) ≡ nat_lt (cond (not passes) (1 + i) 0) (suc n)
any_step true others i n e = sym (lt-ltb 0 (suc n) (omega arith))
any_step false others i n e = e ∙ sym (one_further i n (nat_lt i n) refl)

-- Some unit passes exactly if the first such place is inside the text.
pub any_is_inside : (p : ℕ → Bool) (us : List ℕ) → list_any p us ≡ nat_lt (position_or_len p us) (length us)
any_is_inside p [] = refl
any_is_inside p (u ∷ us) = any_step (p u) (list_any p us) (position_or_len p us) (length us) (any_is_inside p us)

-- the place of the first unit that passes, after units that don't
position_behind : (p : ℕ → Bool) (us rest : List ℕ) (v : ℕ) → list_any p us ≡ false → p v ≡ true → position_or_len p (us ++ v ∷ rest) ≡ length us
position_behind p [] rest v none passes = rw passes refl
position_behind p (u ∷ us) rest v none passes =
    let both = or_parts (p u) (list_any p us) none in
    let further = position_behind p us rest v both.1 passes in
    rw (both.0) (omega arith)

-- a disjunction with true is true
or_true : (b : Bool) → (b || true) ≡ true
or_true true = refl
or_true false = refl

-- a unit that passes after others
any_behind : (p : ℕ → Bool) (us rest : List ℕ) (v : ℕ) → p v ≡ true → list_any p (us ++ v ∷ rest) ≡ true
any_behind p [] rest v passes = rw passes refl
any_behind p (u ∷ us) rest v passes = rw (any_behind p us rest v passes) (or_true (p u))

-- ---- One type at the front of a text

-- a type, and the text after it
abbrev made : ℕ → Element → List ℕ → FieldType × List ℕ
made d e us = (record { dimensions = d; element = e }, us)

-- one test of a letter, followed by the others
letter_next : (b : Bool) (x : Primitive) (o : Option Primitive) (p : Primitive) (u : ℕ) → cond b (Some x) o ≡ Some p
    → (b ≡ true → u ≡ letter_of x) → (o ≡ Some p → u ≡ letter_of p) → u ≡ letter_of p
letter_next true x o p u e here further = subst (λ (q : Primitive). u ≡ letter_of q) (same_Some x p e) (here refl)
letter_next false x o p u e here further = further e

-- a letter that is read is the type's letter
primitive_found : (u : ℕ) (p : Primitive) → primitive_of u ≡ Some p → u ≡ letter_of p
primitive_found u p e =
    letter_next (u == 66) primitive.Byte _ p u e (eqb-true u 66) (λ e.
    letter_next (u == 67) primitive.Char _ p u e (eqb-true u 67) (λ e.
    letter_next (u == 68) primitive.Double _ p u e (eqb-true u 68) (λ e.
    letter_next (u == 70) primitive.Float _ p u e (eqb-true u 70) (λ e.
    letter_next (u == 73) primitive.Int _ p u e (eqb-true u 73) (λ e.
    letter_next (u == 74) primitive.Long _ p u e (eqb-true u 74) (λ e.
    letter_next (u == 83) primitive.Short _ p u e (eqb-true u 83) (λ e.
    letter_next (u == 90) primitive.Boolean _ p u e (eqb-true u 90) (λ e. absurd cc))))))))

-- the letter of a type is read as the type
primitive_again : (p : Primitive) → primitive_of (letter_of p) ≡ Some p
primitive_again primitive.Byte = refl
primitive_again primitive.Char = refl
primitive_again primitive.Double = refl
primitive_again primitive.Float = refl
primitive_again primitive.Int = refl
primitive_again primitive.Long = refl
primitive_again primitive.Short = refl
primitive_again primitive.Boolean = refl

-- A type and the text after it are the front of a text that follows d brackets.
pub record IsFront (d : ℕ) (us : List ℕ) (t : FieldType) (rest : List ℕ) : Type 0 where
  pub brackets : ℕ
  pub dimensions : t.dimensions ≡ d + brackets
  pub text : us ≡ replicate brackets 91 ++ (element_text t.element ++ rest)
  pub fits : t.dimensions ≤ 255
  pub named : IsElement t.element

-- a class's type that is read is spelled so
object_found : (d : ℕ) (us : List ℕ) (t : FieldType) (rest : List ℕ) → d ≤ 255 → object_type_from d us ≡ Some (t, rest) → IsFront d (76 ∷ us) t rest
object_found d us t rest fits e =
    let name = before_first (λ u. u == 59) us in
    let behind : List ℕ = after_first (λ u. u == 59) us in
    let found = made d (element.Object name) behind in
    let both = cond_some (list_any (λ u. u == 59) us && is_class_name name) found (t, rest) e in
    let tests = and_parts (list_any (λ u. u == 59) us) (is_class_name name) both.0 in
    let inside = ltb-true _ _ (sym (any_is_inside (λ u. u == 59) us) ∙ tests.0) in
    let at = eqb-true _ 59 (passes_at_first (λ u. u == 59) us 0 inside) in
    let parts : us ≡ name ++ (59 ∷ behind) = split_at_first (λ u. u == 59) us 0 inside ∙ ap (λ (v : ℕ). name ++ (v ∷ behind)) at in
    let whole : IsFront d (76 ∷ us) found.0 behind = record {
      brackets = 0;
      dimensions = omega arith;
      text = ap (λ (x : List ℕ). 76 ∷ x) (parts ∙ sym (append_assoc name (59 ∷ []) behind));
      fits = fits;
      named = tests.1;
    } in
    subst (λ (x : FieldType × List ℕ). IsFront d (76 ∷ us) x.0 x.1) both.1 whole

-- a primitive type that is read is spelled so
letter_found : (d u : ℕ) (us : List ℕ) (t : FieldType) (rest : List ℕ) → d ≤ 255
    → option_map (λ p. made d (element.Primitive p) us) (primitive_of u) ≡ Some (t, rest) → IsFront d (u ∷ us) t rest
letter_found d u us t rest fits e =
    let from = map_some (λ p. made d (element.Primitive p) us) (primitive_of u) (t, rest) e in
    let letter = primitive_found u from.0 from.1 in
    let whole : IsFront d (u ∷ us) (record { dimensions = d; element = element.Primitive from.0 }) us = record {
      brackets = 0;
      dimensions = omega arith;
      text = ap (λ (v : ℕ). v ∷ us) letter;
      fits = fits;
      named = tt;
    } in
    subst (λ (x : FieldType × List ℕ). IsFront d (u ∷ us) x.0 x.1) from.2 whole

-- one more bracket
bracket_found : (d u : ℕ) (us : List ℕ) (t : FieldType) (rest : List ℕ) → u ≡ 91 → IsFront (suc d) us t rest → IsFront d (u ∷ us) t rest
bracket_found d u us t rest is front = record {
  brackets = suc front.brackets;
  dimensions = front.dimensions ∙ omega arith;
  text = ap (λ (v : ℕ). v ∷ us) is ∙ ap (λ (x : List ℕ). 91 ∷ x) front.text;
  fits = front.fits;
  named = front.named;
}

-- the unit at the front decides
first_found : (d u : ℕ) (us : List ℕ) (t : FieldType) (rest : List ℕ) (bracket class : Bool) → d ≤ 255 → (u == 91) ≡ bracket → (u == 76) ≡ class
    → cond bracket (cond (nat_lt d 255) (field_type_from (suc d) us) None)
    (cond class (object_type_from d us) (option_map (λ p. made d (element.Primitive p) us) (primitive_of u))) ≡ Some (t, rest)
    → (suc d ≤ 255 → field_type_from (suc d) us ≡ Some (t, rest) → IsFront (suc d) us t rest)
    → IsFront d (u ∷ us) t rest
first_found d u us t rest true class fits is_bracket is_class e further =
    let both = guarded (nat_lt d 255) (field_type_from (suc d) us) (t, rest) e in
    let below = ltb-true d 255 both.0 in
    bracket_found d u us t rest (eqb-true u 91 is_bracket) (further (omega arith) both.1)
first_found d u us t rest false true fits is_bracket is_class e further =
    let same = eqb-true u 76 is_class in
    subst (λ (v : ℕ). IsFront d (v ∷ us) t rest) (sym same) (object_found d us t rest fits e)
first_found d u us t rest false false fits is_bracket is_class e further = letter_found d u us t rest fits e

-- A type that is read from the front of a text is spelled there.
pub front_is_spelled : (d : ℕ) (us : List ℕ) (t : FieldType) (rest : List ℕ) → d ≤ 255 → field_type_from d us ≡ Some (t, rest) → IsFront d us t rest
unfolding field_type_from
front_is_spelled d [] t rest fits e = absurd cc
front_is_spelled d (u ∷ us) t rest fits e =
    first_found d u us t rest (u == 91) (u == 76) fits refl refl e (λ below further. front_is_spelled (suc d) us t rest below further)

-- the tests of a class's type, once its parts are known
parts_chosen : (d : ℕ) (any : Bool) (before name after rest : List ℕ) → any ≡ true → before ≡ name → after ≡ rest → IsTrue (is_class_name name)
    → cond (any && is_class_name before) (Some (made d (element.Object before) after)) None ≡ Some (made d (element.Object name) rest)
parts_chosen d any before name after rest some is_before is_after named = rw (some, is_before, is_after, named) refl

-- a class's type, once its parts are known
object_parts : (d : ℕ) (us name rest : List ℕ) → list_any (λ u. u == 59) us ≡ true → before_first (λ u. u == 59) us ≡ name → after_first (λ u. u == 59) us ≡ rest → IsTrue (is_class_name name)
    → object_type_from d us ≡ Some (made d (element.Object name) rest)
object_parts d us name rest any before after named =
    parts_chosen d (list_any (λ u. u == 59) us) (before_first (λ u. u == 59) us) name (after_first (λ u. u == 59) us) rest any before after named

-- a class's type that is spelled is read
object_again : (d : ℕ) (name rest : List ℕ) → IsTrue (is_class_name name) → object_type_from d ((name ++ 59 ∷ []) ++ rest) ≡ Some (made d (element.Object name) rest)
object_again d name rest named =
    let us : List ℕ = (name ++ 59 ∷ []) ++ rest in
    let p : ℕ → Bool = λ u. u == 59 in
    let none = class_name_has_no_semicolon name named in
    let regrouped : us ≡ name ++ (59 ∷ rest) = append_assoc name (59 ∷ []) rest in
    let place : position_or_len p us ≡ length name = ap (position_or_len p) regrouped ∙ position_behind p name rest 59 none refl in
    let before : take (position_or_len p us) us ≡ name = ap (λ (n : ℕ). take n us) place ∙ ap (take (length name)) regrouped ∙ take_at name (59 ∷ rest) (length name) refl in
    let after : drop (position_or_len p us + 1) us ≡ rest = ap (λ (n : ℕ). drop (n + 1) us) place ∙ drop_at (name ++ 59 ∷ []) rest (length name + 1) (length-append name (59 ∷ []) ∙ omega arith) in
    let any : list_any p us ≡ true = ap (list_any p) regrouped ∙ any_behind p name rest 59 refl in
    object_parts d us name rest any before after named

-- A type that is spelled at the front of a text is read.
pub front_is_read : (d n : ℕ) (e : Element) (rest : List ℕ) → d + n ≤ 255 → IsElement e
    → field_type_from d (replicate n 91 ++ (element_text e ++ rest)) ≡ Some (made (d + n) e rest)
unfolding field_type_from
front_is_read d zero (element.Primitive primitive.Byte) rest fits named = rw add-zero refl
front_is_read d zero (element.Primitive primitive.Char) rest fits named = rw add-zero refl
front_is_read d zero (element.Primitive primitive.Double) rest fits named = rw add-zero refl
front_is_read d zero (element.Primitive primitive.Float) rest fits named = rw add-zero refl
front_is_read d zero (element.Primitive primitive.Int) rest fits named = rw add-zero refl
front_is_read d zero (element.Primitive primitive.Long) rest fits named = rw add-zero refl
front_is_read d zero (element.Primitive primitive.Short) rest fits named = rw add-zero refl
front_is_read d zero (element.Primitive primitive.Boolean) rest fits named = rw add-zero refl
front_is_read d zero (element.Object name) rest fits named = rw add-zero (object_again d name rest named)
front_is_read d (suc n) e rest fits named =
    let more : suc d + n ≡ d + suc n = omega arith in
    rw (lt-ltb d 255 (omega arith)) (front_is_read (suc d) n e rest (omega arith) named ∙ ap (λ (k : ℕ). Some (made k e rest)) more)

-- an innermost type has a unit
element_is_not_empty : (e : Element) → 1 ≤ length (element_text e)
element_is_not_empty (element.Primitive p) = omega arith
element_is_not_empty (element.Object name) = omega arith

-- The text after a type is shorter.
pub rest_is_shorter : (us : List ℕ) (t : FieldType) (rest : List ℕ) → field_type_from 0 us ≡ Some (t, rest) → length rest < length us
rest_is_shorter us t rest e =
    let front = front_is_spelled 0 us t rest (lit≤ tt) e in
    let whole = ap length front.text in
    let one = element_is_not_empty t.element in
    omega (arith, length-append (replicate front.brackets 91) (element_text t.element ++ rest), length-append (element_text t.element) rest)

-- ---- A field's type

-- A type that is read from a text is spelled by the text.
pub field_is_spelled : (text : List ℕ) (t : FieldType) → field_type_of text ≡ Some t → SpellsFieldType text t
field_is_spelled text t e =
    let front = front_is_spelled 0 text t [] (lit≤ tt) (no_rest (field_type_from 0 text) t e) in
    let n = front.dimensions in
    let same : t.dimensions ≡ front.brackets = omega arith in
    let whole : text ≡ field_text t = front.text ∙ ap (λ (x : List ℕ). replicate front.brackets 91 ++ x) (append-nil (element_text t.element)) ∙ ap (λ (k : ℕ). replicate k 91 ++ element_text t.element) (sym same) in
    ((front.fits, front.named), whole)

-- A type that is spelled at the front of a text is read from it.
pub field_front_is_read : (t : FieldType) (rest : List ℕ) → IsFieldType t → field_type_from 0 (field_text t ++ rest) ≡ Some (t, rest)
field_front_is_read t rest is =
    let n : 0 + t.dimensions ≡ t.dimensions = omega arith in
    ap (field_type_from 0) (append_assoc (replicate t.dimensions 91) (element_text t.element) rest)
    ∙ front_is_read 0 t.dimensions t.element rest (omega (arith, is.0)) is.1
    ∙ ap (λ (k : ℕ). Some (made k t.element rest)) n

-- A type that a text spells is read from it.
pub field_is_read : (text : List ℕ) (t : FieldType) → SpellsFieldType text t → field_type_of text ≡ Some t
field_is_read text t spells =
    ap field_type_of (spells.1 ∙ sym (append-nil (field_text t))) ∙ ap without_rest (field_front_is_read t [] spells.0)

-- ---- A method's parameters

-- a type's text has a first unit, that is neither a closing parenthesis nor the V of no result
record HasFirst (us : List ℕ) : Type 0 where
  first : ℕ
  others : List ℕ
  parts : us ≡ first ∷ others
  not_close : (first == 41) ≡ false
  not_void : (first == 86) ≡ false

-- the first unit of a type's text
first_of : (n : ℕ) (e : Element) (rest : List ℕ) → HasFirst ((replicate n 91 ++ element_text e) ++ rest)
first_of zero (element.Primitive primitive.Byte) rest = record { first = 66; others = rest; parts = refl; not_close = refl; not_void = refl }
first_of zero (element.Primitive primitive.Char) rest = record { first = 67; others = rest; parts = refl; not_close = refl; not_void = refl }
first_of zero (element.Primitive primitive.Double) rest = record { first = 68; others = rest; parts = refl; not_close = refl; not_void = refl }
first_of zero (element.Primitive primitive.Float) rest = record { first = 70; others = rest; parts = refl; not_close = refl; not_void = refl }
first_of zero (element.Primitive primitive.Int) rest = record { first = 73; others = rest; parts = refl; not_close = refl; not_void = refl }
first_of zero (element.Primitive primitive.Long) rest = record { first = 74; others = rest; parts = refl; not_close = refl; not_void = refl }
first_of zero (element.Primitive primitive.Short) rest = record { first = 83; others = rest; parts = refl; not_close = refl; not_void = refl }
first_of zero (element.Primitive primitive.Boolean) rest = record { first = 90; others = rest; parts = refl; not_close = refl; not_void = refl }
first_of zero (element.Object name) rest = record { first = 76; others = (name ++ 59 ∷ []) ++ rest; parts = refl; not_close = refl; not_void = refl }
first_of (suc n) e rest = record { first = 91; others = (replicate n 91 ++ element_text e) ++ rest; parts = refl; not_close = refl; not_void = refl }

-- a parameter, followed by the others
abbrev pub with_parameter : FieldType → Option (List FieldType × List ℕ) → Option (List FieldType × List ℕ)
with_parameter t others = option_map (λ ts. (t ∷ ts.0, ts.1)) others

-- no parameter before a text
abbrev none_before : List ℕ → List FieldType × List ℕ
none_before us = ([], us)

-- one more parameter before others
abbrev one_before : FieldType → List FieldType × List ℕ → List FieldType × List ℕ
one_before t others = (t ∷ others.0, others.1)

-- At a closing parenthesis the parameters end.
pub parameters_end : (most : ℕ) (us : List ℕ) → parameters_from (suc most) (41 ∷ us) ≡ Some ([], us)
unfolding parameters_from
parameters_end most us = refl

-- A parameter is at the front.
pub parameters_step : (most u : ℕ) (us rest : List ℕ) (t : FieldType) → (u == 41) ≡ false → field_type_from 0 (u ∷ us) ≡ Some (t, rest)
    → parameters_from (suc most) (u ∷ us) ≡ with_parameter t (parameters_from most rest)
unfolding parameters_from
parameters_step most u us rest t not_close front = rw (not_close, front) refl

-- No type is at the front.
pub parameters_stop : (most u : ℕ) (us : List ℕ) → (u == 41) ≡ false → field_type_from 0 (u ∷ us) ≡ None → parameters_from (suc most) (u ∷ us) ≡ None
unfolding parameters_from
parameters_stop most u us not_close front = rw (not_close, front) refl

-- The text ends without a closing parenthesis.
pub parameters_none : (most : ℕ) → parameters_from most [] ≡ None
unfolding parameters_from
parameters_none zero = refl
parameters_none (suc most) = refl

-- A greater bound changes nothing, if the first unit is no closing parenthesis.
one_more_parameter : (n m u : ℕ) (us : List ℕ) (front : Option (FieldType × List ℕ)) → (u == 41) ≡ false → field_type_from 0 (u ∷ us) ≡ front
    → ((rest : List ℕ) → length rest < length (u ∷ us) → parameters_from n rest ≡ parameters_from m rest)
    → parameters_from (suc n) (u ∷ us) ≡ parameters_from (suc m) (u ∷ us)
one_more_parameter n m u us None not_close is same = parameters_stop n u us not_close is ∙ sym (parameters_stop m u us not_close is)
one_more_parameter n m u us (Some (t, rest)) not_close is same =
    parameters_step n u us rest t not_close is
    ∙ ap (with_parameter t) (same rest (rest_is_shorter (u ∷ us) t rest is))
    ∙ sym (parameters_step m u us rest t not_close is)

-- the unit at the front decides
one_more_unit : (n m u : ℕ) (us : List ℕ) (close : Bool) → (u == 41) ≡ close
    → ((rest : List ℕ) → length rest < length (u ∷ us) → parameters_from n rest ≡ parameters_from m rest)
    → parameters_from (suc n) (u ∷ us) ≡ parameters_from (suc m) (u ∷ us)
one_more_unit n m u us true is same =
    let at = eqb-true u 41 is in
    subst (λ (v : ℕ). parameters_from (suc n) (v ∷ us) ≡ parameters_from (suc m) (v ∷ us)) (sym at) (parameters_end n us ∙ sym (parameters_end m us))
one_more_unit n m u us false is same = one_more_parameter n m u us (field_type_from 0 (u ∷ us)) is refl same

-- A greater bound changes nothing.
pub enough_parameters : (n m : ℕ) (us : List ℕ) → length us ≤ n → length us ≤ m → parameters_from n us ≡ parameters_from m us
enough_parameters n m [] enough also = parameters_none n ∙ sym (parameters_none m)
enough_parameters zero m (u ∷ us) enough also = absurd (omega arith)
enough_parameters (suc n) zero (u ∷ us) enough also = absurd (omega arith)
enough_parameters (suc n) (suc m) (u ∷ us) enough also =
    one_more_unit n m u us (u == 41) refl (λ rest shorter. enough_parameters n m rest (omega arith) (omega arith))

-- Parameters and the text after them are the front of a text.
pub record AreFront (us : List ℕ) (ts : List FieldType) (rest : List ℕ) : Type 0 where
  pub text : us ≡ flat_map field_text ts ++ (41 ∷ rest)
  pub fit : AllByRecursion IsFieldType ts

-- one more parameter
parameter_found : (us after rest : List ℕ) (t : FieldType) (ts : List FieldType) → IsFront 0 us t after → AreFront after ts rest → AreFront us (t ∷ ts) rest
parameter_found us after rest t ts front others =
    let same : t.dimensions ≡ front.brackets = front.dimensions ∙ omega arith in
    let first : us ≡ field_text t ++ after = front.text ∙ sym (append_assoc (replicate front.brackets 91) (element_text t.element) after) ∙ ap (λ (k : ℕ). (replicate k 91 ++ element_text t.element) ++ after) (sym same) in
    record {
      text = first ∙ ap (λ (x : List ℕ). field_text t ++ x) others.text ∙ sym (append_assoc (field_text t) (flat_map field_text ts) (41 ∷ rest));
      fit = ((front.fits, front.named), others.fit);
    }

-- the unit at the front decides
parameters_found : (most u : ℕ) (us : List ℕ) (ts : List FieldType) (rest : List ℕ) (close : Bool) → (u == 41) ≡ close
    → cond close (Some (none_before us)) (option_and_then (λ (t : FieldType × List ℕ). with_parameter t.0 (parameters_from most t.1)) (field_type_from 0 (u ∷ us))) ≡ Some (ts, rest)
    → ((after : List ℕ) (others : List FieldType) → parameters_from most after ≡ Some (others, rest) → AreFront after others rest)
    → AreFront (u ∷ us) ts rest
parameters_found most u us ts rest true is e further =
    let at = eqb-true u 41 is in
    let both : none_before us ≡ (ts, rest) = same_Some (none_before us) (ts, rest) e in
    subst (λ (x : List FieldType × List ℕ). AreFront (u ∷ us) x.0 x.1) both (record { text = ap (λ (v : ℕ). v ∷ us) at; fit = tt })
parameters_found most u us ts rest false is e further =
    let front = then_some (λ (t : FieldType × List ℕ). with_parameter t.0 (parameters_from most t.1)) (field_type_from 0 (u ∷ us)) (ts, rest) e in
    let t = front.0 in
    let others = map_some (λ (x : List FieldType × List ℕ). one_before t.0 x) (parameters_from most t.1) (ts, rest) front.2 in
    let spelled = front_is_spelled 0 (u ∷ us) t.0 t.1 (lit≤ tt) front.1 in
    let ends : others.0.1 ≡ rest = ap (λ (x : List FieldType × List ℕ). x.1) others.2 in
    let read : parameters_from most t.1 ≡ Some (others.0.0, rest) = others.1 ∙ ap (λ (x : List ℕ). Some (others.0.0, x)) ends in
    let all = parameter_found (u ∷ us) t.1 rest t.0 others.0.0 spelled (further t.1 others.0.0 read) in
    subst (λ (x : List FieldType). AreFront (u ∷ us) x rest) (ap (λ (x : List FieldType × List ℕ). x.0) others.2) all

-- Parameters that are read are spelled so.
pub parameters_are_spelled : (most : ℕ) (us : List ℕ) (ts : List FieldType) (rest : List ℕ) → parameters_from most us ≡ Some (ts, rest) → AreFront us ts rest
unfolding parameters_from
parameters_are_spelled zero [] ts rest e = absurd cc
parameters_are_spelled (suc most) [] ts rest e = absurd cc
parameters_are_spelled zero (u ∷ us) ts rest e = absurd cc
parameters_are_spelled (suc most) (u ∷ us) ts rest e =
    parameters_found most u us ts rest (u == 41) refl e (λ after others read. parameters_are_spelled most after others rest read)

-- Parameters that are spelled so are read.
pub parameters_are_read : (most : ℕ) (ts : List FieldType) (rest : List ℕ) → AllByRecursion IsFieldType ts → length (flat_map field_text ts ++ (41 ∷ rest)) ≤ most
    → parameters_from most (flat_map field_text ts ++ (41 ∷ rest)) ≡ Some (ts, rest)
parameters_are_read zero [] rest fit enough = absurd (omega arith)
parameters_are_read (suc most) [] rest fit enough = parameters_end most rest
parameters_are_read zero (t ∷ ts) rest fit enough =
    absurd (omega (arith, length-append (field_text t ++ flat_map field_text ts) (41 ∷ rest)))
parameters_are_read (suc most) (t ∷ ts) rest fit enough =
    let behind : List ℕ = flat_map field_text ts ++ (41 ∷ rest) in
    let regrouped : (field_text t ++ flat_map field_text ts) ++ (41 ∷ rest) ≡ field_text t ++ behind = append_assoc (field_text t) (flat_map field_text ts) (41 ∷ rest) in
    let front = first_of t.dimensions t.element behind in
    let parts : (field_text t ++ flat_map field_text ts) ++ (41 ∷ rest) ≡ front.first ∷ front.others = regrouped ∙ front.parts in
    let read : field_type_from 0 (front.first ∷ front.others) ≡ Some (t, behind) = ap (field_type_from 0) (sym front.parts) ∙ field_front_is_read t behind fit.0 in
    let shorter = rest_is_shorter (front.first ∷ front.others) t behind read in
    let long : length ((field_text t ++ flat_map field_text ts) ++ (41 ∷ rest)) ≡ length (front.first ∷ front.others) = ap length parts in
    ap (parameters_from (suc most)) parts
    ∙ parameters_step most front.first front.others behind t front.not_close read
    ∙ ap (with_parameter t) (parameters_are_read most ts rest fit.1 (omega arith))

-- ---- A method's result

-- a conjunction with false is not true
not_both : (b : Bool) → (b && false) ≡ true → ⊥
not_both true e = absurd cc
not_both false e = absurd cc

-- the text of no result
void_found : (us : List ℕ) → same_text us (86 ∷ []) ≡ true → us ≡ 86 ∷ []
void_found [] e = absurd cc
void_found (u ∷ []) e =
    let first = and_parts (u == 86) true e in
    ap (λ (v : ℕ). v ∷ []) (eqb-true u 86 first.0)
void_found (u ∷ v ∷ us) e = absurd (not_both (u == 86) e)

-- a text that begins otherwise is not that of no result
not_void : (u : ℕ) (us : List ℕ) → (u == 86) ≡ false → same_text (u ∷ us) (86 ∷ []) ≡ false
not_void u us other = rw other refl

-- the text of a result, by the test for none
value_found : (text : List ℕ) (r : ResultType) (void : Bool) → same_text text (86 ∷ []) ≡ void
    → cond void (Some result_type.Void) (option_map (λ t. result_type.Value t) (field_type_of text)) ≡ Some r → IsResultType r × (text ≡ result_text r)
value_found text r true is e =
    subst (λ (x : ResultType). IsResultType x × (text ≡ result_text x)) (same_Some result_type.Void r e) (tt, void_found text is)
value_found text r false is e =
    let t = map_some (λ t. result_type.Value t) (field_type_of text) r e in
    subst (λ (x : ResultType). IsResultType x × (text ≡ result_text x)) t.2 (field_is_spelled text t.0 t.1)

-- A result that is read is spelled so.
pub result_is_spelled : (text : List ℕ) (r : ResultType) → result_type_of text ≡ Some r → IsResultType r × (text ≡ result_text r)
result_is_spelled text r e = value_found text r (same_text text (86 ∷ [])) refl e

-- a type's text is not that of no result
value_read : (t : FieldType) (void : Bool) → void ≡ false → field_type_of (field_text t) ≡ Some t
    → cond void (Some result_type.Void) (option_map (λ t. result_type.Value t) (field_type_of (field_text t))) ≡ Some (result_type.Value t)
value_read t void other read = rw (other, read) refl

-- A result that is spelled so is read.
pub result_is_read : (r : ResultType) → IsResultType r → result_type_of (result_text r) ≡ Some r
result_is_read result_type.Void is = refl
result_is_read (result_type.Value t) is =
    let front = first_of t.dimensions t.element [] in
    let parts : field_text t ≡ front.first ∷ front.others = sym (append-nil (field_text t)) ∙ front.parts in
    let other : same_text (field_text t) (86 ∷ []) ≡ false = ap (λ (x : List ℕ). same_text x (86 ∷ [])) parts ∙ not_void front.first front.others front.not_void in
    value_read t (same_text (field_text t) (86 ∷ [])) other (field_is_read (field_text t) t (is, refl))

-- ---- A method's type

-- few enough units
units_found : (m t : MethodType) → within_255_units m ≡ Some t → (m ≡ t) × (parameter_units t ≤ 255)
units_found m t e =
    let both = cond_some (nat_le (parameter_units m) 255) m t e in
    (both.1, subst (λ (x : MethodType). parameter_units x ≤ 255) both.1 (leb-true (parameter_units m) 255 both.0))

-- a method's type, of its parts
abbrev method_of : List FieldType → ResultType → MethodType
method_of ts r = record { parameters = ts; result = r }

-- the text of a method's type, by its first unit
method_found : (u : ℕ) (us : List ℕ) (t : MethodType) (opens : Bool) → (u == 40) ≡ opens
    → cond opens (option_and_then (λ (ts : List FieldType × List ℕ). option_and_then (λ r. within_255_units (method_of ts.0 r)) (result_type_of ts.1)) (parameters_from (length us) us)) None ≡ Some t
    → SpellsMethodType (u ∷ us) t
method_found u us t false is e = absurd cc
method_found u us t true is e =
    let ts = then_some (λ (ts : List FieldType × List ℕ). option_and_then (λ r. within_255_units (method_of ts.0 r)) (result_type_of ts.1)) (parameters_from (length us) us) t e in
    let r = then_some (λ r. within_255_units (method_of ts.0.0 r)) (result_type_of ts.0.1) t ts.2 in
    let units = units_found (method_of ts.0.0 r.0) t r.2 in
    let front = parameters_are_spelled (length us) us ts.0.0 ts.0.1 ts.1 in
    let returned = result_is_spelled ts.0.1 r.0 r.1 in
    let few : parameter_units (method_of ts.0.0 r.0) ≤ 255 = subst (λ (x : MethodType). parameter_units x ≤ 255) (sym units.0) units.1 in
    let text : u ∷ us ≡ method_text (method_of ts.0.0 r.0) =
    ap (λ (v : ℕ). v ∷ us) (eqb-true u 40 is) ∙ ap (λ (x : List ℕ). 40 ∷ x) (front.text ∙ ap (λ (x : List ℕ). flat_map field_text ts.0.0 ++ (41 ∷ x)) returned.1) in
    subst (λ (x : MethodType). SpellsMethodType (u ∷ us) x) units.0 ((front.fit, returned.0, few), text)

-- A method's type that is read from a text is spelled by the text.
pub method_is_spelled : (text : List ℕ) (t : MethodType) → method_type_of text ≡ Some t → SpellsMethodType text t
unfolding method_type_of
method_is_spelled [] t e = absurd cc
method_is_spelled (u ∷ us) t e = method_found u us t (u == 40) refl e

-- The text of a method's type is read as that type.
pub method_text_is_read : (t : MethodType) → IsMethodType t → method_type_of (method_text t) ≡ Some t
unfolding method_type_of
method_text_is_read t is =
    let us : List ℕ = flat_map field_text t.parameters ++ (41 ∷ result_text t.result) in
    let few : nat_le (parameter_units t) 255 ≡ true = le-leb (parameter_units t) 255 is.2 in
    rw (parameters_are_read (length us) t.parameters (result_text t.result) is.0 (omega arith), result_is_read t.result is.1, few) refl

-- A method's type that a text spells is read from it.
pub method_is_read : (text : List ℕ) (t : MethodType) → SpellsMethodType text t → method_type_of text ≡ Some t
method_is_read text t spells = ap method_type_of spells.1 ∙ method_text_is_read t spells.0
