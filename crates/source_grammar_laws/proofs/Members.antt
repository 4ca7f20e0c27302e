-- Proves how the words `class/name` and `name(..)r` are split.
use Rattle.std.proofs.Common.{◌≡◌, ℕ, ◌&&◌, ◌||◌, Bool, true, false, not, eqb, List, [], ◌∷◌, ◌++◌, length, drop, Some, None, IsTrue, refl, sym, ap, subst, ◌∙◌, codes}
use Rattle.std.specs.List.{list_all, list_any, position_or_len}
use Rattle.std.proofs.lemmas.Bool.{and_parts, or_parts, eqb-true, ltb-false, not-true}
use Rattle.std.proofs.lemmas.Option.{none-some}
use Rattle.std.proofs.lemmas.List.{take-append-drop, take_all}
use Rattle.jvms_file.proofs.DescriptorLaws.{any_is_inside}
use Rattle.jvms_file.specs.declared.descriptor.MethodType.{MethodType}
use Rattle.jvms_file.specs.Names.{is_reserved, is_name, is_method_name, is_constructor_name, is_initializer_name, is_angle}
use Rattle.jvms_file.specs.Descriptors.{is_class_entry_name, method_type_of}
use Rattle.jvms_file.specs.Members.{is_method_descriptor_for}
use Rattle.jasmin.specs.Operands.{is_slash, class_of, name_of, is_member, is_parenthesis, before_descriptor, descriptor_of}
use Rattle.source_form_laws.proofs.Judged.{choose}
use Rattle.source_form_laws.proofs.Operands.{described_type}
use Rattle.source_grammar_laws.specs.Words.{IsClass, HasNoParenthesis}
use Rattle.source_grammar_laws.proofs.Cuts.{cut_first, cut_last, any_between, has_first, has_last_such}
use Rattle.source_grammar_laws.proofs.Places.{text_is}

-- ---- `name(..)r`

-- No parenthesis precedes a descriptor.
pub none_before : (w : List ℕ) → HasNoParenthesis (before_descriptor w)
none_before w = by (list_any is_parenthesis w) refl
  where
    by : (b : Bool) → list_any is_parenthesis w ≡ b → list_any is_parenthesis (before_descriptor w) ≡ false
    by true is =
        let h = has_first is_parenthesis w is in
        let cut = cut_first is_parenthesis h.xs h.y h.ys h.none h.passes in
        ap (λ (v : List ℕ). list_any is_parenthesis (before_descriptor v)) h.whole ∙ ap (λ (v : List ℕ). list_any is_parenthesis v) cut.before ∙ h.none
    by false is =
        let far = ltb-false (position_or_len is_parenthesis w) (length w) (sym (any_is_inside is_parenthesis w) ∙ is) in
        ap (λ (v : List ℕ). list_any is_parenthesis v) (take_all (position_or_len is_parenthesis w) w far) ∙ is

pub whole_word : (w : List ℕ) → before_descriptor w ++ descriptor_of w ≡ w
whole_word w = take-append-drop (position_or_len is_parenthesis w) w

-- A method's descriptor begins with a parenthesis.
typed_begins : (d : List ℕ) (t : MethodType) → method_type_of d ≡ Some t → d ≡ 40 ∷ drop 1 d
unfolding method_type_of
typed_begins [] t e = absurd (none-some t e)
typed_begins (u ∷ us) t e =
    choose (eqb u 40) _ None (Some t) e
    (λ met is. ap (λ (v : ℕ). v ∷ us) (eqb-true u 40 met))
    (λ no none. absurd (none-some t none))

pub descriptor_begins : (on_none : Bool) (d : List ℕ) → IsTrue (is_method_descriptor_for on_none d) → d ≡ 40 ∷ drop 1 d
descriptor_begins on_none d e = let t = described_type on_none d e in typed_begins d t.0 t.1

-- A name followed by a descriptor is split into these two.
pub record IsCutWord (name descriptor : List ℕ) : Type 0 where
  pub before : before_descriptor (name ++ descriptor) ≡ name
  pub from : descriptor_of (name ++ descriptor) ≡ descriptor

pub cut_word : (name descriptor : List ℕ) → HasNoParenthesis name → descriptor ≡ 40 ∷ drop 1 descriptor → IsCutWord name descriptor
cut_word name descriptor none e =
    subst (IsCutWord name) (sym e) (let cut = cut_first is_parenthesis name 40 (drop 1 descriptor) none refl in
    record { before = cut.before; from = cut.from })

-- ---- `class/name`

not_slash : (u : ℕ) → is_reserved u ≡ false → is_slash u ≡ false
not_slash u e = (or_parts (eqb u 46 || eqb u 59 || eqb u 91) (eqb u 47) e).1

no_slash : (us : List ℕ) → list_all (λ v. not (is_reserved v)) us ≡ true → list_any is_slash us ≡ false
no_slash [] e = refl
no_slash (u ∷ us) e =
    let both = and_parts (not (is_reserved u)) (list_all (λ v. not (is_reserved v)) us) e in
    rw (not_slash u (not-true (is_reserved u) both.0), no_slash us both.1) refl

pub name_no_slash : (us : List ℕ) → IsTrue (is_name us) → list_any is_slash us ≡ false
name_no_slash [] e = absurd cc
name_no_slash (u ∷ us) e = no_slash (u ∷ us) e

pub method_no_slash : (us : List ℕ) → IsTrue (is_method_name us) → list_any is_slash us ≡ false
method_no_slash us e = by (is_constructor_name us) (is_initializer_name us) refl refl e
  where
    by : (a b : Bool) → is_constructor_name us ≡ a → is_initializer_name us ≡ b → IsTrue (a || b || (is_name us && list_all (λ u. not (is_angle u)) us)) → list_any is_slash us ≡ false
    by true b is other e = ap (λ (v : List ℕ). list_any is_slash v) (text_is us (codes "<init>") is)
    by false true is other e = ap (λ (v : List ℕ). list_any is_slash v) (text_is us (codes "<clinit>") other)
    by false false is other e = name_no_slash us (and_parts (is_name us) (list_all (λ u. not (is_angle u)) us) e).0

-- The class and the name in a member's word.
pub record IsMember (test : List ℕ → Bool) (w : List ℕ) : Type 0 where
  pub whole : class_of w ++ 47 ∷ name_of w ≡ w
  pub class : IsClass (class_of w)
  pub name : IsTrue (test (name_of w))

rejoined : (w xs ys c n : List ℕ) (y : ℕ) → w ≡ xs ++ y ∷ ys → c ≡ xs → n ≡ ys → y ≡ 47 → c ++ 47 ∷ n ≡ w
rejoined w xs ys c n y whole front back slash = rw (front, back, whole, slash) refl

pub member_said : (test : List ℕ → Bool) (w : List ℕ) → IsTrue (is_member test w) → IsMember test w
member_said test w e =
    let all = and_parts (list_any is_slash w && is_class_entry_name (class_of w)) (test (name_of w)) e in
    let first = and_parts (list_any is_slash w) (is_class_entry_name (class_of w)) all.0 in
    let h = has_last_such is_slash w first.0 in
    let cut = cut_last is_slash h.xs h.y h.ys h.none h.passes in
    let class : class_of w ≡ h.xs = ap (λ (v : List ℕ). class_of v) h.whole ∙ cut.before in
    let name : name_of w ≡ h.ys = ap (λ (v : List ℕ). name_of v) h.whole ∙ cut.behind in
    let slash : h.y ≡ 47 = eqb-true h.y 47 h.passes in
    record {
      whole = rejoined w h.xs h.ys (class_of w) (name_of w) h.y h.whole class name slash;
      class = first.1;
      name = all.1;
    }

-- A class and a name with a slash between them are split into these two.
pub record IsCutMember (test : List ℕ → Bool) (class name : List ℕ) : Type 0 where
  pub before : class_of (class ++ 47 ∷ name) ≡ class
  pub behind : name_of (class ++ 47 ∷ name) ≡ name
  pub member : is_member test (class ++ 47 ∷ name) ≡ true

pub cut_member : (test : List ℕ → Bool) (class name : List ℕ) → list_any is_slash name ≡ false → IsClass class → IsTrue (test name) → IsCutMember test class name
cut_member test class name none is passes =
    let cut = cut_last is_slash class 47 name none refl in
    record { before = cut.before; behind = cut.behind; member = rw (any_between is_slash class 47 name refl, cut.before, cut.behind, is, passes) refl }
