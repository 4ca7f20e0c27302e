-- Proves that names of members, `class/name` and `name(..)r`, are split where they were joined.
use Rattle.std.proofs.Common.{◌≡◌, ℕ, ◌&&◌, ◌||◌, Bool, true, false, not, eqb, List, [], ◌∷◌, ◌++◌, refl, ap}
use Rattle.std.specs.Prelude.{codes}
use Rattle.std.specs.List.{list_all, list_any}
use Rattle.std.specs.Cmp.Lexicographic.{bytes_decides}
use Rattle.std.proofs.lemmas.Bool.{and_parts, eqb-true, not-true, or_parts, or_from}
use Rattle.std.proofs.lemmas.List.Folds.{list_all-append}
use Rattle.jvms_file.specs.Names.{same_text, is_name, is_reserved, is_angle, is_method_name, is_constructor_name, is_initializer_name}
use Rattle.jvms_file.specs.Descriptors.{method_type_of, is_class_entry_name}
use Rattle.jvms_file.specs.Members.{is_method_descriptor_for}
use Rattle.jasmin.specs.Lexing.{ends_word}
use Rattle.jasmin.specs.Operands.{is_slash, is_parenthesis, class_of, name_of, is_member, before_descriptor, descriptor_of}
use Rattle.listing_spec.specs.Printed.{member_word}
use Rattle.listing_spec.specs.Printable.{is_word, is_before_descriptor}
use Rattle.listing_laws.proofs.Words.{IsPlain, word_units}
use Rattle.listing_laws.proofs.Names.{IsHead, behind_head}
use Rattle.listing_laws.proofs.Cuts.{cut_first, cut_last, any_between}

-- ---- Two joined words

-- No unit of two joined words ends a word.
pub units_push : (xs ys : List ℕ) → list_all (λ u. not (ends_word u)) xs ≡ true → list_all (λ u. not (ends_word u)) ys ≡ true → list_all (λ u. not (ends_word u)) (xs ++ ys) ≡ true
units_push xs ys a b = rw (list_all-append (λ u. not (ends_word u)) xs ys, a, b) refl

pub plain_push : (xs ys : List ℕ) → IsHead xs → list_all (λ u. not (ends_word u)) xs ≡ true → list_all (λ u. not (ends_word u)) ys ≡ true → IsPlain (xs ++ ys)
plain_push xs ys head a b =
    let h = behind_head xs ys head in
    record { some = h.some; units = units_push xs ys a b; plain = h.plain }

-- ---- No slash in a name

not_slash : (u : ℕ) → not (is_reserved u) ≡ true → is_slash u ≡ false
not_slash u e = (or_parts (eqb u 46 || eqb u 59 || eqb u 91) (eqb u 47) (not-true (is_reserved u) e)).1

units_no_slash : (us : List ℕ) → list_all (λ v. not (is_reserved v)) us ≡ true → list_any is_slash us ≡ false
units_no_slash [] e = refl
units_no_slash (u ∷ us) e =
    let both = and_parts (not (is_reserved u)) (list_all (λ v. not (is_reserved v)) us) e in
    or_from (is_slash u) (list_any is_slash us) (not_slash u both.0) (units_no_slash us both.1)

pub name_no_slash : (w : List ℕ) → is_name w ≡ true → list_any is_slash w ≡ false
name_no_slash [] e = refl
name_no_slash (u ∷ us) e = units_no_slash (u ∷ us) e

pub same_is : (a b : List ℕ) → same_text a b ≡ true → a ≡ b
same_is a b e = (bytes_decides a b).0 e

pub method_no_slash : (w : List ℕ) → is_method_name w ≡ true → list_any is_slash w ≡ false
method_no_slash w e = by (is_constructor_name w) (is_initializer_name w) (is_name w && list_all (λ u. not (is_angle u)) w) refl refl refl e
  where
    by : (a b c : Bool) → is_constructor_name w ≡ a → is_initializer_name w ≡ b → (is_name w && list_all (λ u. not (is_angle u)) w) ≡ c → (a || b || c) ≡ true → list_any is_slash w ≡ false
    by true b c first second third e = rw (same_is w (codes "<init>") first) refl
    by false true c first second third e = rw (same_is w (codes "<clinit>") second) refl
    by false false true first second third e = name_no_slash w (and_parts (is_name w) (list_all (λ u. not (is_angle u)) w) third).0
    by false false false first second third e = absurd cc

-- ---- `class/name`

pub record IsMemberWord (test : List ℕ → Bool) (class name : List ℕ) : Type 0 where
  pub class_is : class_of (member_word class name) ≡ class
  pub name_is : name_of (member_word class name) ≡ name
  pub member : is_member test (member_word class name) ≡ true

pub member_is : (test : List ℕ → Bool) (class name : List ℕ) → is_class_entry_name class ≡ true → test name ≡ true → list_any is_slash name ≡ false → IsMemberWord test class name
member_is test class name is tested none =
    let cut = cut_last is_slash class 47 name none refl in
    record {
      class_is = cut.before;
      name_is = cut.behind;
      member = rw (any_between is_slash class 47 name refl, cut.before, cut.behind, is, tested) refl;
    }

-- ---- `name(..)r`

-- A method's descriptor begins with a parenthesis.
pub descriptor_begins : (on_none : Bool) (d : List ℕ) → is_method_descriptor_for on_none d ≡ true → (us : List ℕ) × (d ≡ 40 ∷ us)
unfolding method_type_of
descriptor_begins on_none [] e = absurd cc
descriptor_begins on_none (u ∷ us) e = by (eqb u 40) refl
  where
    by : (b : Bool) → eqb u 40 ≡ b → (vs : List ℕ) × (u ∷ us ≡ 40 ∷ vs)
    by true is = (us, ap (λ (v : ℕ). v ∷ us) (eqb-true u 40 is))
    by false is = absurd (let bad : is_method_descriptor_for on_none (u ∷ us) ≡ false = rw is refl in cc)

pub record IsCut (name descriptor : List ℕ) : Type 0 where
  pub before : before_descriptor (name ++ descriptor) ≡ name
  pub from : descriptor_of (name ++ descriptor) ≡ descriptor

pub descriptor_cut : (on_none : Bool) (name d : List ℕ) → list_any is_parenthesis name ≡ false → is_method_descriptor_for on_none d ≡ true → IsCut name d
descriptor_cut on_none name d none is =
    let begins = descriptor_begins on_none d is in
    let cut = cut_first is_parenthesis name 40 begins.0 none refl in
    rw begins.1 (record { before = cut.before; from = cut.from })

any_push : (p : ℕ → Bool) (xs ys : List ℕ) → list_any p xs ≡ false → list_any p ys ≡ false → list_any p (xs ++ ys) ≡ false
any_push p [] ys a b = b
any_push p (x ∷ xs) ys a b =
    let both = or_parts (p x) (list_any p xs) a in
    or_from (p x) (list_any p (xs ++ ys)) both.0 (any_push p xs ys both.1 b)

-- A word before a descriptor has no unit that ends a word, and no parenthesis.
pub record IsBefore (w : List ℕ) : Type 0 where
  pub units : list_all (λ u. not (ends_word u)) w ≡ true
  pub none : list_any is_parenthesis w ≡ false

pub before_is : (w : List ℕ) → is_before_descriptor w ≡ true → IsBefore w
before_is w e =
    let both = and_parts (is_word w) (not (list_any (λ u. eqb u 40) w)) e in
    record { units = word_units w both.0; none = not-true (list_any (λ u. eqb u 40) w) both.1 }

pub slashed_before : (class name : List ℕ) → IsBefore class → IsBefore name → IsBefore (member_word class name)
slashed_before class name a b = record { units = units_push class (47 ∷ name) a.units b.units; none = any_push is_parenthesis class (47 ∷ name) a.none b.none }
