-- No name and no descriptor has a dot, so a member's text is split at dots in one way.
use Rattle.std.proofs.Common.{◌≡◌, ◌≢◌, ℕ, zero, suc, ◌/◌, ◌%◌, ◌<◌, ◌==◌, nat_eq, ◌&&◌, ◌||◌, not, Bool, true, false, cond, List, [], ◌∷◌, ◌++◌, Option, Some, None, refl, sym, ap, ◌∙◌, append_assoc, arith}
use Rattle.std.specs.Prelude.{replicate, is_some}
use Rattle.std.specs.Cmp.Lexicographic.{pointwise}
use Rattle.std.specs.List.{flat_map, list_all, slice_split, onto_first, AllByRecursion}
use Rattle.std.proofs.lemmas.Bool.{and_parts, and_from, or_parts, or_from, not-true, eqb-true, eqb-false, ne_eqb}
use Rattle.std.proofs.lemmas.Bool.Decides.{nat_tests}
use Rattle.std.proofs.lemmas.List.Folds.{list_any-append}
use Rattle.jvms_file.specs.declared.descriptor.Primitive.{Primitive}
use Rattle.jvms_file.specs.declared.descriptor.Primitive.TheVariants as primitive
use Rattle.jvms_file.specs.declared.descriptor.Element.{Element}
use Rattle.jvms_file.specs.declared.descriptor.Element.TheVariants as element
use Rattle.jvms_file.specs.declared.descriptor.FieldType.{FieldType}
use Rattle.jvms_file.specs.declared.descriptor.ResultType.{ResultType}
use Rattle.jvms_file.specs.declared.descriptor.ResultType.TheVariants as result_type
use Rattle.jvms_file.specs.declared.descriptor.MethodType.{MethodType}
use Rattle.jvms_file.specs.Names.{is_name, is_class_name, is_method_name, is_constructor_name, is_initializer_name, is_reserved, is_angle}
use Rattle.jvms_file.specs.Descriptors.{letter_of, element_text, field_text as type_text, result_text, method_text as method_type_text, IsElement, IsFieldType, IsResultType, IsMethodType, field_type_of, method_type_of}
use Rattle.jvms_file.proofs.DescriptorLaws.{field_is_spelled, method_is_spelled}
use Rattle.escapes.specs.declared.sort.NameSort.{NameSort}
use Rattle.escapes.specs.declared.sort.NameSort.TheVariants as sort
use Rattle.escapes.specs.Escapes.{is_plain, hexadecimal, four_digits, unit_text, name_text}
use Rattle.escapes.specs.Cuts.{has, IsCutTwice}
use Rattle.escapes.specs.Keys.{IsNameOf, IsMember, member_text}
use Rattle.escapes.proofs.Cutting.{one_cut}
use Rattle.escapes.proofs.Spelling.{one_name}

pub has_append : (b : ℕ) (xs ys : List ℕ) → has b xs ≡ false → has b ys ≡ false → has b (xs ++ ys) ≡ false
has_append b xs ys left right = list_any-append (λ x. x == b) xs ys ∙ or_from (has b xs) (has b ys) left right

-- ---- Names of members

unreserved : (us : List ℕ) → list_all (λ v. not (is_reserved v)) us ≡ true → has 46 us ≡ false
unreserved [] e = refl
unreserved (u ∷ us) e =
    let both = and_parts (not (is_reserved u)) (list_all (λ v. not (is_reserved v)) us) e in
    let all = or_parts _ (u == 47) (not-true (is_reserved u) both.0) in
    let three = or_parts _ (u == 91) all.0 in
    let two = or_parts (u == 46) (u == 59) three.0 in
    or_from (u == 46) (has 46 us) two.0 (unreserved us both.1)

name_has_no_dot : (us : List ℕ) → is_name us ≡ true → has 46 us ≡ false
name_has_no_dot [] e = refl
name_has_no_dot (u ∷ us) e = unreserved (u ∷ us) e

-- ---- Names of classes

names_have_no_dot : (parts : List (List ℕ)) → list_all is_name parts ≡ true → list_all (λ part. not (has 46 part)) parts ≡ true
names_have_no_dot [] e = refl
names_have_no_dot (part ∷ parts) e =
    let both = and_parts (is_name part) (list_all is_name parts) e in
    rw (name_has_no_dot part both.0, names_have_no_dot parts both.1) refl

onto_clear : (u : ℕ) (parts : List (List ℕ)) → list_all (λ part. not (has 46 part)) (onto_first u parts) ≡ true → ((u == 46) ≡ false) × (list_all (λ part. not (has 46 part)) parts ≡ true)
onto_clear u [] e =
    let both = and_parts (not (has 46 (u ∷ []))) true e in
    ((or_parts (u == 46) false (not-true (has 46 (u ∷ [])) both.0)).0, refl)
onto_clear u (part ∷ parts) e =
    let both = and_parts (not (has 46 (u ∷ part))) (list_all (λ p. not (has 46 p)) parts) e in
    let first = or_parts (u == 46) (has 46 part) (not-true (has 46 (u ∷ part)) both.0) in
    (first.0, and_from (not (has 46 part)) (list_all (λ p. not (has 46 p)) parts) (rw first.1 refl) both.1)

one_class_unit : (u : ℕ) (us : List ℕ) (slash : Bool) → (u == 47) ≡ slash
    → list_all (λ part. not (has 46 part)) (cond slash ([] ∷ slice_split (λ v. v == 47) us) (onto_first u (slice_split (λ v. v == 47) us))) ≡ true
    → ((u == 46) ≡ false) × (list_all (λ part. not (has 46 part)) (slice_split (λ v. v == 47) us) ≡ true)
one_class_unit u us true is e =
    let same = eqb-true u 47 is in
    (ne_eqb u 46 (λ other. absurd (omega arith)), e)
one_class_unit u us false is e = onto_clear u (slice_split (λ v. v == 47) us) e

parts_clear : (us : List ℕ) → list_all (λ part. not (has 46 part)) (slice_split (λ v. v == 47) us) ≡ true → has 46 us ≡ false
parts_clear [] e = refl
parts_clear (u ∷ us) e =
    let both = one_class_unit u us (u == 47) refl e in
    or_from (u == 46) (has 46 us) both.0 (parts_clear us both.1)

class_has_no_dot : (us : List ℕ) → is_class_name us ≡ true → has 46 us ≡ false
class_has_no_dot us e = parts_clear us (names_have_no_dot (slice_split (λ v. v == 47) us) e)

-- ---- Names of methods

same_is : (us vs : List ℕ) → pointwise nat_eq us vs ≡ true → us ≡ vs
same_is [] [] e = refl
same_is [] (v ∷ vs) e = absurd cc
same_is (u ∷ us) [] e = absurd cc
same_is (u ∷ us) (v ∷ vs) e =
    let both = and_parts (u == v) (pointwise nat_eq us vs) e in
    let first = eqb-true u v both.0 in
    let rest = same_is us vs both.1 in
    cc

method_name_by_cases : (us : List ℕ) (constructor initializer : Bool) → is_constructor_name us ≡ constructor → is_initializer_name us ≡ initializer
    → (constructor || initializer || (is_name us && list_all (λ u. not (is_angle u)) us)) ≡ true → has 46 us ≡ false
method_name_by_cases us true initializer is isnt e = rw (same_is us _ is) refl
method_name_by_cases us false true isnt is e = rw (same_is us _ is) refl
method_name_by_cases us false false first second e = name_has_no_dot us (and_parts (is_name us) (list_all (λ u. not (is_angle u)) us) e).0

method_name_has_no_dot : (us : List ℕ) → is_method_name us ≡ true → has 46 us ≡ false
method_name_has_no_dot us e = method_name_by_cases us (is_constructor_name us) (is_initializer_name us) refl refl e

-- ---- Descriptors

letter_is_no_dot : (p : Primitive) → has 46 (letter_of p ∷ []) ≡ false
letter_is_no_dot primitive.Byte = refl
letter_is_no_dot primitive.Char = refl
letter_is_no_dot primitive.Double = refl
letter_is_no_dot primitive.Float = refl
letter_is_no_dot primitive.Int = refl
letter_is_no_dot primitive.Long = refl
letter_is_no_dot primitive.Short = refl
letter_is_no_dot primitive.Boolean = refl

element_has_no_dot : (e : Element) → IsElement e → has 46 (element_text e) ≡ false
element_has_no_dot (element.Primitive p) is = letter_is_no_dot p
element_has_no_dot (element.Object name) is = has_append 46 name (59 ∷ []) (class_has_no_dot name is) refl

brackets_have_no_dot : (n : ℕ) → has 46 (replicate n 91) ≡ false
brackets_have_no_dot zero = refl
brackets_have_no_dot (suc n) = brackets_have_no_dot n

type_has_no_dot : (t : FieldType) → IsFieldType t → has 46 (type_text t) ≡ false
type_has_no_dot t is = has_append 46 (replicate t.dimensions 91) (element_text t.element) (brackets_have_no_dot t.dimensions) (element_has_no_dot t.element is.1)

types_have_no_dot : (ts : List FieldType) → AllByRecursion IsFieldType ts → has 46 (flat_map type_text ts) ≡ false
types_have_no_dot [] are = refl
types_have_no_dot (t ∷ ts) are = has_append 46 (type_text t) (flat_map type_text ts) (type_has_no_dot t are.0) (types_have_no_dot ts are.1)

result_has_no_dot : (r : ResultType) → IsResultType r → has 46 (result_text r) ≡ false
result_has_no_dot result_type.Void is = refl
result_has_no_dot (result_type.Value t) is = type_has_no_dot t is

method_has_no_dot : (t : MethodType) → IsMethodType t → has 46 (method_type_text t) ≡ false
method_has_no_dot t is = has_append 46 (flat_map type_text t.parameters) (41 ∷ result_text t.result) (types_have_no_dot t.parameters is.0) (result_has_no_dot t.result is.1)

field_descriptor_by_cases : (us : List ℕ) (o : Option FieldType) → field_type_of us ≡ o → is_some o ≡ true → has 46 us ≡ false
field_descriptor_by_cases us None is e = absurd cc
field_descriptor_by_cases us (Some t) is e =
    let spells = field_is_spelled us t is in
    rw spells.1 (type_has_no_dot t spells.0)

method_descriptor_by_cases : (us : List ℕ) (o : Option MethodType) → method_type_of us ≡ o → is_some o ≡ true → has 46 us ≡ false
method_descriptor_by_cases us None is e = absurd cc
method_descriptor_by_cases us (Some t) is e =
    let spells = method_is_spelled us t is in
    rw spells.1 (method_has_no_dot t spells.0)

pub no_dot : (s : NameSort) (us : List ℕ) → IsNameOf s us → has 46 us ≡ false
no_dot sort.Class us is = class_has_no_dot us is.sort
no_dot sort.Field us is = name_has_no_dot us is.sort
no_dot sort.Method us is = method_name_has_no_dot us is.sort
no_dot sort.FieldDescriptor us is = field_descriptor_by_cases us (field_type_of us) refl is.sort
no_dot sort.MethodDescriptor us is = method_descriptor_by_cases us (method_type_of us) refl is.sort

-- ---- Names as they are written

digit_is_high : (b d : ℕ) → b < 48 → (hexadecimal d == b) ≡ false
digit_is_high b d low = ne_eqb (hexadecimal d) b (λ same. grind (arith, nat_tests))

clear_by_cases : (b u : ℕ) (plain : Bool) → b < 48 → is_plain u ≡ plain → (is_plain u ≡ true → u ≡ b → ⊥) → has b (cond plain (u ∷ []) (92 ∷ 117 ∷ four_digits u)) ≡ false
clear_by_cases b u true low is isnt = rw (ne_eqb u b (isnt is)) refl
clear_by_cases b u false low is isnt =
    rw (ne_eqb 92 b (λ same. omega arith), ne_eqb 117 b (λ same. omega arith), digit_is_high b (u / 4096) low, digit_is_high b (u / 256 % 16) low, digit_is_high b (u / 16 % 16) low, digit_is_high b (u % 16) low) refl

-- A written unit has no byte below the digits, except the unit itself.
clear_unit : (b u : ℕ) → b < 48 → (is_plain u ≡ true → u ≡ b → ⊥) → has b (unit_text u) ≡ false
clear_unit b u low isnt = clear_by_cases b u (is_plain u) low refl isnt

pub spelled_no_dot : (us : List ℕ) → has 46 us ≡ false → has 46 (name_text us) ≡ false
spelled_no_dot [] none = refl
spelled_no_dot (u ∷ us) none =
    let both = or_parts (u == 46) (has 46 us) none in
    has_append 46 (unit_text u) (name_text us) (clear_unit 46 u (omega arith) (λ plain. eqb-false u 46 both.0)) (spelled_no_dot us both.1)

low_is_not_plain : (b u : ℕ) → b < 33 → is_plain u ≡ true → u ≡ b → ⊥
low_is_not_plain b u low plain same = grind (arith, nat_tests)

-- A written name has no space and no line end.
pub spelled_no_low : (b : ℕ) (us : List ℕ) → b < 33 → has b (name_text us) ≡ false
spelled_no_low b [] low = refl
spelled_no_low b (u ∷ us) low = has_append b (unit_text u) (name_text us) (clear_unit b u (omega arith) (low_is_not_plain b u low)) (spelled_no_low b us low)

-- ---- Members

-- The parts of a text before, between and after the first two of a byte.
pub record AreParts (b : ℕ) (text first second third : List ℕ) : Type 0 where
  pub split : text ≡ first ++ b ∷ (second ++ b ∷ third)
  pub first_clear : has b first ≡ false
  pub second_clear : has b second ≡ false

-- A member's text is split at its first two dots.
pub member_parts : (n d : NameSort) (class name descriptor : List ℕ) → IsMember n d class name descriptor → AreParts 46 (member_text class name descriptor) (name_text class) (name_text name) (name_text descriptor)
member_parts n d class name descriptor is = record {
  split = append_assoc (name_text class) (46 ∷ name_text name) (46 ∷ name_text descriptor);
  first_clear = spelled_no_dot class (no_dot sort.Class class is.class);
  second_clear = spelled_no_dot name (no_dot n name is.name);
}

pub record SameParts (first second third xs ys zs : List ℕ) : Type 0 where
  pub same_first : first ≡ xs
  pub same_second : second ≡ ys
  pub same_third : third ≡ zs

pub one_cutting : (b : ℕ) (text first second third xs ys zs : List ℕ) → AreParts b text first second third → AreParts b text xs ys zs → SameParts first second third xs ys zs
one_cutting b text first second third xs ys zs left right =
    let outer = one_cut b first (second ++ b ∷ third) xs (ys ++ b ∷ zs) left.first_clear right.first_clear (sym left.split ∙ right.split) in
    let inner = one_cut b second third ys zs left.second_clear right.second_clear outer.1 in
    record { same_first = outer.0; same_second = inner.0; same_third = inner.1 }

pub parts_along : (b : ℕ) (text text' first second third : List ℕ) → text ≡ text' → AreParts b text' first second third → AreParts b text first second third
parts_along b text text' first second third same parts = record { split = same ∙ parts.split; first_clear = parts.first_clear; second_clear = parts.second_clear }

-- The parts of a member's text are its names as they are written.
pub are_member : (n d : NameSort) (text first second third class name descriptor : List ℕ) → AreParts 46 text first second third → IsMember n d class name descriptor → text ≡ member_text class name descriptor → SameParts first second third (name_text class) (name_text name) (name_text descriptor)
are_member n d text first second third class name descriptor parts is e =
    one_cutting 46 text first second third (name_text class) (name_text name) (name_text descriptor) parts
    (parts_along 46 text (member_text class name descriptor) (name_text class) (name_text name) (name_text descriptor) e (member_parts n d class name descriptor is))

-- A text without two dots is no member's.
pub no_parts : (n d : NameSort) (text class name descriptor : List ℕ) → IsCutTwice 46 text None → IsMember n d class name descriptor → text ≢ member_text class name descriptor
no_parts n d text class name descriptor none is e =
    let parts = member_parts n d class name descriptor is in
    none (name_text class) (name_text name) (name_text descriptor) parts.first_clear parts.second_clear (e ∙ parts.split)

-- Equal texts are those of equal members.
pub one_member : (n d : NameSort) (class name descriptor c m t : List ℕ) → IsMember n d class name descriptor → IsMember n d c m t → member_text class name descriptor ≡ member_text c m t → SameParts class name descriptor c m t
one_member n d class name descriptor c m t left right e =
    let same = are_member n d (member_text class name descriptor) (name_text class) (name_text name) (name_text descriptor) c m t (member_parts n d class name descriptor left) right e in
    record {
      same_first = one_name class c left.class.units right.class.units same.same_first;
      same_second = one_name name m left.name.units right.name.units same.same_second;
      same_third = one_name descriptor t left.descriptor.units right.descriptor.units same.same_third;
    }

-- ---- Texts of no member

abbrev pub Text : Type 0
Text = List ℕ

pub no_class : (n d : NameSort) (text first second third : Text) → AreParts 46 text first second third → ((us : Text) → IsNameOf sort.Class us → first ≢ name_text us)
    → (c m t : Text) → IsMember n d c m t → text ≢ member_text c m t
no_class n d text first second third parts none c m t is e =
    none c is.class (are_member n d text first second third c m t parts is e).same_first

pub no_member_name : (n d : NameSort) (text first second third : Text) → AreParts 46 text first second third → ((us : Text) → IsNameOf n us → second ≢ name_text us)
    → (c m t : Text) → IsMember n d c m t → text ≢ member_text c m t
no_member_name n d text first second third parts none c m t is e =
    none m is.name (are_member n d text first second third c m t parts is e).same_second

pub no_descriptor : (n d : NameSort) (text first second third : Text) → AreParts 46 text first second third → ((us : Text) → IsNameOf d us → third ≢ name_text us)
    → (c m t : Text) → IsMember n d c m t → text ≢ member_text c m t
no_descriptor n d text first second third parts none c m t is e =
    none t is.descriptor (are_member n d text first second third c m t parts is e).same_third

-- A text whose parts are the names of a member is that member's.
pub is_written : (text first second third c m t : Text) → AreParts 46 text first second third → first ≡ name_text c → second ≡ name_text m → third ≡ name_text t → text ≡ member_text c m t
is_written text first second third c m t parts one two three =
    parts.split ∙ ap (λ (x : Text). x ++ 46 ∷ (second ++ 46 ∷ third)) one ∙ ap (λ (x : Text). name_text c ++ 46 ∷ (x ++ 46 ∷ third)) two
    ∙ ap (λ (x : Text). name_text c ++ 46 ∷ (name_text m ++ 46 ∷ x)) three ∙ sym (append_assoc (name_text c) (46 ∷ name_text m) (46 ∷ name_text t))
