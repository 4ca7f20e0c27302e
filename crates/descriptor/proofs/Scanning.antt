-- The parts of a type, put together, are the type at the front of a text.
use Rattle.std.proofs.Common.{◌≡◌, ℕ, suc, ◌+◌, ◌-◌, ◌<◌, ◌≤◌, Bool, true, false, cond, ◌&&◌, ◌==◌, nat_lt, nat_le, List, [], ◌∷◌, length, take, drop, Option, Some, None, refl, sym, ap, ◌∙◌, arith, add-zero, lit≤, inl, inr}
use Rattle.std.specs.Option.{option_map}
use Rattle.std.specs.List.{before_first, after_first, list_any, position, position_or_len}
use Rattle.std.proofs.lemmas.Bool.{le-leb, lt-leb, lt-ltb, le-ltb, cases_lt}
use Rattle.std.proofs.lemmas.List.{take_rest}
use Rattle.std.proofs.lemmas.Option.{same_Some}
use Rattle.jvms_file.specs.declared.descriptor.Primitive.{Primitive}
use Rattle.jvms_file.specs.declared.descriptor.Element.{Element}
use Rattle.jvms_file.specs.declared.descriptor.Element.TheVariants as element
use Rattle.jvms_file.specs.declared.descriptor.FieldType.{FieldType}
use Rattle.jvms_file.specs.Names.{is_name, is_class_name}
use Rattle.jvms_file.specs.Descriptors.{primitive_of, object_type_from, field_type_from, dimensions_of}
use Rattle.jvms_file.proofs.DescriptorLaws.{any_is_inside}
use Rattle.descriptor.specs.Scanning.{object_at, element_at, at_front, with_dimensions, is_unreserved}

-- a name is a text that is not empty, with no reserved unit
pub name_is : (us : List ℕ) → (length us ≡ 0 → ⊥) → is_name us ≡ is_unreserved us
name_is [] some = absurd (some refl)
name_is (u ∷ us) some = refl

-- a class's type and the text after it, if its name is one
abbrev object_of : List ℕ → List ℕ → Option (Element × List ℕ)
object_of name rest = Some (element.Object name, rest)

-- no semicolon, by the test
no_object_if : (any inside : Bool) (place : ℕ) (name rest : List ℕ) → any ≡ inside → cond inside (Some place) None ≡ None
    → cond (any && is_class_name name) (object_of name rest) None ≡ None
no_object_if any true place name rest same none = absurd cc
no_object_if any false place name rest same none = rw same refl

-- no semicolon, by its place
no_object_of : (any : Bool) (place long : ℕ) (name rest : List ℕ) → any ≡ nat_lt place long → cond (nat_lt place long) (Some place) None ≡ None
    → cond (any && is_class_name name) (object_of name rest) None ≡ None
no_object_of any place long name rest same none = no_object_if any (nat_lt place long) place name rest same none

-- no semicolon: no class's type
pub no_object : (us : List ℕ) → position (λ u. u == 59) us ≡ None → object_at us ≡ None
no_object us e =
    no_object_of (list_any (λ u. u == 59) us) (position_or_len (λ u. u == 59) us) (length us) (before_first (λ u. u == 59) us) (after_first (λ u. u == 59) us) (any_is_inside (λ u. u == 59) us) e

-- the first semicolon, by the test
object_if : (any inside : Bool) (place end : ℕ) (us : List ℕ) → any ≡ inside → cond inside (Some place) None ≡ Some end
    → cond (any && is_class_name (take place us)) (object_of (take place us) (drop (place + 1) us)) None ≡ cond (is_class_name (take end us)) (object_of (take end us) (drop (end + 1) us)) None
object_if any true place end us same at = rw (same, same_Some place end at) refl
object_if any false place end us same at = absurd cc

-- the name ends at the first semicolon
pub object_ends : (us : List ℕ) (end : ℕ) → position (λ u. u == 59) us ≡ Some end
    → object_at us ≡ cond (is_class_name (take end us)) (Some (element.Object (take end us), drop (end + 1) us)) None
object_ends us end at =
    object_if (list_any (λ u. u == 59) us) (nat_lt (position_or_len (λ u. u == 59) us) (length us)) (position_or_len (λ u. u == 59) us) end us (any_is_inside (λ u. u == 59) us) at

-- a class's name before the first semicolon
pub named_object : (us : List ℕ) (end : ℕ) → position (λ u. u == 59) us ≡ Some end → is_class_name (take end us) ≡ true
    → Some (element.Object (take end us), take (length us - (end + 1)) (drop (end + 1) us)) ≡ object_at us
named_object us end at named = rw (take_rest us (end + 1)) (sym (object_ends us end at ∙ rw named refl))

-- brackets before a class's type, by the test
chosen_with : (d : ℕ) (b : Bool) (name rest : List ℕ)
    → cond b (Some (with_dimensions d (element.Object name, rest))) None ≡ option_map (λ x. with_dimensions d x) (cond b (object_of name rest) None)
chosen_with d true name rest = refl
chosen_with d false name rest = refl

-- a class's type after brackets
object_with : (d : ℕ) (us : List ℕ) → object_type_from d us ≡ option_map (λ x. with_dimensions d x) (object_at us)
object_with d us =
    chosen_with d (list_any (λ u. u == 59) us && is_class_name (before_first (λ u. u == 59) us)) (before_first (λ u. u == 59) us) (after_first (λ u. u == 59) us)

-- a primitive type and the text after it
abbrev primitive_before : List ℕ → Primitive → Element × List ℕ
primitive_before us p = (element.Primitive p, us)

-- brackets before a primitive type
letter_with : (d : ℕ) (us : List ℕ) (o : Option Primitive)
    → option_map (λ p. with_dimensions d (primitive_before us p)) o ≡ option_map (λ x. with_dimensions d x) (option_map (primitive_before us) o)
letter_with d us None = refl
letter_with d us (Some p) = refl

-- the type after d brackets, if no further bracket follows
abbrev unbracketed : ℕ → ℕ → List ℕ → Option (FieldType × List ℕ)
unbracketed d u us = cond (u == 76) (object_type_from d us) (option_map (λ p. with_dimensions d (primitive_before us p)) (primitive_of u))

-- brackets before either, by the test
class_with : (d u : ℕ) (us : List ℕ) (class : Bool)
    → cond class (object_type_from d us) (option_map (λ p. with_dimensions d (primitive_before us p)) (primitive_of u))
    ≡ option_map (λ x. with_dimensions d x) (cond class (object_at us) (option_map (primitive_before us) (primitive_of u)))
class_with d u us true = object_with d us
class_with d u us false = letter_with d us (primitive_of u)

-- brackets before either
unbracketed_with : (d u : ℕ) (us : List ℕ) → unbracketed d u us ≡ option_map (λ x. with_dimensions d x) (element_at (u ∷ us))
unbracketed_with d u us = class_with d u us (u == 76)

-- up to 255 brackets are allowed
at_few : (d : ℕ) (x : Option (Element × List ℕ)) → d ≤ 255 → at_front d x ≡ option_map (λ y. with_dimensions d y) x
at_few d x few = rw (le-leb d 255 few) refl

-- more than 255 brackets spell no type
at_many : (d : ℕ) (x : Option (Element × List ℕ)) → 255 < d → at_front d x ≡ None
at_many d x many = rw (lt-leb d 255 many) refl

-- nothing, whatever the test
nothing_if : (b : Bool) → ◌≡◌ {A = Option (FieldType × List ℕ)} (cond b None None) None
nothing_if true = refl
nothing_if false = refl

-- brackets before nothing
at_nothing : (d : ℕ) → at_front d None ≡ None
at_nothing d = nothing_if (nat_le d 255)

-- one more bracket
bracketed : (d : ℕ) (us : List ℕ) → d ≤ 255
    → (suc d ≤ 255 → field_type_from (suc d) us ≡ at_front (suc d + dimensions_of us) (element_at (drop (dimensions_of us) us)))
    → cond (nat_lt d 255) (field_type_from (suc d) us) None ≡ at_front (d + suc (dimensions_of us)) (element_at (drop (dimensions_of us) us))
bracketed d us few further =
    elim (cases_lt d 255) [
      | inl below ↦ rw (lt-ltb d 255 below) (further (omega arith) ∙ ap (λ (k : ℕ). at_front k (element_at (drop (dimensions_of us) us))) (omega arith))
      | inr above ↦ rw (le-ltb d 255 above) (sym (at_many (d + suc (dimensions_of us)) (element_at (drop (dimensions_of us) us)) (omega arith)))
    ]

-- the unit at the front decides
one_unit : (d u : ℕ) (us : List ℕ) (bracket : Bool) → d ≤ 255 → (u == 91) ≡ bracket
    → (suc d ≤ 255 → field_type_from (suc d) us ≡ at_front (suc d + dimensions_of us) (element_at (drop (dimensions_of us) us)))
    → cond bracket (cond (nat_lt d 255) (field_type_from (suc d) us) None) (unbracketed d u us)
    ≡ at_front (d + cond bracket (1 + dimensions_of us) 0) (element_at (drop (cond bracket (1 + dimensions_of us) 0) (u ∷ us)))
one_unit d u us false few is further = unbracketed_with d u us ∙ sym (at_few d (element_at (u ∷ us)) few) ∙ ap (λ (k : ℕ). at_front k (element_at (u ∷ us))) (sym (add-zero d))
one_unit d u us true few is further = bracketed d us few further ∙ ap (λ (k : ℕ). at_front (d + k) (element_at (drop k (u ∷ us)))) (omega arith)

-- a type after d brackets
front_from : (d : ℕ) (us : List ℕ) → d ≤ 255 → field_type_from d us ≡ at_front (d + dimensions_of us) (element_at (drop (dimensions_of us) us))
unfolding field_type_from
front_from d [] few = sym (at_nothing (d + 0))
front_from d (u ∷ us) few = one_unit d u us (u == 91) few refl (λ below. front_from (suc d) us below)

-- the type at the front of a text, by its brackets and the element after them
pub front_is : (us : List ℕ) → field_type_from 0 us ≡ at_front (dimensions_of us) (element_at (drop (dimensions_of us) us))
front_is us = front_from 0 us (lit≤ tt) ∙ ap (λ (k : ℕ). at_front k (element_at (drop (dimensions_of us) us))) (omega arith)

-- too many brackets
pub front_many : (us : List ℕ) → 255 < dimensions_of us → None ≡ field_type_from 0 us
front_many us many = sym (front_is us ∙ at_many (dimensions_of us) (element_at (drop (dimensions_of us) us)) many)

-- the element after n brackets
behind_is : (us : List ℕ) (n : ℕ) → n ≡ dimensions_of us → element_at (take (length us - n) (drop n us)) ≡ element_at (drop (dimensions_of us) us)
behind_is us n is = ap element_at (take_rest us n) ∙ ap (λ (k : ℕ). element_at (drop k us)) is

-- no element after the brackets
pub front_none : (us : List ℕ) (n : ℕ) → n ≡ dimensions_of us → None ≡ element_at (take (length us - n) (drop n us)) → None ≡ field_type_from 0 us
front_none us n is none =
    sym (front_is us ∙ ap (at_front (dimensions_of us)) (sym (none ∙ behind_is us n is)) ∙ at_nothing (dimensions_of us))

-- an element after the brackets
pub front_some : (us : List ℕ) (n : ℕ) (x : Element × List ℕ) → n ≡ dimensions_of us → n ≤ 255 → Some x ≡ element_at (take (length us - n) (drop n us))
    → Some (with_dimensions n x) ≡ field_type_from 0 us
front_some us n x is few some =
    sym (front_is us ∙ ap (at_front (dimensions_of us)) (sym (some ∙ behind_is us n is)) ∙ at_few (dimensions_of us) (Some x) (omega arith) ∙ ap (λ (k : ℕ). Some (with_dimensions k x)) (sym is))
