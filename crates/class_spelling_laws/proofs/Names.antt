-- Proves how the forms of names and descriptors are related (JVMS 4.2, 4.3, 4.4).
use Rattle.std.proofs.Common.{◌≡◌, ℕ, Bool, true, false, cond, ◌==◌, ◌&&◌, ◌||◌, List, [], ◌∷◌, Option, Some, None, is_some, refl, ap, ◌∙◌, subst, inl, inr}
use Rattle.std.specs.List.{list_all, onto_first, slice_split}
use Rattle.std.specs.Cmp.Lexicographic.{bytes_decides}
use Rattle.std.proofs.lemmas.Bool.{and_from, cases_Bool, eqb-true, false_from_ne_true, false≢true}
use Rattle.std.proofs.lemmas.Cmp.{nat_list_eq_equiv}
use Rattle.jvms_file.specs.declared.descriptor.MethodType.{MethodType}
use Rattle.jvms_file.specs.Names.{same_text, is_name, is_class_name, is_method_name}
use Rattle.jvms_file.specs.Descriptors.{field_type_from, field_type_of, method_type_of, is_array_name, is_class_entry_name}
use Rattle.jvms_file.specs.ConstantPool.{begins_as_method, is_member}
use Rattle.jvms_file.specs.Members.{is_method_descriptor_for}

-- The test that texts are the same is reflexive and symmetric.
pub same_here : (a : List ℕ) → same_text a a ≡ true
same_here a = (bytes_decides a a).1 refl

pub same_turned : (a b : List ℕ) → same_text a b ≡ same_text b a
same_turned a b = nat_list_eq_equiv.symm a b

-- ---- Classes

-- No name begins with a bracket.
no_bracket : (parts : List (List ℕ)) → list_all is_name (onto_first 91 parts) ≡ true → ⊥
no_bracket [] e = false≢true e
no_bracket (part ∷ parts) e = false≢true e

-- A class's name is no array's.
pub no_array : (name : List ℕ) → is_class_name name ≡ true → is_array_name name ≡ false
no_array [] e = refl
no_array (u ∷ us) e =
    false_from_ne_true (u == 91) (λ is. no_bracket (slice_split (λ v. v == 47) us) (subst (λ v. is_class_name (v ∷ us) ≡ true) (eqb-true u 91 is) e))

pub class_entry_name : (name : List ℕ) → is_class_name name ≡ true → is_class_entry_name name ≡ true
class_entry_name name e = ap (λ b. cond b (is_some (field_type_of name)) (is_class_name name)) (no_array name e) ∙ e

-- ---- Members

-- A field's descriptor doesn't begin as a method's does.
field_sort : (descriptor : List ℕ) → is_some (field_type_of descriptor) ≡ true → begins_as_method descriptor ≡ false
unfolding field_type_from
field_sort [] e = refl
field_sort (u ∷ us) e =
    false_from_ne_true (u == 40) (λ is. false≢true (subst (λ v. is_some (field_type_of (v ∷ us)) ≡ true) (eqb-true u 40 is) e))

-- A method's descriptor begins as a method's does.
method_sort : (descriptor : List ℕ) → is_some (method_type_of descriptor) ≡ true → begins_as_method descriptor ≡ true
unfolding method_type_of
method_sort [] e = absurd (false≢true e)
method_sort (u ∷ us) e =
    elim (cases_Bool (u == 40)) [
      | inl is ↦ is
      | inr other ↦ absurd (false≢true (rw other at e))
    ]

-- A descriptor within the limit on units is that of a method.
by_type : (on_none : Bool) (descriptor : List ℕ) (t : Option MethodType) → method_type_of descriptor ≡ t → is_method_descriptor_for on_none descriptor ≡ true → is_some (method_type_of descriptor) ≡ true
by_type on_none descriptor None is e = absurd (false≢true (rw is at e))
by_type on_none descriptor (Some t) is e = ap is_some is

method_type : (on_none : Bool) (descriptor : List ℕ) → is_method_descriptor_for on_none descriptor ≡ true → is_some (method_type_of descriptor) ≡ true
method_type on_none descriptor e = by_type on_none descriptor (method_type_of descriptor) refl e

-- The member that an entry names is a method, or a field.
pub record IsMemberOf (method : Bool) (name descriptor : List ℕ) : Type 0 where
  pub sort : begins_as_method descriptor ≡ method
  pub form : is_member name descriptor ≡ true

pub field_member : (name descriptor : List ℕ) → is_name name ≡ true → is_some (field_type_of descriptor) ≡ true → IsMemberOf false name descriptor
field_member name descriptor named typed =
    let sort = field_sort descriptor typed in
    record {
      sort = sort;
      form = ap (λ b. cond b (is_method_name name && is_some (method_type_of descriptor)) (is_name name && is_some (field_type_of descriptor))) sort
          ∙ and_from (is_name name) (is_some (field_type_of descriptor)) named typed;
    }

pub method_member : (on_none : Bool) (name descriptor : List ℕ) → is_method_name name ≡ true → is_method_descriptor_for on_none descriptor ≡ true → IsMemberOf true name descriptor
method_member on_none name descriptor named fits =
    let typed = method_type on_none descriptor fits in
    let sort = method_sort descriptor typed in
    record {
      sort = sort;
      form = ap (λ b. cond b (is_method_name name && is_some (method_type_of descriptor)) (is_name name && is_some (field_type_of descriptor))) sort
          ∙ and_from (is_method_name name) (is_some (method_type_of descriptor)) named typed;
    }

-- A disjunction may be regrouped.
pub regrouped : (a b c d e : Bool) → (a || (b || (c || (d || e)))) ≡ true → (a || b || c || d || e) ≡ true
regrouped true b c d e is = refl
regrouped false true c d e is = refl
regrouped false false true d e is = refl
regrouped false false false true e is = refl
regrouped false false false false e is = is
