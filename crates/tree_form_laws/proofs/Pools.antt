-- Proves facts about the entries of a pool that bytes spell: each is spelled, and none has a fault (JVMS 4.4).
use Rattle.std.proofs.Common.{◌≡◌, ℕ, zero, suc, ◌+◌, ◌≤◌, Bool, true, false, cond, not, ◌&&◌, ◌==◌, length, List, [], ◌∷◌, Option, Some, None, is_some, Ok, refl, sym, ap, ◌∙◌, subst, arith}
use Rattle.std.specs.Prelude.{IsTrue, slice_get, nat_le}
use Rattle.std.specs.Option.{option_and_then, unwrap_or}
use Rattle.std.proofs.lemmas.Bool.{and_parts, false≢true, not-true, leb-true, le-leb, cond-true, cond-false}
use Rattle.std.proofs.lemmas.Option.{none-some, same_Some, cond_some, option_and_then_some}
use Rattle.jvms_file.specs.declared.class_file.Constant.{Constant}
use Rattle.jvms_file.specs.declared.class_file.Constant.TheVariants as constant
use Rattle.jvms_file.specs.declared.fault.ClassFault.TheVariants as class_fault
use Rattle.jvms_file.specs.declared.descriptor.MethodType.{MethodType}
use Rattle.jvms_file.specs.Texts.{IsText}
use Rattle.jvms_file.specs.Names.{is_name, is_class_name, is_method_name}
use Rattle.jvms_file.specs.Descriptors.{field_type_of, method_type_of, result_type_of, parameters_from, parameter_units, within_255_units, is_array_name, is_class_entry_name}
use Rattle.jvms_file.specs.ConstantPool.{entry, utf8_of, utf8_at, is_utf8, class_name_number, is_class, class_name_at, name_and_type_numbers, is_name_and_type, both, name_and_type_at, begins_as_method, is_member, names_sort, is_entry_name, is_entry_member, reference_fault, entry_fault, entries_fault}
use Rattle.jvms_file.specs.ClassFile.{is_proper_class}
use Rattle.jvms_file.specs.Members.{is_method_descriptor_for}
use Rattle.jvms_file.specs.Spelling.{InOrder, SpellsConstant, SpellsPool}
use Rattle.jvms_program.specs.Meaning.{text_of, class_text}
use Rattle.classfile_laws.proofs.Steps.{step, want_step, choose}
use Rattle.tree_form_laws.proofs.Steps.{want_held, some_inside}

-- ---- Entries by index

-- Bytes spell the entries, and none has a fault.
pub record IsSound (pool : List Constant) : Type 0 where
  pub bytes : List ℕ
  pub spelled : InOrder SpellsConstant bytes pool
  pub faultless : entries_fault pool pool ≡ Ok tt

pub sound_of : (bytes : List ℕ) (pool : List Constant) → SpellsPool bytes pool → IsSound pool
sound_of bytes pool is = record { bytes = is.3.1; spelled = is.3.4; faultless = is.2 }

spelled_at : (cs : List Constant) (bytes : List ℕ) (i : ℕ) (c : Constant) → InOrder SpellsConstant bytes cs → slice_get cs i ≡ Some c → (first : List ℕ) × SpellsConstant first c
spelled_at [] bytes i c are is = absurd (none-some c is)
spelled_at (d ∷ cs) bytes zero c are is = (are.0, subst (λ (e : Constant). SpellsConstant are.0 e) (same_Some d c is) are.3)
spelled_at (d ∷ cs) bytes (suc i) c are is = spelled_at cs are.1 i c are.4 is

-- Bytes spell an entry.
pub entry_spelled : (pool : List Constant) → IsSound pool → (n : ℕ) (c : Constant) → entry pool n ≡ Some c → (bytes : List ℕ) × SpellsConstant bytes c
entry_spelled pool are zero c is = absurd (none-some c is)
entry_spelled pool are (suc i) c is = spelled_at pool are.bytes i c are.spelled is

-- An entry has no fault, whatever entries follow it.
abbrev IsFaultless : List Constant → Constant → Type 0
IsFaultless pool c = (behind : List Constant) × (entry_fault pool c behind ≡ Ok tt)

faultless_at : (pool cs : List Constant) (i : ℕ) (c : Constant) → entries_fault pool cs ≡ Ok tt → slice_get cs i ≡ Some c → IsFaultless pool c
unfolding entries_fault
faultless_at pool [] i c are is = absurd (none-some c is)
faultless_at pool (d ∷ behind) zero c are is =
    step (entry_fault pool d behind) _ tt are λ x first more.
    (behind, subst (λ (e : Constant). entry_fault pool e behind ≡ Ok tt) (same_Some d c is) first)
faultless_at pool (d ∷ behind) (suc i) c are is = step (entry_fault pool d behind) _ tt are λ x first more. faultless_at pool behind i c more is

entry_faultless : (pool : List Constant) → IsSound pool → (n : ℕ) (c : Constant) → entry pool n ≡ Some c → IsFaultless pool c
entry_faultless pool are zero c is = absurd (none-some c is)
entry_faultless pool are (suc i) c is = faultless_at pool pool i c are.faultless is

-- ---- Texts

text_by_entry : (pool : List Constant) → IsSound pool → (n : ℕ) (o : Option Constant) → entry pool n ≡ o → IsText (unwrap_or (option_and_then utf8_of o) [])
text_by_entry pool are n (Some (constant.Utf8 text)) is = let spelled = entry_spelled pool are n (constant.Utf8 text) is in spelled.1.0
text_by_entry pool are n (Some c) is = tt
text_by_entry pool are n None is = tt

-- The units of a text have 16 bits.
pub text_is_text : (pool : List Constant) → IsSound pool → (n : ℕ) → IsText (text_of pool n)
text_is_text pool are n = text_by_entry pool are n (entry pool n) refl

-- ---- Classes

name_of_text : (u : Option (List ℕ)) → is_some u ≡ true → is_entry_name u ≡ true → is_class_entry_name (unwrap_or u []) ≡ true
name_of_text (Some name) there is = is
name_of_text None there is = absurd (false≢true there)

class_faultless : (pool : List Constant) (k : ℕ) (behind : List Constant) → entry_fault pool (constant.Class k) behind ≡ Ok tt → IsTrue (is_class_entry_name (text_of pool k))
unfolding entry_fault
class_faultless pool k behind is =
    want_step (is_utf8 pool k) class_fault.Index _ tt is λ there more.
    name_of_text (utf8_at pool k) there (want_held (is_entry_name (utf8_at pool k)) class_fault.Descriptor more)

-- A Class entry names a class or an array.
pub class_entry_names : (pool : List Constant) → IsSound pool → (n k : ℕ) → entry pool n ≡ Some (constant.Class k) → IsTrue (is_class_entry_name (text_of pool k))
class_entry_names pool are n k is = let f = entry_faultless pool are n (constant.Class k) is in class_faultless pool k f.0 f.1

class_by_entry : (pool : List Constant) → IsSound pool → (n : ℕ) (o : Option Constant) → entry pool n ≡ o → is_some (option_and_then class_name_number o) ≡ true
    → IsTrue (is_class_entry_name (unwrap_or (option_and_then (utf8_at pool) (option_and_then class_name_number o)) []))
class_by_entry pool are n (Some (constant.Class k)) is there = class_entry_names pool are n k is
class_by_entry pool are n (Some c) is there = absurd (false≢true there)
class_by_entry pool are n None is there = absurd (false≢true there)

-- The index of a Class entry names a class or an array.
pub class_named : (pool : List Constant) → IsSound pool → (n : ℕ) → is_class pool n ≡ true → IsTrue (is_class_entry_name (class_text pool n))
class_named pool are n is = class_by_entry pool are n (entry pool n) refl is

-- An index with a class's name names a class or an array.
pub class_found : (pool : List Constant) → IsSound pool → (n : ℕ) → is_some (class_name_at pool n) ≡ true → IsTrue (is_class_entry_name (class_text pool n))
class_found pool are n is = class_named pool are n (some_inside (utf8_at pool) (option_and_then class_name_number (entry pool n)) is)

-- A name that is no array's is a class's.
plain_name : (name : List ℕ) → is_array_name name ≡ false → is_class_entry_name name ≡ true → is_class_name name ≡ true
plain_name name plain is = sym (cond-false (is_array_name name) (is_some (field_type_of name)) (is_class_name name) plain) ∙ is

proper_by_name : (pool : List Constant) → IsSound pool → (n : ℕ) (u : Option (List ℕ)) → class_name_at pool n ≡ u → is_proper_class pool n ≡ true → IsTrue (is_class_name (class_text pool n))
proper_by_name pool are n None is proper = absurd (false≢true (rw is at proper))
proper_by_name pool are n (Some name) is proper =
    let plain : not (is_array_name name) ≡ true = rw is at proper in
    let named : is_class_entry_name name ≡ true = subst (λ (u : Option (List ℕ)). is_class_entry_name (unwrap_or u []) ≡ true) is (class_found pool are n (ap is_some is)) in
    subst (λ (u : Option (List ℕ)). is_class_name (unwrap_or u []) ≡ true) (sym is) (plain_name name (not-true (is_array_name name) plain) named)

-- The indices this_class, super_class and those of interfaces name classes.
pub proper_named : (pool : List Constant) → IsSound pool → (n : ℕ) → is_proper_class pool n ≡ true → IsTrue (is_class_name (class_text pool n))
proper_named pool are n proper = proper_by_name pool are n (class_name_at pool n) refl proper

-- ---- Members

-- The name and the descriptor of a member's entry.
record IsMemberOf (pool : List Constant) (n : ℕ) : Type 0 where
  name : List ℕ
  descriptor : List ℕ
  named : name_and_type_at pool n ≡ Some (name, descriptor)
  form : is_member name descriptor ≡ true

both_texts : (u v : Option (List ℕ)) → (is_some u && is_some v) ≡ true → is_entry_member (both u v) ≡ true
    → (a : List ℕ) × (b : List ℕ) × (both u v ≡ Some (a, b)) × (is_member a b ≡ true)
both_texts (Some a) (Some b) there is = (a, b, refl, is)
both_texts (Some a) None there is = absurd (false≢true there)
both_texts None v there is = absurd (false≢true there)

member_faultless : (pool : List Constant) (a b : ℕ) (behind : List Constant) → entry_fault pool (constant.NameAndType a b) behind ≡ Ok tt
    → (name : List ℕ) × (descriptor : List ℕ) × (both (utf8_at pool a) (utf8_at pool b) ≡ Some (name, descriptor)) × (is_member name descriptor ≡ true)
unfolding entry_fault
member_faultless pool a b behind is =
    want_step (is_utf8 pool a && is_utf8 pool b) class_fault.Index _ tt is λ there more.
    both_texts (utf8_at pool a) (utf8_at pool b) there (want_held (is_entry_member (both (utf8_at pool a) (utf8_at pool b))) class_fault.Descriptor more)

member_by_entry : (pool : List Constant) → IsSound pool → (n : ℕ) (o : Option Constant) → entry pool n ≡ o → is_some (option_and_then name_and_type_numbers o) ≡ true
    → (name : List ℕ) × (descriptor : List ℕ) × (option_and_then (λ numbers. both (utf8_at pool numbers.0) (utf8_at pool numbers.1)) (option_and_then name_and_type_numbers o) ≡ Some (name, descriptor)) × (is_member name descriptor ≡ true)
member_by_entry pool are n (Some (constant.NameAndType a b)) is there =
    let f = entry_faultless pool are n (constant.NameAndType a b) is in member_faultless pool a b f.0 f.1
member_by_entry pool are n (Some c) is there = absurd (false≢true there)
member_by_entry pool are n None is there = absurd (false≢true there)

-- A member's entry names a class or an array, and a method or a field.
pub record IsReference (method : Bool) (pool : List Constant) (class member : ℕ) : Type 0 where
  pub class_form : IsTrue (is_class_entry_name (class_text pool class))
  pub name : List ℕ
  pub descriptor : List ℕ
  pub named : name_and_type_at pool member ≡ Some (name, descriptor)
  pub sort : begins_as_method descriptor ≡ method
  pub form : is_member name descriptor ≡ true

sort_is : (method begins : Bool) → cond method begins (not begins) ≡ true → begins ≡ method
sort_is true begins is = is
sort_is false begins is = not-true begins is

reference_faultless : (method : Bool) (pool : List Constant) → IsSound pool → (class member : ℕ) → reference_fault method pool class member ≡ Ok tt → IsReference method pool class member
reference_faultless method pool are class member is =
    want_step (is_class pool class && is_name_and_type pool member) class_fault.Index _ tt is λ there more.
    let parts = and_parts (is_class pool class) (is_name_and_type pool member) there in
    let m = member_by_entry pool are member (entry pool member) refl parts.1 in
    let sorted : names_sort method pool member ≡ true = want_held (names_sort method pool member) class_fault.Descriptor more in
    let sort : cond method (begins_as_method m.1) (not (begins_as_method m.1)) ≡ true = rw m.2 at sorted in
    record { class_form = class_named pool are class parts.0; name = m.0; descriptor = m.1; named = m.2; sort = sort_is method (begins_as_method m.1) sort; form = m.3 }

field_faultless : (pool : List Constant) → IsSound pool → (c m : ℕ) (behind : List Constant) → entry_fault pool (constant.Field c m) behind ≡ Ok tt → IsReference false pool c m
unfolding entry_fault
field_faultless pool are c m behind is = reference_faultless false pool are c m is

method_faultless : (pool : List Constant) → IsSound pool → (c m : ℕ) (behind : List Constant) → entry_fault pool (constant.Method c m) behind ≡ Ok tt → IsReference true pool c m
unfolding entry_fault
method_faultless pool are c m behind is = reference_faultless true pool are c m is

interface_method_faultless : (pool : List Constant) → IsSound pool → (c m : ℕ) (behind : List Constant) → entry_fault pool (constant.InterfaceMethod c m) behind ≡ Ok tt → IsReference true pool c m
unfolding entry_fault
interface_method_faultless pool are c m behind is = reference_faultless true pool are c m is

pub field_entry_names : (pool : List Constant) → IsSound pool → (n c m : ℕ) → entry pool n ≡ Some (constant.Field c m) → IsReference false pool c m
field_entry_names pool are n c m is = let f = entry_faultless pool are n (constant.Field c m) is in field_faultless pool are c m f.0 f.1

pub method_entry_names : (pool : List Constant) → IsSound pool → (n c m : ℕ) → entry pool n ≡ Some (constant.Method c m) → IsReference true pool c m
method_entry_names pool are n c m is = let f = entry_faultless pool are n (constant.Method c m) is in method_faultless pool are c m f.0 f.1

pub interface_method_entry_names : (pool : List Constant) → IsSound pool → (n c m : ℕ) → entry pool n ≡ Some (constant.InterfaceMethod c m) → IsReference true pool c m
interface_method_entry_names pool are n c m is = let f = entry_faultless pool are n (constant.InterfaceMethod c m) is in interface_method_faultless pool are c m f.0 f.1

-- ---- Forms of members

pub field_member : (name descriptor : List ℕ) → begins_as_method descriptor ≡ false → is_member name descriptor ≡ true → (is_name name ≡ true) × (is_some (field_type_of descriptor) ≡ true)
field_member name descriptor sort is =
    and_parts (is_name name) (is_some (field_type_of descriptor))
    (sym (cond-false (begins_as_method descriptor) (is_method_name name && is_some (method_type_of descriptor)) (is_name name && is_some (field_type_of descriptor)) sort) ∙ is)

pub method_member : (name descriptor : List ℕ) → begins_as_method descriptor ≡ true → is_member name descriptor ≡ true → (is_method_name name ≡ true) × (is_some (method_type_of descriptor) ≡ true)
method_member name descriptor sort is =
    and_parts (is_method_name name) (is_some (method_type_of descriptor))
    (sym (cond-true (begins_as_method descriptor) (is_method_name name && is_some (method_type_of descriptor)) (is_name name && is_some (field_type_of descriptor)) sort) ∙ is)

-- The parameters of a method's descriptor have at most 255 units.
units_within : (s t : MethodType) → within_255_units s ≡ Some t → parameter_units t ≤ 255
units_within s t is =
    let parts = cond_some (nat_le (parameter_units s) 255) s t is in
    subst (λ (r : MethodType). parameter_units r ≤ 255) parts.1 (leb-true (parameter_units s) 255 parts.0)

few_units : (text : List ℕ) (t : MethodType) → method_type_of text ≡ Some t → parameter_units t ≤ 255
unfolding method_type_of
few_units [] t is = absurd (none-some t is)
few_units (u ∷ us) t is =
    choose (u == 40) _ None (Some t) is
    (λ begins more. option_and_then_some _ (parameters_from (length us) us) t more λ ts read rest. option_and_then_some _ (result_type_of ts.1) t rest λ r given last. units_within (record { parameters = ts.0; result = r }) t last)
    (λ other none. absurd (none-some t none))

by_type : (text : List ℕ) (o : Option MethodType) → method_type_of text ≡ o → is_some o ≡ true → is_method_descriptor_for true text ≡ true
by_type text None is there = absurd (false≢true there)
by_type text (Some t) is there =
    let few = few_units text t is in
    rw is (le-leb (parameter_units t + 0) 255 (omega arith))

-- A method's descriptor is one for a method without an object.
pub called_on_none : (text : List ℕ) → is_some (method_type_of text) ≡ true → is_method_descriptor_for true text ≡ true
called_on_none text there = by_type text (method_type_of text) refl there
