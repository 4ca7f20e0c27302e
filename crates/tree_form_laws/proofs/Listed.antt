-- Proves that the tree of a class that bytes spell is listable (JVMS 4).
use Rattle.std.proofs.Common.{◌≡◌, ℕ, Bool, true, List, [], ◌∷◌, Option, Some, None, Ok, refl, sym, ◌∙◌, subst}
use Rattle.std.specs.List.{AllByRecursion, list_any}
use Rattle.std.proofs.lemmas.Bool.{both_ways}
use Rattle.jvms_file.specs.declared.class_file.Constant.{Constant}
use Rattle.jvms_file.specs.declared.class_file.Constant.TheVariants as constant
use Rattle.jvms_file.specs.declared.class_file.FieldAttribute.{FieldAttribute}
use Rattle.jvms_file.specs.declared.class_file.FieldAttribute.TheVariants as field_attribute
use Rattle.jvms_file.specs.declared.class_file.MethodAttribute.{MethodAttribute}
use Rattle.jvms_file.specs.declared.class_file.MethodAttribute.TheVariants as method_attribute
use Rattle.jvms_file.specs.declared.class_file.Handler.{Handler}
use Rattle.jvms_file.specs.declared.class_file.Code.{Code}
use Rattle.jvms_file.specs.declared.class_file.FieldInfo.{FieldInfo}
use Rattle.jvms_file.specs.declared.class_file.MethodInfo.{MethodInfo}
use Rattle.jvms_file.specs.declared.class_file.ClassFile.{ClassFile}
use Rattle.jvms_file.specs.Names.{is_method_name, is_initializer_name}
use Rattle.jvms_file.specs.ConstantPool.{entry}
use Rattle.jvms_file.specs.Members.{is_code, is_initializer, needs_code}
use Rattle.jvms_file.specs.Results.{results_of}
use Rattle.jvms_file.specs.Spelling.{SpellsField, SpellsMethod, Spells}
use Rattle.jvms_program.specs.Meaning.{text_of, code_of}
use Rattle.jasmin.specs.declared.source.FieldConstant.{FieldConstant}
use Rattle.jasmin.specs.declared.source.FieldConstant.TheVariants as field_constant
use Rattle.jasmin.specs.declared.source.CodeItem.{CodeItem}
use Rattle.jasmin.specs.declared.source.FieldLine.{FieldLine}
use Rattle.jasmin.specs.declared.source.MethodLines.{MethodLines}
use Rattle.jasmin.specs.declared.source.Source.{Source}
use Rattle.jasmin.specs.Denote.{has_code}
use Rattle.listing_spec.specs.declared.fault.ListFault.TheVariants as fault
use Rattle.listing_spec.specs.TreeOf.{catch_of, items_onto, value_of, field_value, field_line, method_flags, method_lines, tree_of}
use Rattle.listing_spec.specs.Listable.{IsListableItem, IsListableCatch, IsListableValue, IsListableField, IsListableMethod, IsListable}
use Rattle.classfile_laws.proofs.Steps.{step}
use Rattle.tree_form_laws.proofs.Steps.{same_Ok, no_answer}
use Rattle.tree_form_laws.proofs.Flags.{field_flags_again, method_flags_again, native_kept, abstract_kept, class_flags_again}
use Rattle.tree_form_laws.proofs.Lists.{all_made, zip_all, collected_zip}
use Rattle.tree_form_laws.proofs.Pools.{IsSound, sound_of, text_is_text}
use Rattle.tree_form_laws.proofs.Texts.{text_named, initializer_is}
use Rattle.tree_form_laws.proofs.Labels.{of_place, operation_listable}
use Rattle.tree_form_laws.proofs.Methods.{IsSpelledCode, code_spelled, code_all, method_cases}
use Rattle.tree_form_laws.proofs.Classes.{tree_with, tree_made}

-- ---- Fields

-- A constant is one that the line of a listable field may have.
abbrev IsListableConstant : FieldConstant → Type 0
IsListableConstant v = IsListableValue (Some v)

value_listable : (pool : List Constant) → IsSound pool → (o : Option Constant) (v : FieldConstant) → value_of pool o ≡ Ok v → IsListableConstant v
value_listable pool are (Some (constant.Integer k)) v e = subst IsListableConstant (same_Ok (field_constant.Integer k) v e) tt
value_listable pool are (Some (constant.Long k)) v e = subst IsListableConstant (same_Ok (field_constant.Long k) v e) tt
value_listable pool are (Some (constant.String s)) v e = subst IsListableConstant (same_Ok (field_constant.String (text_of pool s)) v e) (text_is_text pool are s)
value_listable pool are (Some other) v e = no_answer fault.Float v e
value_listable pool are None v e = no_answer fault.Float v e

values_listable : (pool : List Constant) → IsSound pool → (attributes : List FieldAttribute) (v : Option FieldConstant) → field_value pool attributes ≡ Ok v → IsListableValue v
unfolding field_value
values_listable pool are [] v e = subst IsListableValue (same_Ok None v e) tt
values_listable pool are (field_attribute.ConstantValue name n ∷ others) v e =
    step (value_of pool (entry pool n)) _ v e λ x value last. subst IsListableValue (same_Ok (Some x) v last) (value_listable pool are (entry pool n) x value)
values_listable pool are (field_attribute.Kept a ∷ others) v e = values_listable pool are others v e

field_listable : (pool : List Constant) → IsSound pool → (f : FieldInfo) (line : FieldLine) → field_line pool f ≡ Ok line → IsListableField line
unfolding field_line
field_listable pool are f line e =
    step (field_value pool f.attributes) _ line e λ v value last.
    subst IsListableField (same_Ok _ line last) (record { access = field_flags_again f.access; value = values_listable pool are f.attributes v value })

-- ---- Methods

-- If attributes have code, one of them is a Code attribute.
has_some_code : (attributes : List MethodAttribute) (c : Code) → code_of attributes ≡ Some c → list_any is_code attributes ≡ true
has_some_code [] c is = absurd cc
has_some_code (method_attribute.Code name d ∷ others) c is = refl
has_some_code (method_attribute.Exceptions name classes ∷ others) c is = has_some_code others c is
has_some_code (method_attribute.Kept a ∷ others) c is = has_some_code others c is

-- A method with a Code attribute has code by its flags and its name.
codes_method : (pool : List Constant) (major class_access : ℕ) (bytes : List ℕ) (m : MethodInfo) (c : Code) → SpellsMethod pool major class_access bytes m → code_of m.attributes ≡ Some c → has_code (text_of pool m.name) (method_flags m.access) ≡ true
codes_method pool major class_access bytes m c spelled is =
    let same : is_initializer pool m.name ≡ is_initializer_name (text_of pool m.name) = initializer_is pool m.name (text_named pool is_method_name m.name spelled.0) in
    let asked : needs_code (is_initializer pool m.name) m.access ≡ true = sym spelled.5 ∙ has_some_code m.attributes c is in
    let by_name : needs_code (is_initializer_name (text_of pool m.name)) m.access ≡ true = subst (λ (b : Bool). needs_code b m.access ≡ true) same asked in
    rw (native_kept m.access, abstract_kept m.access) by_name

catch_listable : (pool : List Constant) (h : Handler) → IsListableCatch (catch_of pool h)
catch_listable pool h = (of_place h.start, of_place h.end, of_place h.target)

code_listable : (pool : List Constant) → IsSound pool → (major : ℕ) (c : Code) (items : List CodeItem) → IsSpelledCode pool major c → items_onto pool c [] 0 c.layout.starts c.insns ≡ Ok items → AllByRecursion IsListableItem items
code_listable pool are major c items spelled e =
    code_all IsListableItem pool major c items spelled (λ place. of_place place)
    (λ pc first i o at is made. operation_listable pool are c.layout.bytes pc i o made) e

method_listable : (pool : List Constant) → IsSound pool → (major class_access : ℕ) (bytes : List ℕ) (m : MethodInfo) (lines : MethodLines) → SpellsMethod pool major class_access bytes m → method_lines pool m ≡ Ok lines → IsListableMethod lines
method_listable pool are major class_access bytes m lines spelled e =
    method_cases pool m lines e
    (λ none made. subst IsListableMethod made (record { access = method_flags_again m.access; bare = λ without. (refl, refl, refl, refl); catches = tt; code = tt }))
    (λ c items there items_are made.
    let code = code_spelled pool major spelled.6.4.1.1 m.attributes c spelled.6.4.1.4 there in
    subst IsListableMethod made (record {
      access = method_flags_again m.access;
      bare = λ without. absurd (both_ways (has_code (text_of pool m.name) (method_flags m.access)) without (codes_method pool major class_access bytes m c spelled there));
      catches = all_made IsListableCatch (catch_of pool) (catch_listable pool) c.handlers;
      code = code_listable pool are major c items code items_are;
    }))

-- ---- The tree

with_listable : (bytes : List ℕ) (c : ClassFile) (fields : List FieldLine) (methods : List MethodLines) → Spells bytes c
    → results_of (field_line c.pool) c.fields ≡ Ok fields → results_of (method_lines c.pool) c.methods ≡ Ok methods → IsListable (tree_with c fields methods)
with_listable bytes c fields methods spelled fields_are methods_are =
    let are = sound_of spelled.pool c.pool spelled.of_pool in
    let is_field : FieldInfo → FieldLine → Type 0 = λ f line. IsListableField line in
    let is_method : MethodInfo → MethodLines → Type 0 = λ m lines. IsListableMethod lines in
    let each_field = collected_zip (SpellsField c.pool) (field_line c.pool) is_field (λ first f line is made. field_listable c.pool are f line made)
    spelled.of_fields.1.1 c.fields fields spelled.of_fields.1.4 fields_are in
    let each_method = collected_zip (SpellsMethod c.pool c.major c.access) (method_lines c.pool) is_method
    (λ first m lines is made. method_listable c.pool are c.major c.access first m lines is made) spelled.of_methods.1.1 c.methods methods spelled.of_methods.1.4 methods_are in
    record {
      access = class_flags_again c.access;
      fields = zip_all is_field IsListableField (λ f line is. is) c.fields fields each_field;
      methods = zip_all is_method IsListableMethod (λ m lines is. is) c.methods methods each_method;
    }

pub tree_listable : (bytes : List ℕ) (c : ClassFile) (tree : Source) → Spells bytes c → tree_of c ≡ Ok tree → IsListable tree
tree_listable bytes c tree spelled e =
    tree_made c tree e (λ fields methods extends fields_are methods_are made. subst IsListable made (with_listable bytes c fields methods spelled fields_are methods_are))
