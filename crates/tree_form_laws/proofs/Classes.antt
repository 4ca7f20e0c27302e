-- Proves that the tree of a class that bytes spell has the form that a class file requires (JVMS 4.1).
use Rattle.std.proofs.Common.{◌≡◌, ℕ, Bool, true, not, ◌==◌, List, map, Ok, sym, subst}
use Rattle.std.specs.List.{AllByRecursion, AllZip}
use Rattle.std.specs.Prelude.{IsTrue}
use Rattle.std.proofs.lemmas.Bool.{not-true}
use Rattle.jvms_file.specs.declared.class_file.FieldInfo.{FieldInfo}
use Rattle.jvms_file.specs.declared.class_file.MethodInfo.{MethodInfo}
use Rattle.jvms_file.specs.declared.class_file.ClassFile.{ClassFile}
use Rattle.jvms_file.specs.Names.{is_class_name}
use Rattle.jvms_file.specs.Results.{results_of}
use Rattle.jvms_file.specs.Members.{is_interface, is_same_field, is_same_method}
use Rattle.jvms_file.specs.ClassFile.{is_proper_class}
use Rattle.jvms_file.specs.Spelling.{SpellsField, SpellsInterface, SpellsMethod, Spells}
use Rattle.jvms_program.specs.Meaning.{class_text}
use Rattle.jasmin.specs.declared.source.FieldLine.{FieldLine}
use Rattle.jasmin.specs.declared.source.MethodLines.{MethodLines}
use Rattle.jasmin.specs.declared.source.Source.{Source}
use Rattle.jasmin.specs.Reading.{is_field_like, is_method_like}
use Rattle.source_form_laws.specs.Formed.{IsFormedFieldLine, IsFormedMethodLines, IsFormed}
use Rattle.listing_spec.specs.declared.fault.ListFault.TheVariants as fault
use Rattle.listing_spec.specs.TreeOf.{class_flags, field_line, method_lines, tree_of}
use Rattle.classfile_laws.proofs.Steps.{step, want_step}
use Rattle.tree_form_laws.proofs.Steps.{same_Ok, other_holds}
use Rattle.tree_form_laws.proofs.Flags.{class_flags_small, interface_kept}
use Rattle.tree_form_laws.proofs.Lists.{all_spelled, zip_all, distinct_as, collected_zip}
use Rattle.tree_form_laws.proofs.Pools.{sound_of, proper_named}
use Rattle.tree_form_laws.proofs.Fields.{IsFieldOf, field_formed, fields_agree}
use Rattle.tree_form_laws.proofs.Methods.{IsMethodOf, method_formed, methods_agree}

-- Returns the tree with these fields and methods.
abbrev pub tree_with : ClassFile → List FieldLine → List MethodLines → Source
tree_with c fields methods =
    record { access = class_flags c.access; name = class_text c.pool c.this_class; superclass = class_text c.pool c.super_class; interfaces = map (class_text c.pool) c.interfaces; fields = fields; methods = methods }

-- A tree is made of its fields and methods.
pub tree_made : {G : Type 0} (c : ClassFile) (tree : Source) → tree_of c ≡ Ok tree
    → ((fields : List FieldLine) (methods : List MethodLines) → not (c.super_class == 0) ≡ true → results_of (field_line c.pool) c.fields ≡ Ok fields → results_of (method_lines c.pool) c.methods ≡ Ok methods → tree_with c fields methods ≡ tree → G) → G
unfolding tree_of
tree_made c tree e next =
    want_step (not (c.super_class == 0)) fault.Name _ tree e λ extends more.
    step (results_of (field_line c.pool) c.fields) _ tree more λ fields fields_are more2.
    step (results_of (method_lines c.pool) c.methods) _ tree more2 λ methods methods_are last.
    next fields methods extends fields_are methods_are (same_Ok (tree_with c fields methods) tree last)

fields_zip : (bytes : List ℕ) (c : ClassFile) (fields : List FieldLine) → Spells bytes c → results_of (field_line c.pool) c.fields ≡ Ok fields → AllZip (IsFieldOf c.pool) c.fields fields
fields_zip bytes c fields spelled e =
    let are = sound_of spelled.pool c.pool spelled.of_pool in
    collected_zip (SpellsField c.pool) (field_line c.pool) (IsFieldOf c.pool) (λ first f line is made. field_formed c.pool are first f line is made)
    spelled.of_fields.1.1 c.fields fields spelled.of_fields.1.4 e

methods_zip : (bytes : List ℕ) (c : ClassFile) (methods : List MethodLines) → Spells bytes c → results_of (method_lines c.pool) c.methods ≡ Ok methods → AllZip (IsMethodOf c.pool (is_interface c.access)) c.methods methods
methods_zip bytes c methods spelled e =
    let are = sound_of spelled.pool c.pool spelled.of_pool in
    collected_zip (SpellsMethod c.pool c.major c.access) (method_lines c.pool) (IsMethodOf c.pool (is_interface c.access)) (λ first m lines is made. method_formed c.pool are c.major c.access first m lines is made)
    spelled.of_methods.1.1 c.methods methods spelled.of_methods.1.4 e

interfaces_named : (bytes : List ℕ) (c : ClassFile) → Spells bytes c → AllByRecursion (λ name. IsTrue (is_class_name name)) (map (class_text c.pool) c.interfaces)
interfaces_named bytes c spelled =
    let are = sound_of spelled.pool c.pool spelled.of_pool in
    all_spelled (SpellsInterface c.pool) (λ name. IsTrue (is_class_name name)) (class_text c.pool) (λ first n is. proper_named c.pool are n is.1)
    spelled.of_interfaces.1.1 c.interfaces spelled.of_interfaces.1.4

with_formed : (bytes : List ℕ) (c : ClassFile) (fields : List FieldLine) (methods : List MethodLines) → Spells bytes c → not (c.super_class == 0) ≡ true
    → results_of (field_line c.pool) c.fields ≡ Ok fields → results_of (method_lines c.pool) c.methods ≡ Ok methods → IsFormed (tree_with c fields methods)
with_formed bytes c fields methods spelled extends fields_are methods_are =
    let are = sound_of spelled.pool c.pool spelled.of_pool in
    let names = spelled.of_names in
    let super_is = other_holds (c.super_class == 0) (is_proper_class c.pool c.super_class) names.4 (not-true (c.super_class == 0) extends) in
    let each_field = fields_zip bytes c fields spelled fields_are in
    let each_method = methods_zip bytes c methods spelled methods_are in
    record {
      access = class_flags_small c.access;
      name = proper_named c.pool are c.this_class names.3;
      superclass = proper_named c.pool are c.super_class super_is;
      interfaces = interfaces_named bytes c spelled;
      fields = zip_all (IsFieldOf c.pool) IsFormedFieldLine (λ f line is. is.formed) c.fields fields each_field;
      distinct_fields = distinct_as (IsFieldOf c.pool) (λ (f g : FieldInfo). is_same_field c.pool g.name g.descriptor f) (λ (f g : FieldLine). is_field_like g.name g.descriptor f)
          (λ f g x y first second. fields_agree c.pool f g x y first second) c.fields fields each_field spelled.distinct_fields;
      methods = subst (λ (b : Bool). AllByRecursion (IsFormedMethodLines b) methods) (sym (interface_kept c.access))
          (zip_all (IsMethodOf c.pool (is_interface c.access)) (IsFormedMethodLines (is_interface c.access)) (λ m lines is. is.formed) c.methods methods each_method);
      distinct_methods = distinct_as (IsMethodOf c.pool (is_interface c.access)) (λ (m n : MethodInfo). is_same_method c.pool n.name n.descriptor m) (λ (m n : MethodLines). is_method_like n.name n.descriptor m)
          (λ m n x y first second. methods_agree c.pool (is_interface c.access) m n x y first second) c.methods methods each_method spelled.distinct_methods;
    }

pub tree_formed : (bytes : List ℕ) (c : ClassFile) (tree : Source) → Spells bytes c → tree_of c ≡ Ok tree → IsFormed tree
tree_formed bytes c tree spelled e =
    tree_made c tree e (λ fields methods extends fields_are methods_are made.
    subst IsFormed made (with_formed bytes c fields methods spelled extends fields_are methods_are))
