-- Proves that the tree that a class file is listed as means what the class file means.
use Rattle.std.proofs.Common.{◌≡◌, ℕ, Bool, true, false, not, cond, ◌==◌, List, map, Option, None, Some, Ok, refl, sym, ap, ◌∙◌}
use Rattle.std.specs.List.{AllByRecursion}
use Rattle.jvms_file.specs.declared.class_file.Constant.{Constant}
use Rattle.jvms_file.specs.declared.class_file.MethodInfo.{MethodInfo}
use Rattle.jvms_file.specs.declared.class_file.ClassFile.{ClassFile}
use Rattle.jvms_file.specs.Results.{results_of}
use Rattle.jvms_file.specs.Members.{is_interface}
use Rattle.jvms_file.specs.Spelling.{Counted, SpellsMethod, Spells}
use Rattle.jvms_program.specs.declared.program.ClassKind.{ClassKind}
use Rattle.jvms_program.specs.declared.program.Field.{Field}
use Rattle.jvms_program.specs.declared.program.Method.{Method}
use Rattle.jvms_program.specs.declared.program.Class.{Class}
use Rattle.jvms_program.specs.Meaning.{class_text, kind_of, field_of, method_of, meaning}
use Rattle.jasmin.specs.declared.source.FieldLine.{FieldLine}
use Rattle.jasmin.specs.declared.source.MethodLines.{MethodLines}
use Rattle.jasmin.specs.declared.source.Source.{Source}
use Rattle.jasmin.specs.Denote.{field_of as denoted_field, method_of as denoted_method, denote}
use Rattle.classfile_laws.proofs.Steps.{step, want_step}
use Rattle.listing_spec.specs.declared.fault.ListFault.TheVariants as fault
use Rattle.listing_spec.specs.TreeOf.{field_line, method_lines, class_flags, tree_of}
use Rattle.tree_meaning_laws.proofs.Lists.{same_Ok, collected_means, each_spelled, all_hold}
use Rattle.tree_meaning_laws.proofs.Flags.{interface_kept, kind_kept}
use Rattle.tree_meaning_laws.proofs.Fields.{field_means}
use Rattle.tree_meaning_laws.proofs.Methods.{IsWritten, method_written, method_means}

abbrev class_by : ClassFile → ClassKind → Option (List ℕ) → List Field → List Method → Class
class_by c kind superclass fields methods =
    record { name = class_text c.pool c.this_class; kind = kind; superclass = superclass; interfaces = map (class_text c.pool) c.interfaces; fields = fields; methods = methods }

-- Returns the tree of a class file with these members.
abbrev tree_with : ClassFile → List FieldLine → List MethodLines → Source
tree_with c fields methods =
    record { access = class_flags c.access; name = class_text c.pool c.this_class; superclass = class_text c.pool c.super_class; interfaces = map (class_text c.pool) c.interfaces; fields = fields; methods = methods }

no_object : (b : Bool) → not b ≡ true → b ≡ false
no_object false is = refl
no_object true is = absurd cc

-- The tree means what the class file means if its members do.
tree_is : (c : ClassFile) (fields : List FieldLine) (methods : List MethodLines) → (c.super_class == 0) ≡ false
    → map (denoted_field (is_interface c.access)) fields ≡ map (field_of c.pool (is_interface c.access)) c.fields
    → map denoted_method methods ≡ map (method_of c.pool) c.methods → denote (tree_with c fields methods) ≡ meaning c
unfolding meaning denote
tree_is c fields methods above fielded methoded =
    let super = Some (class_text c.pool c.super_class) in
    ap (λ k. class_by c k super (map (denoted_field (is_interface (class_flags c.access))) fields) (map denoted_method methods)) (kind_kept c.access)
    ∙ ap (λ b. class_by c (kind_of c.access) super (map (denoted_field b) fields) (map denoted_method methods)) (interface_kept c.access)
    ∙ ap (λ fs. class_by c (kind_of c.access) super fs (map denoted_method methods)) fielded
    ∙ ap (class_by c (kind_of c.access) super (map (field_of c.pool (is_interface c.access)) c.fields)) methoded
    ∙ sym (ap (λ b. class_by c (kind_of c.access) (cond b None super) (map (field_of c.pool (is_interface c.access)) c.fields) (map (method_of c.pool) c.methods)) above)

-- Each method of a spelled class is spelled.
methods_written : (pool : List Constant) (major access : ℕ) (bytes : List ℕ) (ms : List MethodInfo) → Counted (SpellsMethod pool major access) bytes ms → AllByRecursion (IsWritten pool major) ms
methods_written pool major access bytes ms (few, (count, rest, whole, counted, order)) =
    each_spelled (SpellsMethod pool major access) (IsWritten pool major) (λ b m. method_written pool major access b m) rest ms order

pub tree_means : (bytes : List ℕ) (c : ClassFile) (tree : Source) → Spells bytes c → tree_of c ≡ Ok tree → denote tree ≡ meaning c
unfolding tree_of
tree_means bytes c tree spelt gives =
    want_step (not (c.super_class == 0)) fault.Name _ _ gives λ above e.
    step (results_of (field_line c.pool) c.fields) _ _ e λ fields fielded e1.
    step (results_of (method_lines c.pool) c.methods) _ _ e1 λ methods methoded last.
    let written = methods_written c.pool c.major c.access spelt.methods c.methods spelt.of_methods in
    ap denote (sym (same_Ok (tree_with c fields methods) tree last))
    ∙ tree_is c fields methods (no_object (c.super_class == 0) above)
    (collected_means (field_line c.pool) (denoted_field (is_interface c.access)) (field_of c.pool (is_interface c.access)) (λ f. Unit {0}) (λ f line known is. field_means c.pool (is_interface c.access) f line is) c.fields fields (all_hold (λ f. Unit {0}) (λ f. tt) c.fields) fielded)
    (collected_means (method_lines c.pool) denoted_method (method_of c.pool) (IsWritten c.pool c.major) (λ m lines known is. method_means c.pool c.major m lines known is) c.methods methods written methoded)
