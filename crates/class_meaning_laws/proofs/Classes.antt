-- Proves that an assembled class means what its source denotes.
use Rattle.std.proofs.Common.{◌≡◌, ◌≤◌, ℕ, not, cond, ◌==◌, List, [], length, map, Option, None, Some, Ok, ap, ◌∙◌, subst, arith}
use Rattle.jvms_file.specs.declared.class_file.Constant.{Constant}
use Rattle.jvms_file.specs.declared.class_file.FieldInfo.{FieldInfo}
use Rattle.jvms_file.specs.declared.class_file.MethodInfo.{MethodInfo}
use Rattle.jvms_file.specs.declared.class_file.ClassFile.{ClassFile}
use Rattle.jvms_file.specs.ConstantPool.{class_name_at}
use Rattle.jvms_file.specs.Members.{is_interface}
use Rattle.jvms_program.specs.declared.program.Field.{Field}
use Rattle.jvms_program.specs.declared.program.Method.{Method}
use Rattle.jvms_program.specs.declared.program.Class.{Class}
use Rattle.jvms_program.specs.Meaning.{class_text, kind_of, field_of, method_of, meaning}
use Rattle.jasmin.specs.declared.source.Source.{Source}
use Rattle.jasmin.specs.Denote.{field_of as denoted_field, method_of as denoted_method, denote}
use Rattle.jasmin.specs.Assembling.{has_too_many}
use Rattle.pool_entries.specs.Entries.{class_entry}
use Rattle.pool_entries.proofs.Lookups.{IsKept-reflexive, IsKept-transitive, class_name_at-kept}
use Rattle.assembly.specs.declared.fault.AsmFault.TheVariants as fault
use Rattle.assembly.specs.Named.{AreClasses}
use Rattle.assembly.specs.Operands.{classes_onto}
use Rattle.assembly.specs.Assembled.{fields_onto, methods_onto, class_file_of}
use Rattle.assembled_entry_laws.proofs.Steps.{step, want_step, same_Ok}
use Rattle.assembled_entry_laws.proofs.Entries.{class_is_entered}
use Rattle.assembled_entry_laws.proofs.Keeping.{classes-kept}
use Rattle.assembled_entry_laws.proofs.Operands.{classes_are_named}
use Rattle.class_meaning_laws.proofs.Names.{class_text_is, class_texts_are, class_is_not_0}
use Rattle.class_meaning_laws.proofs.Kept.{numbered_step, all_mean}
use Rattle.class_meaning_laws.proofs.Fields.{fields_mean}
use Rattle.class_meaning_laws.proofs.Methods.{methods_mean}

abbrev class_by : Source → List ℕ → Option (List ℕ) → List (List ℕ) → List Field → List Method → Class
class_by s name superclass interfaces fields methods =
    record { name = name; kind = kind_of s.access; superclass = superclass; interfaces = interfaces; fields = fields; methods = methods }

superclass_is : (pool : List Constant) (n : ℕ) (name : List ℕ) → class_name_at pool n ≡ Some name → cond (n == 0) None (Some (class_text pool n)) ≡ Some name
superclass_is pool n name is =
    ap (λ b. cond b None (Some (class_text pool n))) (class_is_not_0 pool n name is) ∙ ap (λ t. Some t) (class_text_is pool n name is)

-- Returns the class file of a source with these indices and members.
abbrev made : Source → List Constant → ℕ → ℕ → List ℕ → List FieldInfo → List MethodInfo → ClassFile
made s pool this super interfaces fields methods =
    record { minor = 0; major = 49; pool = pool; access = s.access; this_class = this; super_class = super; interfaces = interfaces; fields = fields; methods = methods; attributes = [] }

-- The class file means what the source denotes if its indices and members do.
class_is : (s : Source) (pool : List Constant) (this super : ℕ) (interfaces : List ℕ) (fields : List FieldInfo) (methods : List MethodInfo)
    → class_name_at pool this ≡ Some s.name → class_name_at pool super ≡ Some s.superclass → AreClasses pool interfaces s.interfaces
    → map (field_of pool (is_interface s.access)) fields ≡ map (denoted_field (is_interface s.access)) s.fields
    → map (method_of pool) methods ≡ map denoted_method s.methods → meaning (made s pool this super interfaces fields methods) ≡ denote s
unfolding meaning denote
class_is s pool this super interfaces fields methods named above are fielded methoded =
    ap (λ t. class_by s t (cond (super == 0) None (Some (class_text pool super))) (map (class_text pool) interfaces) (map (field_of pool (is_interface s.access)) fields) (map (method_of pool) methods)) (class_text_is pool this s.name named)
    ∙ ap (λ t. class_by s s.name t (map (class_text pool) interfaces) (map (field_of pool (is_interface s.access)) fields) (map (method_of pool) methods)) (superclass_is pool super s.superclass above)
    ∙ ap (λ ts. class_by s s.name (Some s.superclass) ts (map (field_of pool (is_interface s.access)) fields) (map (method_of pool) methods)) (class_texts_are pool interfaces s.interfaces are)
    ∙ ap (λ fs. class_by s s.name (Some s.superclass) s.interfaces fs (map (method_of pool) methods)) fielded
    ∙ ap (class_by s s.name (Some s.superclass) s.interfaces (map (denoted_field (is_interface s.access)) s.fields)) methoded

pub assembled_means : (s : Source) (c : ClassFile) → class_file_of s ≡ Ok c → meaning c ≡ denote s
unfolding class_file_of
assembled_means s c gives =
    want_step (not (has_too_many s)) fault.TooMany _ _ gives λ few e.
    numbered_step (class_entry [] s.name) _ _ e λ this named e1.
    numbered_step (class_entry this.1 s.superclass) _ _ e1 λ super above e2.
    numbered_step (classes_onto [] super.1 s.interfaces) _ _ e2 λ interfaces are e3.
    numbered_step (fields_onto [] interfaces.1 s.fields) _ _ e3 λ fields fielded e4.
    step (methods_onto [] fields.1 s.methods) _ _ e4 λ methods methoded last.
    let none : length {A = Constant} [] ≤ 65534 = omega arith in
    let first = class_is_entered [] this.1 s.name this.0 none named in
    let second = class_is_entered this.1 super.1 s.superclass super.0 first.0.few above in
    let third = classes_are_named super.1 interfaces.1 s.interfaces interfaces.0 second.0.few are in
    let fourth = fields_mean (is_interface s.access) [] interfaces.1 s.fields fields third.2 fielded in
    let fifth = methods_mean [] fields.1 s.methods methods fourth.few methoded in
    let behind_interfaces = IsKept-transitive interfaces.1 fields.1 methods.1 fourth.kept fifth.kept in
    let behind_super = IsKept-transitive super.1 interfaces.1 methods.1 third.1 behind_interfaces in
    let behind_this = IsKept-transitive this.1 super.1 methods.1 second.0.kept behind_super in
    subst (λ (d : ClassFile). meaning d ≡ denote s) (same_Ok (made s methods.1 this.0 super.0 interfaces.0 fields.0 methods.0) c last)
    (class_is s methods.1 this.0 super.0 interfaces.0 fields.0 methods.0
    (class_name_at-kept this.1 methods.1 this.0 s.name behind_this first.1)
    (class_name_at-kept super.1 methods.1 super.0 s.superclass behind_super second.1)
    (classes-kept interfaces.1 methods.1 interfaces.0 s.interfaces behind_interfaces third.0)
    (all_mean (λ p. field_of p (is_interface s.access)) (denoted_field (is_interface s.access)) interfaces.1 s.fields fields fourth methods.1 fifth.kept)
    (all_mean method_of denoted_method fields.1 s.methods methods fifth methods.1 (IsKept-reflexive methods.1)))
