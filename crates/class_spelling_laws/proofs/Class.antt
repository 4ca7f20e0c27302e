-- Proves that bytes spell the class that a source is assembled to (JVMS 4.1).
use Rattle.std.proofs.Common.{◌≡◌, ℕ, suc, ◌≤◌, true, false, not, ◌==◌, ◌||◌, List, [], ◌∷◌, ◌++◌, length, Ok, refl, sym, ap, subst, arith}
use Rattle.std.specs.Prelude.{IsTrue}
use Rattle.std.specs.List.{AllByRecursion, AllZip, list_any}
use Rattle.std.proofs.lemmas.Bool.{ltb-false, not-true, or_parts, or_right}
use Rattle.jvms_file.specs.declared.class_file.Constant.{Constant}
use Rattle.jvms_file.specs.declared.class_file.ClassFile.{ClassFile}
use Rattle.jvms_file.specs.Names.{is_class_name}
use Rattle.jvms_file.specs.ClassFile.{is_proper_class}
use Rattle.jvms_file.specs.Members.{is_interface}
use Rattle.jvms_file.specs.Spelling.{u2, u4, IsU2, Counted, SpellsInterface, SpellsField, SpellsMethod, SpellsKept, Spells}
use Rattle.jasmin.specs.declared.source.MethodLines.{MethodLines}
use Rattle.jasmin.specs.declared.source.Source.{Source}
use Rattle.jasmin.specs.Assembling.{is_too_many, has_too_many}
use Rattle.pool_entries.specs.Entries.{AreProper, class_entry}
use Rattle.pool_entries.proofs.Lookups.{IsKept-transitive}
use Rattle.assembly.specs.Named.{NamesClass, AreClasses}
use Rattle.assembly.specs.Operands.{classes_onto}
use Rattle.assembly.specs.Assembled.{fields_onto, methods_onto, class_file_of}
use Rattle.source_form_laws.specs.Formed.{IsClassOrArray, IsFormedFieldLine, IsFormedMethodLines, IsFormed}
use Rattle.classfile_laws.proofs.Steps.{step, want_step}
use Rattle.assembled_entry_laws.proofs.Keeping.{class-kept, classes-kept}
use Rattle.assembled_entry_laws.proofs.Operands.{classes_are_named}
use Rattle.class_spelling_laws.proofs.Steps.{same_Ok, numbered_step}
use Rattle.class_spelling_laws.proofs.Lists.{IsSpelled, all_map, all_both, counted, zip_length, zip_all, zip_map, own_all}
use Rattle.class_spelling_laws.proofs.Names.{no_array, class_entry_name}
use Rattle.class_spelling_laws.proofs.Pools.{IsGood, none_good}
use Rattle.class_spelling_laws.proofs.Constants.{pool_spelled}
use Rattle.class_spelling_laws.proofs.Operands.{classes_good}
use Rattle.class_spelling_laws.proofs.Made.{class_made}
use Rattle.class_spelling_laws.proofs.Fields.{IsFieldOf, field-kept, fields_made, field_spelled, fields_distinct}
use Rattle.class_spelling_laws.proofs.Methods.{IsMethodOf, IsFew, methods_made, method_spelled, methods_distinct}

-- ---- Names of classes

-- The index of a class's name, which is no array's, is one that a class may name.
proper_class : (pool : List Constant) (n : ℕ) (name : List ℕ) → NamesClass pool n name → is_class_name name ≡ true → is_proper_class pool n ≡ true
proper_class pool n name is form = rw is.1 (ap not (no_array name form))

interfaces_spelled : (pool : List Constant) (numbers : List ℕ) (names : List (List ℕ)) → AreClasses pool numbers names → AllByRecursion (λ name. IsTrue (is_class_name name)) names
    → (length numbers ≡ length names) × AllByRecursion (IsSpelled (SpellsInterface pool)) numbers
interfaces_spelled pool [] [] are form = (refl, tt)
interfaces_spelled pool (n ∷ numbers) (name ∷ names) are form =
    let first = are.0 in
    let rest = interfaces_spelled pool numbers names are.1 form.1 in
    (ap suc rest.0, ((u2 n, (first.0, proper_class pool n name first form.0, refl)), rest.1))
interfaces_spelled pool [] (name ∷ names) are form = absurd are
interfaces_spelled pool (n ∷ numbers) [] are form = absurd are

-- ---- Counts

few_of : {A : Type 0} (xs : List A) → is_too_many xs ≡ false → IsU2 (length xs)
few_of xs few = let most : length xs ≤ 65535 = ltb-false 65535 (length xs) few in omega arith

few_methods : (ms : List MethodLines) → list_any (λ (m : MethodLines). is_too_many m.catches || is_too_many m.throws) ms ≡ false → AllByRecursion IsFew ms
few_methods [] none = tt
few_methods (m ∷ ms) none =
    let parts = or_parts (is_too_many m.catches || is_too_many m.throws) (list_any (λ (n : MethodLines). is_too_many n.catches || is_too_many n.throws) ms) none in
    let first = or_parts (is_too_many m.catches) (is_too_many m.throws) parts.0 in
    (record { catches = first.0; throws = first.1 }, few_methods ms parts.1)

record IsFewIn (s : Source) : Type 0 where
  interfaces : is_too_many s.interfaces ≡ false
  fields : is_too_many s.fields ≡ false
  methods : is_too_many s.methods ≡ false
  in_methods : AllByRecursion IsFew s.methods

few_in : (s : Source) → has_too_many s ≡ false → IsFewIn s
few_in s none =
    let many = list_any (λ (m : MethodLines). is_too_many m.catches || is_too_many m.throws) s.methods in
    let interfaces = or_parts (is_too_many s.interfaces) (is_too_many s.fields || (is_too_many s.methods || many)) none in
    let fields = or_parts (is_too_many s.fields) (is_too_many s.methods || many) interfaces.1 in
    let methods = or_parts (is_too_many s.methods) many fields.1 in
    record { interfaces = interfaces.0; fields = fields.0; methods = methods.0; in_methods = few_methods s.methods methods.1 }

-- ---- The parts of the class

-- The indices of a class name what its source names, in a pool without fault.
record IsClassOf (c : ClassFile) (s : Source) : Type 0 where
  good : IsGood c.pool
  minor : c.minor ≡ 0
  major : c.major ≡ 49
  access : c.access ≡ s.access
  this_class : NamesClass c.pool c.this_class s.name
  super_class : NamesClass c.pool c.super_class s.superclass
  interfaces : AreClasses c.pool c.interfaces s.interfaces
  fields : AllZip (IsFieldOf c.pool) c.fields s.fields
  methods : AllZip (IsMethodOf c.pool) c.methods s.methods
  attributes : c.attributes ≡ []
  few : IsFewIn s

class_is_of : (s : Source) (c : ClassFile) → class_file_of s ≡ Ok c → IsFormed s → IsClassOf c s
unfolding class_file_of
class_is_of s c gives form =
    want_step (not (has_too_many s)) _ _ _ gives λ few more.
    numbered_step (class_entry [] s.name) _ _ more λ this named more2.
    numbered_step (class_entry this.1 s.superclass) _ _ more2 λ super super_named more3.
    numbered_step (classes_onto [] super.1 s.interfaces) _ _ more3 λ interfaces interfaced more4.
    numbered_step (fields_onto [] interfaces.1 s.fields) _ _ more4 λ fields fielded more5.
    step (methods_onto [] fields.1 s.methods) _ _ more5 λ methods methoded made.
    let entry_names = all_map (λ name. IsTrue (is_class_name name)) IsClassOrArray class_entry_name s.interfaces form.interfaces in
    let one = class_made [] this.1 s.name this.0 none_good (class_entry_name s.name form.name) named in
    let two = class_made this.1 super.1 s.superclass super.0 one.good (class_entry_name s.superclass form.superclass) super_named in
    let three = classes_are_named super.1 interfaces.1 s.interfaces interfaces.0 (two.good).few interfaced in
    let three_good = classes_good [] interfaces.0 super.1 interfaces.1 s.interfaces two.good entry_names interfaced in
    let four = fields_made [] interfaces.1 s.fields fields three_good form.fields fielded in
    let five = methods_made (is_interface s.access) [] fields.1 s.methods methods four.good form.methods methoded in
    let kept_three = IsKept-transitive interfaces.1 fields.1 methods.1 four.kept five.kept in
    let kept_two = IsKept-transitive super.1 interfaces.1 methods.1 three.1 kept_three in
    let kept_one = IsKept-transitive this.1 super.1 methods.1 two.kept kept_two in
    let class : ClassFile = record { minor = 0; major = 49; pool = methods.1; access = s.access; this_class = this.0; super_class = super.0; interfaces = interfaces.0; fields = fields.0; methods = methods.0; attributes = [] } in
    subst (λ d. IsClassOf d s) (same_Ok class c made) (record {
      good = five.good;
      minor = refl;
      major = refl;
      access = refl;
      this_class = class-kept this.1 methods.1 this.0 s.name kept_one one.fact;
      super_class = class-kept super.1 methods.1 super.0 s.superclass kept_two two.fact;
      interfaces = classes-kept interfaces.1 methods.1 interfaces.0 s.interfaces kept_three three.0;
      fields = zip_map (IsFieldOf fields.1) (IsFieldOf methods.1) (λ info f is. field-kept fields.1 methods.1 info f five.kept is) fields.0 s.fields (own_all (IsFieldOf fields.1) fields.0 s.fields four.fact);
      methods = own_all (IsMethodOf methods.1) methods.0 s.methods five.fact;
      attributes = refl;
      few = few_in s (not-true (has_too_many s) few);
    })

-- ---- The spelling

spelled : (s : Source) (c : ClassFile) → IsClassOf c s → IsFormed s → AreProper c.pool → IsSpelled Spells c
spelled s c is form proper =
    let few = is.few in
    let this = is.this_class in
    let super = is.super_class in
    let pool = pool_spelled c.pool is.good proper in
    let each_interface = interfaces_spelled c.pool c.interfaces s.interfaces is.interfaces form.interfaces in
    let interfaces = counted (SpellsInterface c.pool) c.interfaces (subst IsU2 (sym each_interface.0) (few_of s.interfaces few.interfaces)) each_interface.1 in
    let fields = counted (SpellsField c.pool) c.fields (subst IsU2 (sym (zip_length (IsFieldOf c.pool) c.fields s.fields is.fields)) (few_of s.fields few.fields))
    (zip_all (IsFieldOf c.pool) IsFormedFieldLine (IsSpelled (SpellsField c.pool)) (field_spelled c.pool) c.fields s.fields is.fields form.fields) in
    let methods_in_49 = counted (SpellsMethod c.pool 49 s.access) c.methods (subst IsU2 (sym (zip_length (IsMethodOf c.pool) c.methods s.methods is.methods)) (few_of s.methods few.methods))
    (zip_all (IsMethodOf c.pool) (λ m. IsFormedMethodLines (is_interface s.access) m × IsFew m) (IsSpelled (SpellsMethod c.pool 49 s.access)) (method_spelled c.pool s.access) c.methods s.methods is.methods
    (all_both (IsFormedMethodLines (is_interface s.access)) IsFew s.methods form.methods few.in_methods)) in
    let methods : IsSpelled (λ bytes. Counted (SpellsMethod c.pool c.major c.access) bytes) c.methods = rw (is.major, is.access) methods_in_49 in
    let attributes : IsSpelled (Counted (SpellsKept c.pool)) c.attributes = rw is.attributes (counted (SpellsKept c.pool) [] (omega arith) tt) in
    let header = u4 0xcafebabe ++ (u2 c.minor ++ u2 c.major) in
    let names = u2 c.access ++ (u2 c.this_class ++ u2 c.super_class) in (
      header ++ (pool.0 ++ (names ++ (interfaces.0 ++ (fields.0 ++ (methods.0 ++ attributes.0))))),
      record {
        header = header;
        pool = pool.0;
        names = names;
        interfaces = interfaces.0;
        fields = fields.0;
        methods = methods.0;
        attributes = attributes.0;
        in_order = refl;
        of_header = (rw is.minor (omega arith), rw is.major refl, refl);
        of_pool = pool.1;
        of_names = (subst IsU2 (sym is.access) form.access, this.0, super.0, proper_class c.pool c.this_class s.name this form.name, or_right (c.super_class == 0) (is_proper_class c.pool c.super_class) (proper_class c.pool c.super_class s.superclass super form.superclass), refl);
        of_interfaces = interfaces.1;
        of_fields = fields.1;
        distinct_fields = fields_distinct c.pool c.fields s.fields is.fields form.distinct_fields;
        of_methods = methods.1;
        distinct_methods = methods_distinct c.pool c.methods s.methods is.methods form.distinct_methods;
        of_attributes = attributes.1;
      },
    )

pub class_is_spelled : (s : Source) (c : ClassFile) → class_file_of s ≡ Ok c → IsFormed s → AreProper c.pool → (bytes : List ℕ) × Spells bytes c
class_is_spelled s c gives form proper = spelled s c (class_is_of s c gives form) form proper
