-- Class files as they are written (JVMS 4.1). The bytes of a class that has a spelling spell it.
use Rattle.std.proofs.Common.{◌≡◌, ℕ, List, length, refl, sym, ap, ◌∙◌}
use Rattle.std.specs.Prelude.{Ok}
use Rattle.jvms_file.specs.declared.class_file.Constant.{Constant}
use Rattle.jvms_file.specs.declared.class_file.FieldInfo.{FieldInfo}
use Rattle.jvms_file.specs.declared.class_file.MethodInfo.{MethodInfo}
use Rattle.jvms_file.specs.declared.class_file.ClassFile.{ClassFile}
use Rattle.jvms_file.specs.ClassFile.{read}
use Rattle.jvms_file.specs.Spelling.{u2, SpellsKept, SpellsFieldAttribute, SpellsMethodAttribute, SpellsMember, SpellsField, SpellsMethod, SpellsInterface, Spells}
use Rattle.classfile_laws.proofs.Classes.{spelled_is_read}
use Rattle.const_pool.specs.Writing.{pool_bytes}
use Rattle.class_file.specs.Writing.{counted_bytes, kept_bytes, field_attribute_bytes, method_attribute_bytes, member_bytes, field_bytes, method_bytes, header_bytes, names_bytes, class_bytes}
use Rattle.class_file.proofs.WrittenLists.{InPlace, one_spelling, joined_size, counted_written}
use Rattle.class_file.proofs.WrittenPools.{pool_written}
use Rattle.class_file.proofs.WrittenAttributes.{kept_written, field_attribute_written, method_attribute_written}

-- A field.
field_written : (pool : List Constant) (bytes : List ℕ) (f : FieldInfo) → SpellsField pool bytes f → InPlace (λ w. SpellsField pool w f) bytes (field_bytes f)
unfolding field_bytes
field_written pool bytes f s =
    let two = s.3 in
    let member = one_spelling (SpellsMember f.access f.name f.descriptor) two.0 (member_bytes f.access f.name f.descriptor) (two.3).3 two.3 in
    let attributes = counted_written (SpellsFieldAttribute pool f.descriptor) field_attribute_bytes (field_attribute_written pool f.descriptor) f.attributes two.1 two.4 in
    record {
      spells = (s.0, s.1, s.2, (member_bytes f.access f.name f.descriptor, counted_bytes field_attribute_bytes f.attributes, refl, member.spells, attributes.spells));
      size = joined_size (member_bytes f.access f.name f.descriptor) (counted_bytes field_attribute_bytes f.attributes) two.0 two.1 member.size attributes.size ∙ ap length (sym two.2);
    }

-- A method.
method_written : (pool : List Constant) (major class_access : ℕ) (bytes : List ℕ) (m : MethodInfo) → SpellsMethod pool major class_access bytes m → InPlace (λ w. SpellsMethod pool major class_access w m) bytes (method_bytes m)
unfolding method_bytes
method_written pool major class_access bytes m s =
    let two = s.6 in
    let member = one_spelling (SpellsMember m.access m.name m.descriptor) two.0 (member_bytes m.access m.name m.descriptor) (two.3).3 two.3 in
    let attributes = counted_written (SpellsMethodAttribute pool major) method_attribute_bytes (method_attribute_written pool major) m.attributes two.1 two.4 in
    record {
      spells = (s.0, s.1, s.2, s.3, s.4, s.5, (member_bytes m.access m.name m.descriptor, counted_bytes method_attribute_bytes m.attributes, refl, member.spells, attributes.spells));
      size = joined_size (member_bytes m.access m.name m.descriptor) (counted_bytes method_attribute_bytes m.attributes) two.0 two.1 member.size attributes.size ∙ ap length (sym two.2);
    }

-- The number of an interface.
interface_written : (pool : List Constant) (bytes : List ℕ) (n : ℕ) → SpellsInterface pool bytes n → InPlace (λ w. SpellsInterface pool w n) bytes (u2 n)
interface_written pool bytes n s = one_spelling (λ w. SpellsInterface pool w n) bytes (u2 n) s.2 s

-- The bytes that are written of a class that has a spelling spell it.
pub written_spells : (bytes : List ℕ) (c : ClassFile) → Spells bytes c → Spells (class_bytes c) c
unfolding class_bytes
written_spells bytes c s =
    let pool = pool_written s.pool c.pool s.of_pool in
    let interfaces = counted_written (SpellsInterface c.pool) u2 (interface_written c.pool) c.interfaces s.interfaces s.of_interfaces in
    let fields = counted_written (SpellsField c.pool) field_bytes (field_written c.pool) c.fields s.fields s.of_fields in
    let methods = counted_written (SpellsMethod c.pool c.major c.access) method_bytes (method_written c.pool c.major c.access) c.methods s.methods s.of_methods in
    let attributes = counted_written (SpellsKept c.pool) kept_bytes (kept_written c.pool) c.attributes s.attributes s.of_attributes in
    let header = s.of_header in
    let names = s.of_names in
    record {
      header = header_bytes c;
      pool = pool_bytes c.pool;
      names = names_bytes c;
      interfaces = counted_bytes u2 c.interfaces;
      fields = counted_bytes field_bytes c.fields;
      methods = counted_bytes method_bytes c.methods;
      attributes = counted_bytes kept_bytes c.attributes;
      in_order = refl;
      of_header = (header.0, header.1, refl);
      of_pool = pool.spells;
      of_names = (names.0, names.1, names.2, names.3, names.4, refl);
      of_interfaces = interfaces.spells;
      of_fields = fields.spells;
      distinct_fields = s.distinct_fields;
      of_methods = methods.spells;
      distinct_methods = s.distinct_methods;
      of_attributes = attributes.spells;
    }

-- A class that has a spelling is read from the bytes that are written of it.
pub written_is_read : (bytes : List ℕ) (c : ClassFile) → Spells bytes c → read (class_bytes c) ≡ Ok c
written_is_read bytes c s = spelled_is_read (class_bytes c) c (written_spells bytes c s)
