-- Proves that the classes of a program, except the built-in ones, and their members have well-formed names and
-- descriptors.
use Rattle.std.proofs.Common.{◌≡◌, ℕ, Bool, true, false, ◌||◌, List, [], ◌∷◌, ◌++◌, Option, Some, None, is_some, refl, sym, ◌∙◌}
use Rattle.std.specs.Prelude.{map}
use Rattle.std.specs.Option.{option_and_then, unwrap_or}
use Rattle.std.specs.List.{AllByRecursion, list_all}
use Rattle.std.proofs.lemmas.Bool.{and_parts, false≢true}
use Rattle.jvms_file.specs.declared.class_file.Constant.{Constant}
use Rattle.jvms_file.specs.declared.class_file.ClassFile.{ClassFile}
use Rattle.jvms_file.specs.declared.class_file.FieldInfo.{FieldInfo}
use Rattle.jvms_file.specs.declared.class_file.MethodInfo.{MethodInfo}
use Rattle.jvms_file.specs.declared.descriptor.MethodType.{MethodType}
use Rattle.jvms_file.specs.Texts.{IsText}
use Rattle.jvms_file.specs.Names.{is_name, is_method_name}
use Rattle.jvms_file.specs.Descriptors.{field_type_of, method_type_of}
use Rattle.jvms_file.specs.ConstantPool.{entry, utf8_at, class_name_number}
use Rattle.jvms_file.specs.Members.{is_static, is_interface, is_initializer, is_method_descriptor_for}
use Rattle.jvms_file.specs.Spelling.{InOrder, SpellsField, SpellsMethod}
use Rattle.jvms_program.specs.declared.program.Class.{Class}
use Rattle.jvms_program.specs.declared.program.Field.{Field}
use Rattle.jvms_program.specs.declared.program.Method.{Method}
use Rattle.jvms_program.specs.BuiltIn.{built_in_classes, is_built_in}
use Rattle.jvms_program.specs.Meaning.{text_of, field_of, method_of, meaning}
use Rattle.jvms_program.specs.Program.{program_of}
use Rattle.escapes.specs.declared.sort.NameSort.TheVariants as sort
use Rattle.escapes.specs.Keys.{IsNameOf}
use Rattle.tree_form_laws.proofs.Pools.{IsSound, sound_of, text_is_text, proper_named}
use Rattle.tree_form_laws.proofs.Texts.{text_passes}
use Rattle.run_trace_laws.specs.Written.{IsSpelled}

abbrev pub IsNamedField : Field → Type 0
IsNamedField f = IsNameOf sort.Field f.name × IsNameOf sort.FieldDescriptor f.descriptor

abbrev pub IsNamedMethod : Method → Type 0
IsNamedMethod m = IsNameOf sort.Method m.name × IsNameOf sort.MethodDescriptor m.descriptor

pub record IsNamedClass (c : Class) : Type 0 where
  pub name : IsNameOf sort.Class c.name
  pub fields : AllByRecursion IsNamedField c.fields
  pub methods : AllByRecursion IsNamedMethod c.methods

abbrev pub IsNamedUnlessBuiltIn : Class → Type 0
IsNamedUnlessBuiltIn c = is_built_in c.name ≡ false → IsNamedClass c

-- ---- What class files mean

field_named : (pool : List Constant) → IsSound pool → (interface : Bool) (bytes : List ℕ) (f : FieldInfo) → SpellsField pool bytes f → IsNamedField (field_of pool interface f)
field_named pool are interface bytes f spelled = (
  record { units = text_is_text pool are f.name; sort = text_passes pool is_name f.name spelled.0 },
  record { units = text_is_text pool are f.descriptor; sort = text_passes pool (λ text. is_some (field_type_of text)) f.descriptor spelled.1 },
)

fields_named : (pool : List Constant) → IsSound pool → (interface : Bool) (bytes : List ℕ) (fs : List FieldInfo) → InOrder (SpellsField pool) bytes fs → AllByRecursion IsNamedField (map (field_of pool interface) fs)
fields_named pool are interface bytes [] spelled = tt
fields_named pool are interface bytes (f ∷ fs) spelled = (field_named pool are interface spelled.0 f spelled.3, fields_named pool are interface spelled.1 fs spelled.4)

typed_by : (on_none : Bool) (text : List ℕ) (o : Option MethodType) → method_type_of text ≡ o → is_method_descriptor_for on_none text ≡ true → is_some o ≡ true
typed_by on_none text None is fits = absurd (false≢true (rw is at fits))
typed_by on_none text (Some t) is fits = refl

method_named : (pool : List Constant) → IsSound pool → (major access : ℕ) (bytes : List ℕ) (m : MethodInfo) → SpellsMethod pool major access bytes m → IsNamedMethod (method_of pool m)
method_named pool are major access bytes m spelled =
    let on_none = is_static m.access || is_initializer pool m.name in
    let described = text_passes pool (is_method_descriptor_for on_none) m.descriptor spelled.2 in (
      record { units = text_is_text pool are m.name; sort = text_passes pool is_method_name m.name spelled.0 },
      record { units = text_is_text pool are m.descriptor; sort = typed_by on_none (text_of pool m.descriptor) (method_type_of (text_of pool m.descriptor)) refl described },
    )

methods_named : (pool : List Constant) → IsSound pool → (major access : ℕ) (bytes : List ℕ) (ms : List MethodInfo) → InOrder (SpellsMethod pool major access) bytes ms → AllByRecursion IsNamedMethod (map (method_of pool) ms)
methods_named pool are major access bytes [] spelled = tt
methods_named pool are major access bytes (m ∷ ms) spelled = (method_named pool are major access spelled.0 m spelled.3, methods_named pool are major access spelled.1 ms spelled.4)

class_units : (pool : List Constant) → IsSound pool → (o : Option ℕ) → IsText (unwrap_or (option_and_then (utf8_at pool) o) [])
class_units pool are None = tt
class_units pool are (Some n) = text_is_text pool are n

class_named : (c : ClassFile) → IsSpelled c → IsNamedClass (meaning c)
unfolding meaning
class_named c is =
    let spelled = is.1 in
    let sound = sound_of spelled.pool c.pool spelled.of_pool in
    record {
      name = record { units = class_units c.pool sound (option_and_then class_name_number (entry c.pool c.this_class)); sort = proper_named c.pool sound c.this_class spelled.of_names.3 };
      fields = fields_named c.pool sound (is_interface c.access) spelled.of_fields.1.1 c.fields spelled.of_fields.1.4;
      methods = methods_named c.pool sound c.major c.access spelled.of_methods.1.1 c.methods spelled.of_methods.1.4;
    }

classes_named : (files : List ClassFile) → AllByRecursion IsSpelled files → AllByRecursion IsNamedUnlessBuiltIn (map meaning files)
classes_named [] are = tt
classes_named (c ∷ files) are = (λ own. class_named c are.0, classes_named files are.1)

-- ---- Programs

built_in_named : (cs : List Class) → list_all (λ c. is_built_in c.name) cs ≡ true → AllByRecursion IsNamedUnlessBuiltIn cs
built_in_named [] are = tt
built_in_named (c ∷ cs) are =
    let both = and_parts (is_built_in c.name) (list_all (λ d. is_built_in d.name) cs) are in
    (λ own. absurd (false≢true (sym own ∙ both.0)), built_in_named cs both.1)

one_behind : (cs ds : List Class) → AllByRecursion IsNamedUnlessBuiltIn cs → AllByRecursion IsNamedUnlessBuiltIn ds → AllByRecursion IsNamedUnlessBuiltIn (cs ++ ds)
one_behind [] ds left right = right
one_behind (c ∷ cs) ds left right = (left.0, one_behind cs ds left.1 right)

built_ins_are : list_all (λ c. is_built_in c.name) built_in_classes ≡ true
unfolding is_built_in built_in_classes
built_ins_are = refl

pub program_named : (files : List ClassFile) → AllByRecursion IsSpelled files → AllByRecursion IsNamedUnlessBuiltIn (program_of files)
unfolding program_of
program_named files are = one_behind built_in_classes (map meaning files) (built_in_named built_in_classes built_ins_are) (classes_named files are)
