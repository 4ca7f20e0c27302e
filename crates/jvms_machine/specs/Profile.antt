-- Types outside the profile, float and double, and the classes that `new` can't instantiate (own). The files of their
-- families decide the instructions of these types.
use Rattle.std.specs.Prelude.{ℕ, Bool, true, false, ◌||◌, List, Option, Some, None, codes}
use Rattle.std.specs.List.{list_any}
use Rattle.jvms_file.specs.declared.descriptor.Primitive.TheVariants as primitive
use Rattle.jvms_file.specs.declared.descriptor.Element.{Element}
use Rattle.jvms_file.specs.declared.descriptor.Element.TheVariants as element
use Rattle.jvms_file.specs.declared.descriptor.FieldType.{FieldType}
use Rattle.jvms_file.specs.declared.descriptor.ResultType.{ResultType}
use Rattle.jvms_file.specs.declared.descriptor.ResultType.TheVariants as result_type
use Rattle.jvms_file.specs.declared.descriptor.MethodType.{MethodType}
use Rattle.jvms_file.specs.declared.insn.ArrayKind.{ArrayKind}
use Rattle.jvms_file.specs.declared.insn.ArrayKind.TheVariants as array_kind
use Rattle.jvms_file.specs.declared.insn.ArrayType.{ArrayType}
use Rattle.jvms_file.specs.declared.insn.ArrayType.TheVariants as array_type
use Rattle.jvms_file.specs.declared.insn.ArrayInsn.{ArrayInsn}
use Rattle.jvms_file.specs.declared.insn.ArrayInsn.TheVariants as array
use Rattle.jvms_file.specs.declared.insn.ClassUse.{ClassUse}
use Rattle.jvms_file.specs.declared.insn.ClassUse.TheVariants as class_use
use Rattle.jvms_file.specs.Names.{same_text}
use Rattle.jvms_program.specs.Resolution.{class_type}

-- ---- Types and descriptors

-- Decides whether an element type is float or double.
abbrev pub is_outside_element : Element → Bool
is_outside_element (element.Primitive primitive.Float) = true
is_outside_element (element.Primitive primitive.Double) = true
is_outside_element _ = false

abbrev pub is_outside_result : ResultType → Bool
is_outside_result result_type.Void = false
is_outside_result (result_type.Value t) = is_outside_element t.element

-- Decides whether a method's descriptor names a float or a double anywhere.
abbrev pub is_outside_method : MethodType → Bool
is_outside_method t = list_any (λ p. is_outside_element p.element) t.parameters || is_outside_result t.result

abbrev pub is_outside_type : Option FieldType → Bool
is_outside_type None = false
is_outside_type (Some t) = is_outside_element t.element

-- Decides whether a class name is that of an array of floats or doubles.
abbrev pub is_outside_class : List ℕ → Bool
is_outside_class name = is_outside_type (class_type name)

-- ---- Arrays

abbrev pub is_outside_kind : ArrayKind → Bool
is_outside_kind array_kind.Float = true
is_outside_kind array_kind.Double = true
is_outside_kind _ = false

abbrev pub is_outside_component : ArrayType → Bool
is_outside_component array_type.Float = true
is_outside_component array_type.Double = true
is_outside_component _ = false

-- Decides whether an array instruction is a load, a store or `newarray` of float or double.
abbrev pub is_outside_array : ArrayInsn → Bool
is_outside_array (array.Load k) = is_outside_kind k
is_outside_array (array.Store k) = is_outside_kind k
is_outside_array array.Length = false
is_outside_array (array.New t) = is_outside_component t

-- ---- Classes

-- Decides whether `new` of a class is outside the profile.
unfoldable pub is_never_new : List ℕ → Bool
is_never_new name =
    same_text name (codes "java/lang/String") || same_text name (codes "java/lang/Class")
    || same_text name (codes "java/lang/System") || same_text name (codes "java/io/PrintStream")

-- Decides whether an instruction is `new` of such a class or `anewarray` of such an array. A cast or a test creates
-- nothing.
abbrev pub is_outside_use : ClassUse → List ℕ → Bool
is_outside_use class_use.New name = is_never_new name
is_outside_use class_use.NewArray name = is_outside_class name
is_outside_use class_use.CheckCast name = false
is_outside_use class_use.InstanceOf name = false
