-- The meaning of a class file: a class of a program, with texts in place of pool numbers.
use Rattle.std.specs.Prelude.{ℕ, Bool, true, false, ◌==◌, ◌&&◌, ◌||◌, not, if◌then◌else◌, List, [], ◌∷◌, map, Option, Some, None, pos}
use Rattle.std.specs.Option.{option_map, unwrap_or}
use Rattle.jvms_file.specs.declared.class_file.Constant.{Constant}
use Rattle.jvms_file.specs.declared.class_file.Constant.TheVariants as constant
use Rattle.jvms_file.specs.declared.class_file.FieldAttribute.{FieldAttribute}
use Rattle.jvms_file.specs.declared.class_file.FieldAttribute.TheVariants as field_attribute
use Rattle.jvms_file.specs.declared.class_file.MethodAttribute.{MethodAttribute}
use Rattle.jvms_file.specs.declared.class_file.MethodAttribute.TheVariants as method_attribute
use Rattle.jvms_file.specs.declared.class_file.Handler.{Handler}
use Rattle.jvms_file.specs.declared.class_file.Code.{Code}
use Rattle.jvms_file.specs.declared.class_file.FieldInfo.{FieldInfo}
use Rattle.jvms_file.specs.declared.class_file.MethodInfo.{MethodInfo}
use Rattle.jvms_file.specs.declared.class_file.ClassFile.{ClassFile}
use Rattle.jvms_file.specs.declared.insn.Insn.{Insn}
use Rattle.jvms_file.specs.declared.insn.Insn.TheVariants as insn
use Rattle.jvms_program.specs.declared.program.Loadable.{Loadable}
use Rattle.jvms_program.specs.declared.program.Loadable.TheVariants as loadable
use Rattle.jvms_program.specs.declared.program.Instruction.{Instruction}
use Rattle.jvms_program.specs.declared.program.Instruction.TheVariants as instruction
use Rattle.jvms_program.specs.declared.program.FieldReference.{FieldReference}
use Rattle.jvms_program.specs.declared.program.MethodReference.{MethodReference}
use Rattle.jvms_program.specs.declared.program.Catch.{Catch}
use Rattle.jvms_program.specs.declared.program.Catch.TheVariants as catch
use Rattle.jvms_program.specs.declared.program.ExceptionHandler.{ExceptionHandler}
use Rattle.jvms_program.specs.declared.program.Body.{Body}
use Rattle.jvms_program.specs.declared.program.Field.{Field}
use Rattle.jvms_program.specs.declared.program.MethodFlags.{MethodFlags}
use Rattle.jvms_program.specs.declared.program.Method.{Method}
use Rattle.jvms_program.specs.declared.program.ClassKind.{ClassKind}
use Rattle.jvms_program.specs.declared.program.ClassKind.TheVariants as kind
use Rattle.jvms_program.specs.declared.program.Class.{Class}
use Rattle.jvms_file.specs.Descriptors.{field_type, method_type}
use Rattle.jvms_file.specs.ConstantPool.{entry, utf8_at, class_name_at, name_and_type_at}
use Rattle.jvms_file.specs.Members.{is_private, is_static, is_synchronized, is_native, is_abstract, is_interface, is_initializer}

-- Returns the text of a number. In a class that bytes spell, each number that is looked up names what it has to. The
-- default for another number is never used.
abbrev pub text_of : List Constant → ℕ → List ℕ
text_of pool n = unwrap_or (utf8_at pool n) []

abbrev pub class_text : List Constant → ℕ → List ℕ
class_text pool n = unwrap_or (class_name_at pool n) []

-- ---- The items that an instruction names

abbrev pub loadable_of : List Constant → Option Constant → Loadable
loadable_of pool (Some (constant.Integer n)) = loadable.Integer n
loadable_of pool (Some (constant.Float n)) = loadable.Float n
loadable_of pool (Some (constant.Long n)) = loadable.Long n
loadable_of pool (Some (constant.Double n)) = loadable.Double n
loadable_of pool (Some (constant.String n)) = loadable.String (text_of pool n)
loadable_of pool (Some (constant.Class n)) = loadable.Class (text_of pool n)
loadable_of pool _ = loadable.Integer (pos 0)

abbrev pub name_and_type : List Constant → ℕ → List ℕ × List ℕ
name_and_type pool n = unwrap_or (name_and_type_at pool n) ([], [])

abbrev pub field_reference : List Constant → ℕ → ℕ → FieldReference
field_reference pool c n =
    record { class = class_text pool c; name = (name_and_type pool n).0; descriptor = (name_and_type pool n).1; field_type = field_type (name_and_type pool n).1 }

abbrev pub field_reference_of : List Constant → Option Constant → FieldReference
field_reference_of pool (Some (constant.Field c n)) = field_reference pool c n
field_reference_of pool _ = field_reference pool 0 0

abbrev pub method_reference : Bool → List Constant → ℕ → ℕ → MethodReference
method_reference interface pool c n =
    record { is_interface = interface; class = class_text pool c; name = (name_and_type pool n).0; descriptor = (name_and_type pool n).1; method_type = method_type (name_and_type pool n).1 }

abbrev pub method_reference_of : List Constant → Option Constant → MethodReference
method_reference_of pool (Some (constant.Method c n)) = method_reference false pool c n
method_reference_of pool (Some (constant.InterfaceMethod c n)) = method_reference true pool c n
method_reference_of pool _ = method_reference false pool 0 0

abbrev pub instruction_of : List Constant → Insn → Instruction
instruction_of pool (insn.Simple s) = instruction.Simple s
instruction_of pool (insn.Branch how target) = instruction.Branch how target
instruction_of pool (insn.Table s) = instruction.Table s
instruction_of pool (insn.Lookup s) = instruction.Lookup s
instruction_of pool (insn.Constant n) = instruction.Constant (loadable_of pool (entry pool n))
instruction_of pool (insn.Field how n) = instruction.Field how (field_reference_of pool (entry pool n))
instruction_of pool (insn.Invoke how n) = instruction.Invoke how (method_reference_of pool (entry pool n))
instruction_of pool (insn.Class how n) = instruction.Class how (class_text pool n)
instruction_of pool (insn.MultiNewArray n count) = instruction.MultiNewArray count (class_text pool n)

-- ---- Members

abbrev pub catch_of : List Constant → ℕ → Catch
catch_of pool n = if n == 0 then catch.All else catch.Class (class_text pool n)

abbrev pub handler_of : List Constant → Handler → ExceptionHandler
handler_of pool h = record { start = h.start; end = h.end; target = h.target; catch = catch_of pool h.catch_type }

abbrev pub body_of : List Constant → Code → Body
body_of pool c =
    record { max_stack = c.max_stack; max_locals = c.max_locals; instructions = map (instruction_of pool) c.insns; handlers = map (handler_of pool) c.handlers }

abbrev pub code_of : List MethodAttribute → Option Code
code_of [] = None
code_of (method_attribute.Code name c ∷ others) = Some c
code_of (method_attribute.Exceptions name classes ∷ others) = code_of others
code_of (method_attribute.Kept a ∷ others) = code_of others

-- Returns the classes of the first Exceptions attribute (JVMS 4.7.5), by their numbers.
abbrev pub exceptions_of : List MethodAttribute → List ℕ
exceptions_of [] = []
exceptions_of (method_attribute.Exceptions name classes ∷ others) = classes
exceptions_of (method_attribute.Code name c ∷ others) = exceptions_of others
exceptions_of (method_attribute.Kept a ∷ others) = exceptions_of others

abbrev pub throws_of : List Constant → List MethodAttribute → List (List ℕ)
throws_of pool attributes = map (class_text pool) (exceptions_of attributes)

-- Returns the flags of a method (JVMS 4.6). <clinit> keeps no flag: it is called as a static method that is neither
-- native, abstract nor synchronized.
abbrev pub flags_of : Bool → ℕ → MethodFlags
flags_of initializer access =
    record {
      is_static = not initializer && is_static access;
      is_private = not initializer && is_private access;
      is_synchronized = not initializer && is_synchronized access;
      is_native = not initializer && is_native access;
      is_abstract = not initializer && is_abstract access;
    }

abbrev pub method_of : List Constant → MethodInfo → Method
method_of pool m =
    record {
      name = text_of pool m.name;
      descriptor = text_of pool m.descriptor;
      method_type = method_type (text_of pool m.descriptor);
      flags = flags_of (is_initializer pool m.name) m.access;
      throws = throws_of pool m.attributes;
      body = option_map (body_of pool) (code_of m.attributes);
    }

abbrev pub constant_of : List Constant → List FieldAttribute → Option Loadable
constant_of pool [] = None
constant_of pool (field_attribute.ConstantValue name value ∷ others) = Some (loadable_of pool (entry pool value))
constant_of pool (field_attribute.Kept a ∷ others) = constant_of pool others

-- Returns a field of a class or an interface. The fields of an interface count as static.
abbrev pub field_of : List Constant → Bool → FieldInfo → Field
field_of pool interface f =
    record {
      name = text_of pool f.name;
      descriptor = text_of pool f.descriptor;
      field_type = field_type (text_of pool f.descriptor);
      is_static = interface || is_static f.access;
      is_private = is_private f.access;
      constant = constant_of pool f.attributes;
    }

abbrev pub kind_of : ℕ → ClassKind
kind_of access = if is_interface access then kind.Interface else (if is_abstract access then kind.Abstract else kind.Neither)

-- Returns the class of a program that a class file means.
unfoldable pub meaning : ClassFile → Class
meaning c =
    record {
      name = class_text c.pool c.this_class;
      kind = kind_of c.access;
      superclass = if c.super_class == 0 then None else Some (class_text c.pool c.super_class);
      interfaces = map (class_text c.pool) c.interfaces;
      fields = map (field_of c.pool (is_interface c.access)) c.fields;
      methods = map (method_of c.pool) c.methods;
    }
