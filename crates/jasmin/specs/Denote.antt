-- Defines the meaning of a source: a class of a program, in which a label is the number of instructions before it.
use Rattle.std.specs.Prelude.{ℕ, suc, Bool, true, false, not, ◌||◌, if◌then◌else◌, List, [], ◌∷◌, map, Option, Some, None, slice_get}
use Rattle.std.specs.Option.{option_map, unwrap_or}
use Rattle.jvms_file.specs.Names.{same_text, is_initializer_name}
use Rattle.jvms_file.specs.Descriptors.{field_type, method_type}
use Rattle.jvms_file.specs.Members.{is_private, is_static, is_native, is_abstract, is_interface}
use Rattle.jvms_file.specs.declared.insn.Invoke.{Invoke}
use Rattle.jvms_file.specs.declared.insn.Invoke.TheVariants as invoke
use Rattle.jvms_file.specs.declared.insn.TheConstants.{OPCODES}
use Rattle.jvms_file.specs.declared.insn.Opcode.{Opcode}
use Rattle.jvms_file.specs.declared.insn.Opcode.TheVariants as opcode
use Rattle.jvms_file.specs.declared.insn.Simple.{Simple}
use Rattle.jvms_file.specs.declared.insn.Simple.TheVariants as simple
use Rattle.jvms_file.specs.declared.insn.Push.TheVariants as push
use Rattle.jvms_file.specs.declared.insn.ArrayInsn.TheVariants as array_insn
use Rattle.jvms_file.specs.declared.insn.SwitchCase.{SwitchCase}
use Rattle.jvms_program.specs.declared.program.Loadable.{Loadable}
use Rattle.jvms_program.specs.declared.program.Loadable.TheVariants as loadable
use Rattle.jvms_program.specs.declared.program.Instruction.{Instruction}
use Rattle.jvms_program.specs.declared.program.Instruction.TheVariants as instruction
use Rattle.jvms_program.specs.declared.program.Catch.{Catch}
use Rattle.jvms_program.specs.declared.program.Catch.TheVariants as catch
use Rattle.jvms_program.specs.declared.program.ExceptionHandler.{ExceptionHandler}
use Rattle.jvms_program.specs.declared.program.Body.{Body}
use Rattle.jvms_program.specs.declared.program.Field.{Field}
use Rattle.jvms_program.specs.declared.program.Method.{Method}
use Rattle.jvms_program.specs.declared.program.Class.{Class}
use Rattle.jvms_program.specs.Meaning.{flags_of, kind_of}
use Rattle.jasmin.specs.declared.source.LoadedConstant.{LoadedConstant}
use Rattle.jasmin.specs.declared.source.LoadedConstant.TheVariants as loaded
use Rattle.jasmin.specs.declared.source.MatchLine.{MatchLine}
use Rattle.jasmin.specs.declared.source.Operation.{Operation}
use Rattle.jasmin.specs.declared.source.Operation.TheVariants as operation
use Rattle.jasmin.specs.declared.source.CodeItem.{CodeItem}
use Rattle.jasmin.specs.declared.source.CodeItem.TheVariants as item
use Rattle.jasmin.specs.declared.source.Caught.{Caught}
use Rattle.jasmin.specs.declared.source.Caught.TheVariants as caught
use Rattle.jasmin.specs.declared.source.CatchLine.{CatchLine}
use Rattle.jasmin.specs.declared.source.FieldConstant.{FieldConstant}
use Rattle.jasmin.specs.declared.source.FieldConstant.TheVariants as constant
use Rattle.jasmin.specs.declared.source.FieldLine.{FieldLine}
use Rattle.jasmin.specs.declared.source.MethodLines.{MethodLines}
use Rattle.jasmin.specs.declared.source.Source.{Source}

-- ---- Labels

-- Returns the number of instructions before a label, if it is defined.
abbrev pub label_place : List CodeItem → List ℕ → Option ℕ
label_place [] label = None
label_place (item.Label name ∷ items) label = if same_text name label then Some 0 else label_place items label
label_place (item.Operation o ∷ items) label = option_map suc (label_place items label)

-- Returns the place of a label, or 0 for an undefined one, which no assembled source refers to.
abbrev pub target : List CodeItem → List ℕ → ℕ
target items label = unwrap_or (label_place items label) 0

-- Returns the instructions of code, without its labels.
abbrev pub operations : List CodeItem → List Operation
operations [] = []
operations (item.Label name ∷ items) = operations items
operations (item.Operation o ∷ items) = o ∷ operations items

-- ---- Instructions

-- Returns the instruction of an opcode without operands. The value for any other opcode isn't used.
abbrev pub simple_of : ℕ → Simple
simple_of code = of_form (slice_get OPCODES code)
  where
    of_form : Option Opcode → Simple
    of_form (Some (opcode.Alone s)) = s
    of_form _ = simple.Nop

abbrev pub loaded_constant : LoadedConstant → Loadable
loaded_constant (loaded.Integer n) = loadable.Integer n
loaded_constant (loaded.String text) = loadable.String text
loaded_constant (loaded.Class name) = loadable.Class name

-- Decides whether an invoke instruction names a method of an interface. Only invokeinterface does.
abbrev pub names_interface : Invoke → Bool
names_interface invoke.Interface = true
names_interface _ = false

abbrev pub switch_case : List CodeItem → MatchLine → SwitchCase
switch_case items line = record { value = line.value; target = target items line.label }

abbrev pub instruction_of : List CodeItem → Operation → Instruction
instruction_of items (operation.Alone code) = instruction.Simple (simple_of code)
instruction_of items (operation.PushByte n) = instruction.Simple (simple.Push (push.Int n))
instruction_of items (operation.PushShort n) = instruction.Simple (simple.Push (push.Int n))
instruction_of items (operation.Constant width c) = instruction.Constant (loaded_constant c)
instruction_of items (operation.ConstantLong n) = instruction.Constant (loadable.Long n)
instruction_of items (operation.Local how n) = instruction.Simple (simple.Local how n)
instruction_of items (operation.Increment n by) = instruction.Simple (simple.Increment n by)
instruction_of items (operation.Branch width how label) = instruction.Branch how (target items label)
instruction_of items (operation.Table lines) =
    instruction.Table (record { default = target items lines.default; low = lines.low; targets = map (target items) lines.labels })
instruction_of items (operation.Lookup lines) =
    instruction.Lookup (record { default = target items lines.default; cases = map (switch_case items) lines.matches })
instruction_of items (operation.Field how f) =
    instruction.Field how (record { class = f.class; name = f.name; descriptor = f.descriptor; field_type = field_type f.descriptor })
instruction_of items (operation.Invoke how m) =
    instruction.Invoke how (record { is_interface = names_interface how; class = m.class; name = m.name; descriptor = m.descriptor; method_type = method_type m.descriptor })
instruction_of items (operation.Class how name) = instruction.Class how name
instruction_of items (operation.NewArray type) = instruction.Simple (simple.Array (array_insn.New type))
instruction_of items (operation.MultiNewArray name count) = instruction.MultiNewArray count name

-- ---- Members

abbrev pub catch_of : Caught → Catch
catch_of caught.All = catch.All
catch_of (caught.Class name) = catch.Class name

abbrev pub handler_of : List CodeItem → CatchLine → ExceptionHandler
handler_of items line =
    record { start = target items line.from; end = target items line.to; target = target items line.using; catch = catch_of line.caught }

-- Decides whether a method has code. A native or abstract method has none, whatever its lines contain. `<clinit>` has
-- code whatever its flags.
abbrev pub has_code : List ℕ → ℕ → Bool
has_code name access = is_initializer_name name || not (is_native access || is_abstract access)

abbrev pub body_of : MethodLines → Option Body
body_of m =
    if has_code m.name m.access
    then Some (record { max_stack = m.max_stack; max_locals = m.max_locals; instructions = map (instruction_of m.code) (operations m.code); handlers = map (handler_of m.code) m.catches })
    else None

abbrev pub method_of : MethodLines → Method
method_of m =
    record {
      name = m.name;
      descriptor = m.descriptor;
      method_type = method_type m.descriptor;
      flags = flags_of (is_initializer_name m.name) m.access;
      throws = m.throws;
      body = body_of m;
    }

abbrev pub constant_of : FieldConstant → Loadable
constant_of (constant.Integer n) = loadable.Integer n
constant_of (constant.Long n) = loadable.Long n
constant_of (constant.String text) = loadable.String text

-- Returns the field that a line declares. The fields of an interface count as static.
abbrev pub field_of : Bool → FieldLine → Field
field_of interface f =
    record {
      name = f.name;
      descriptor = f.descriptor;
      field_type = field_type f.descriptor;
      is_static = interface || is_static f.access;
      is_private = is_private f.access;
      constant = option_map constant_of f.constant;
    }

-- Returns the class that a source denotes.
unfoldable pub denote : Source → Class
denote s =
    record {
      name = s.name;
      kind = kind_of s.access;
      superclass = Some s.superclass;
      interfaces = s.interfaces;
      fields = map (field_of (is_interface s.access)) s.fields;
      methods = map method_of s.methods;
    }
