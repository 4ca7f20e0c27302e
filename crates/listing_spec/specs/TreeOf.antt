-- Defines the tree of a source with the meaning of a class file. Each instruction is as it is spelled. A label `Ln`
-- precedes instruction n, or follows the last, if something refers to it.
use Rattle.std.specs.Prelude.{ℕ, suc, ◌+◌, Bool, true, false, not, ◌==◌, ◌||◌, if◌then◌else◌, List, [], ◌∷◌, ◌++◌, length, map, Option, Some, None, slice_get, Result, Ok, Err, ℤ, pos, neg_ℤ, codes, bit_and, bit_or}
use Rattle.std.specs.Option.{unwrap_or}
use Rattle.std.specs.List.{list_any}
use Rattle.std.specs.Fmt.{decimal}
use Rattle.jvms_file.specs.declared.class_file.Constant.{Constant}
use Rattle.jvms_file.specs.declared.class_file.Constant.TheVariants as constant
use Rattle.jvms_file.specs.declared.class_file.FieldAttribute.{FieldAttribute}
use Rattle.jvms_file.specs.declared.class_file.FieldAttribute.TheVariants as field_attribute
use Rattle.jvms_file.specs.declared.class_file.Handler.{Handler}
use Rattle.jvms_file.specs.declared.class_file.Layout.{Layout}
use Rattle.jvms_file.specs.declared.class_file.Code.{Code}
use Rattle.jvms_file.specs.declared.class_file.FieldInfo.{FieldInfo}
use Rattle.jvms_file.specs.declared.class_file.MethodInfo.{MethodInfo}
use Rattle.jvms_file.specs.declared.class_file.ClassFile.{ClassFile}
use Rattle.jvms_file.specs.declared.insn.TheConstants.{OPCODES}
use Rattle.jvms_file.specs.declared.insn.Opcode.{Opcode}
use Rattle.jvms_file.specs.declared.insn.Opcode.TheVariants as opcode
use Rattle.jvms_file.specs.declared.insn.Insn.{Insn}
use Rattle.jvms_file.specs.declared.insn.Insn.TheVariants as insn
use Rattle.jvms_file.specs.declared.insn.Simple.{Simple}
use Rattle.jvms_file.specs.declared.insn.Simple.TheVariants as simple
use Rattle.jvms_file.specs.declared.insn.Push.TheVariants as push
use Rattle.jvms_file.specs.declared.insn.ArrayInsn.TheVariants as array_insn
use Rattle.jvms_file.specs.declared.insn.SwitchCase.{SwitchCase}
use Rattle.jvms_file.specs.declared.insn.TableSwitch.{TableSwitch}
use Rattle.jvms_file.specs.declared.insn.LookupSwitch.{LookupSwitch}
use Rattle.jvms_file.specs.ConstantPool.{entry}
use Rattle.jvms_file.specs.Members.{is_interface}
use Rattle.jvms_file.specs.Results.{◌>>=◌, want, results_of}
use Rattle.jvms_program.specs.declared.program.FieldReference.{FieldReference}
use Rattle.jvms_program.specs.declared.program.MethodReference.{MethodReference}
use Rattle.jvms_program.specs.Meaning.{text_of, class_text, field_reference_of, method_reference_of, code_of, throws_of}
use Rattle.jasmin.specs.declared.source.LoadedConstant.{LoadedConstant}
use Rattle.jasmin.specs.declared.source.LoadedConstant.TheVariants as loaded
use Rattle.jasmin.specs.declared.source.ConstantWidth.{ConstantWidth}
use Rattle.jasmin.specs.declared.source.ConstantWidth.TheVariants as constant_width
use Rattle.jasmin.specs.declared.source.BranchWidth.TheVariants as branch_width
use Rattle.jasmin.specs.declared.source.MatchLine.{MatchLine}
use Rattle.jasmin.specs.declared.source.Operation.{Operation}
use Rattle.jasmin.specs.declared.source.Operation.TheVariants as operation
use Rattle.jasmin.specs.declared.source.CodeItem.{CodeItem}
use Rattle.jasmin.specs.declared.source.CodeItem.TheVariants as item
use Rattle.jasmin.specs.declared.source.Caught.{Caught}
use Rattle.jasmin.specs.declared.source.Caught.TheVariants as caught
use Rattle.jasmin.specs.declared.source.CatchLine.{CatchLine}
use Rattle.jasmin.specs.declared.source.FieldConstant.{FieldConstant}
use Rattle.jasmin.specs.declared.source.FieldConstant.TheVariants as field_constant
use Rattle.jasmin.specs.declared.source.FieldLine.{FieldLine}
use Rattle.jasmin.specs.declared.source.MethodLines.{MethodLines}
use Rattle.jasmin.specs.declared.source.Source.{Source}
use Rattle.assembly.specs.Sizes.{is_between}
use Rattle.listing_spec.specs.declared.fault.ListFault.{ListFault}
use Rattle.listing_spec.specs.declared.fault.ListFault.TheVariants as fault

-- ---- Labels

-- Returns the label of a place.
unfoldable pub label_of : ℕ → List ℕ
label_of place = 76 ∷ decimal place

-- Returns the places that an instruction may jump to.
abbrev pub targets_of : Insn → List ℕ
targets_of (insn.Branch how target) = target ∷ []
targets_of (insn.Table s) = s.default ∷ s.targets
targets_of (insn.Lookup s) = s.default ∷ map (λ c. c.target) s.cases
targets_of _ = []

abbrev pub is_bound : ℕ → Handler → Bool
is_bound place h = h.start == place || (h.end == place || h.target == place)

-- Decides whether an instruction or a handler of code refers to a place.
abbrev pub is_referred : Code → ℕ → Bool
is_referred c place = list_any (λ i. list_any (λ t. t == place) (targets_of i)) c.insns || list_any (is_bound place) c.handlers

-- ---- Instructions

-- Returns the opcode of the instruction that starts at a byte. After `wide`, it is that of the instruction that `wide`
-- modifies.
abbrev pub opcode_at : List ℕ → ℕ → ℕ
opcode_at bytes pc = behind_wide (unwrap_or (slice_get bytes pc) 0)
  where
    behind_wide : ℕ → ℕ
    behind_wide code = if code == 196 then unwrap_or (slice_get bytes (suc pc)) 0 else code

-- Returns the constant that an ldc loads. A float has no spelling.
abbrev pub loaded_of : List Constant → Option Constant → Result LoadedConstant ListFault
loaded_of pool (Some (constant.Integer n)) = Ok (loaded.Integer n)
loaded_of pool (Some (constant.String text)) = Ok (loaded.String (text_of pool text))
loaded_of pool (Some (constant.Class name)) = Ok (loaded.Class (text_of pool name))
loaded_of pool _ = Err fault.Float

-- Returns the constant that an ldc2_w loads. A double has no spelling.
abbrev pub long_of : Option Constant → Result Operation ListFault
long_of (Some (constant.Long n)) = Ok (operation.ConstantLong n)
long_of _ = Err fault.Float

abbrev pub constant_operation : List Constant → ConstantWidth → ℕ → Result Operation ListFault
constant_operation pool width n = do
  c ← loaded_of pool (entry pool n)
  Ok (operation.Constant width c)

-- Returns the operation of an instruction that names neither a pool entry nor a place, by the form of its opcode. The
-- value for a form that isn't the instruction's isn't used.
abbrev pub simple_operation : ℕ → Opcode → Simple → Operation
simple_operation code opcode.PushByte (simple.Push (push.Int n)) =
    if is_between (neg_ℤ (pos 128)) (pos 127) n then operation.PushByte n else operation.Alone code
simple_operation code opcode.PushShort (simple.Push (push.Int n)) = operation.PushShort n
simple_operation code (opcode.Local how) (simple.Local other n) = operation.Local how n
simple_operation code opcode.Increment (simple.Increment n by) = operation.Increment n by
simple_operation code opcode.NewArray (simple.Array (array_insn.New type)) = operation.NewArray type
simple_operation code form s = operation.Alone code

abbrev pub match_of : SwitchCase → MatchLine
match_of c = record { value = c.value; label = label_of c.target }

-- Returns an instruction as it is spelled, by its opcode and the opcode's form.
unfoldable pub operation_with : List Constant → ℕ → Opcode → Insn → Result Operation ListFault
operation_with pool code form (insn.Simple s) = Ok (simple_operation code form s)
operation_with pool code opcode.Constant (insn.Constant n) = constant_operation pool constant_width.AsNeeded n
operation_with pool code opcode.ConstantWide (insn.Constant n) = constant_operation pool constant_width.Wide n
operation_with pool code form (insn.Constant n) = long_of (entry pool n)
operation_with pool code (opcode.BranchWide how) (insn.Branch other target) = Ok (operation.Branch branch_width.Wide how (label_of target))
operation_with pool code form (insn.Branch how target) = Ok (operation.Branch branch_width.Short how (label_of target))
operation_with pool code form (insn.Table s) =
    Ok (operation.Table (record { low = s.low; labels = map label_of s.targets; default = label_of s.default }))
operation_with pool code form (insn.Lookup s) =
    Ok (operation.Lookup (record { matches = map match_of s.cases; default = label_of s.default }))
operation_with pool code form (insn.Field how n) =
    let f = field_reference_of pool (entry pool n) in
    Ok (operation.Field how (record { class = f.class; name = f.name; descriptor = f.descriptor }))
operation_with pool code form (insn.Invoke how n) =
    let m = method_reference_of pool (entry pool n) in
    Ok (operation.Invoke how (record { class = m.class; name = m.name; descriptor = m.descriptor }))
operation_with pool code form (insn.Class how n) = Ok (operation.Class how (class_text pool n))
operation_with pool code form (insn.MultiNewArray n count) = Ok (operation.MultiNewArray (class_text pool n) count)

abbrev pub operation_of : List Constant → List ℕ → ℕ → Insn → Result Operation ListFault
operation_of pool bytes pc i =
    operation_with pool (opcode_at bytes pc) (unwrap_or (slice_get OPCODES (opcode_at bytes pc)) opcode.Reserved) i

-- ---- Code

-- Returns the label of a place, if something refers to it.
abbrev pub label_items : Code → ℕ → List CodeItem
label_items c place = if is_referred c place then item.Label (label_of place) ∷ [] else []

-- Appends the items of instructions from a place on to those before. The instructions start at bytes `pcs`.
unfoldable pub items_onto : List Constant → Code → List CodeItem → ℕ → List ℕ → List Insn → Result (List CodeItem) ListFault
items_onto pool c seen place (pc ∷ pcs) (i ∷ is) = do
  o ← operation_of pool c.layout.bytes pc i
  items_onto pool c ((seen ++ label_items c place) ++ item.Operation o ∷ []) (suc place) pcs is
items_onto pool c seen place _ _ = Ok (seen ++ label_items c place)

abbrev pub caught_of : List Constant → ℕ → Caught
caught_of pool n = if n == 0 then caught.All else caught.Class (class_text pool n)

abbrev pub catch_of : List Constant → Handler → CatchLine
catch_of pool h =
    record { caught = caught_of pool h.catch_type; from = label_of h.start; to = label_of h.end; using = label_of h.target }

-- ---- Members

-- Returns the constant of a field. A float or a double has no spelling.
abbrev pub value_of : List Constant → Option Constant → Result FieldConstant ListFault
value_of pool (Some (constant.Integer n)) = Ok (field_constant.Integer n)
value_of pool (Some (constant.Long n)) = Ok (field_constant.Long n)
value_of pool (Some (constant.String text)) = Ok (field_constant.String (text_of pool text))
value_of pool _ = Err fault.Float

unfoldable pub field_value : List Constant → List FieldAttribute → Result (Option FieldConstant) ListFault
field_value pool [] = Ok None
field_value pool (field_attribute.ConstantValue name value ∷ others) = do
  v ← value_of pool (entry pool value)
  Ok (Some v)
field_value pool (field_attribute.Kept a ∷ others) = field_value pool others

-- Returns the flags that have access words of fields (JVMS table 4.5-A): 1, 2, 4, 8, 16, 64, 128.
abbrev pub field_flags : ℕ → ℕ
field_flags access = bit_and access 223

unfoldable pub field_line : List Constant → FieldInfo → Result FieldLine ListFault
field_line pool f = do
  value ← field_value pool f.attributes
  Ok (record { access = field_flags f.access; name = text_of pool f.name; descriptor = text_of pool f.descriptor; constant = value })

-- Returns the flags that have access words of methods (JVMS table 4.6-A): 1, 2, 4, 8, 16, 32, 256, 1024.
abbrev pub method_flags : ℕ → ℕ
method_flags access = bit_and access 1343

-- Returns a method's lines. A method without code has limits of 1, as if none is written.
abbrev pub method_with : List Constant → MethodInfo → ℕ → ℕ → List CatchLine → List CodeItem → MethodLines
method_with pool m max_stack max_locals catches code =
    record { access = method_flags m.access; name = text_of pool m.name; descriptor = text_of pool m.descriptor; throws = throws_of pool m.attributes; max_stack = max_stack; max_locals = max_locals; catches = catches; code = code }

unfoldable pub method_lines : List Constant → MethodInfo → Result MethodLines ListFault
method_lines pool m = of_code (code_of m.attributes)
  where
    of_code : Option Code → Result MethodLines ListFault
    of_code None = Ok (method_with pool m 1 1 [] [])
    of_code (Some c) = do
      items ← items_onto pool c [] 0 c.layout.starts c.insns
      Ok (method_with pool m c.max_stack c.max_locals (map (catch_of pool) c.handlers) items)

-- ---- The class

-- Returns the flags that `.class` or `.interface` spells (JVMS table 4.1-A). A class has 1, 16 and 1024 if they are
-- set, and 32. An interface has 1, 16 and 32 if they are set, and 512 and 1024.
abbrev pub class_flags : ℕ → ℕ
class_flags access = if is_interface access then bit_or (bit_and access 49) 1536 else bit_or (bit_and access 1041) 32

-- Returns the tree of a class file that has a superclass.
unfoldable pub tree_of : ClassFile → Result Source ListFault
tree_of c = do
  _ ← want (not (c.super_class == 0)) fault.Name
  fields ← results_of (field_line c.pool) c.fields
  methods ← results_of (method_lines c.pool) c.methods
  Ok (record { access = class_flags c.access; name = class_text c.pool c.this_class; superclass = class_text c.pool c.super_class; interfaces = map (class_text c.pool) c.interfaces; fields = fields; methods = methods })
