-- The reads and writes of a turn, by the states before and after it (JVMS 6.5 `getfield`, `getstatic`, `putfield`,
-- `putstatic`, and the loads and stores of arrays). Each is of a load or store that succeeds.
use Rattle.std.specs.Prelude.{Bool, Err, List, None, Ok, Option, Result, Some, [], drop, false, if◌then◌else◌, slice_get, true, unsigned_abs, ℕ, ◌∷◌}
use Rattle.jvms_file.specs.declared.descriptor.FieldType.{FieldType}
use Rattle.jvms_file.specs.declared.insn.ArrayInsn.{ArrayInsn}
use Rattle.jvms_file.specs.declared.insn.ArrayInsn.TheVariants as array_insn
use Rattle.jvms_file.specs.declared.insn.FieldUse.{FieldUse}
use Rattle.jvms_file.specs.declared.insn.FieldUse.TheVariants as field_use
use Rattle.jvms_file.specs.declared.insn.Simple.TheVariants as simple
use Rattle.jvms_program.specs.BuiltIn.{is_built_in}
use Rattle.jvms_program.specs.Program.{field_key}
use Rattle.jvms_program.specs.Resolution.{ResolvedField, is_static_use, resolved_field}
use Rattle.jvms_program.specs.declared.key.FieldKey.{FieldKey}
use Rattle.jvms_program.specs.declared.program.Class.{Class}
use Rattle.jvms_program.specs.declared.program.Instruction.{Instruction}
use Rattle.jvms_program.specs.declared.program.Instruction.TheVariants as instruction
use Rattle.jvms_program.specs.declared.thrown.Thrown.{Thrown}
use Rattle.jvms_machine.specs.Arrays.{element_size}
use Rattle.jvms_machine.specs.Fields.{object_of_use}
use Rattle.jvms_machine.specs.State.{MethodFrame, State}
use Rattle.jvms_machine.specs.Steps.{instruction_at}
use Rattle.jvms_machine.specs.declared.trace.Item.{Item}
use Rattle.jvms_machine.specs.declared.trace.Item.TheVariants as item
use Rattle.jvms_machine.specs.declared.trace.Variable.{Variable}
use Rattle.jvms_machine.specs.declared.trace.Variable.TheVariants as variable
use Rattle.jvms_machine.specs.declared.value.Value.{Value}
use Rattle.jvms_machine.specs.declared.value.Value.TheVariants as value
use Rattle.turn_item_laws.specs.Progress.{has_continued, next_call}

abbrev pub is_access : Item → Bool
is_access (item.Read t v) = true
is_access (item.Write t v) = true
is_access _ = false

-- Returns the item of a field's access, or none if the field is of a built-in class.
abbrev pub of_program : FieldKey → Item → List Item
of_program key i = if is_built_in key.class then [] else i ∷ []

-- Returns the item of an access to a field of the object in a reference.
abbrev pub of_object : FieldKey → (Variable → Item) → Option Value → List Item
of_object key make (Some (value.Reference r)) = of_program key (make (variable.Instance r key))
of_object key make o = []

-- Returns the item of a field instruction. The object of `getfield` is the topmost operand, and that of `putfield` is
-- below the slots of the value.
abbrev pub field_access : ℕ → FieldUse → FieldType → FieldKey → List Value → List Item
field_access t field_use.GetStatic type key operands = of_program key (item.Read t (variable.Static key))
field_access t field_use.PutStatic type key operands = of_program key (item.Write t (variable.Static key))
field_access t field_use.Get type key operands = of_object key (λ v. item.Read t v) (object_of_use field_use.Get type operands)
field_access t field_use.Put type key operands = of_object key (λ v. item.Write t v) (object_of_use field_use.Put type operands)

-- Returns the item of a field instruction with a resolved reference. The key has the class that declares the field.
abbrev pub resolved_access : ℕ → FieldUse → FieldType → List Value → Result ResolvedField Thrown → List Item
resolved_access t how type operands (Err class) = []
resolved_access t how type operands (Ok found) = field_access t how type (field_key found.class found.field) operands

-- Returns the item of an access to an array's element. The index is the topmost of these operands, and the array is
-- below it.
abbrev pub of_element : (Variable → Item) → List Value → List Item
of_element make (value.Int n ∷ value.Reference r ∷ below) = make (variable.Element r (unsigned_abs n)) ∷ []
of_element make operands = []

-- Returns the item of an array instruction. A load has index and array as its topmost operands, and a store has them
-- below the slots of its value.
abbrev pub array_access : ℕ → ArrayInsn → List Value → List Item
array_access t (array_insn.Load k) operands = of_element (λ v. item.Read t v) operands
array_access t (array_insn.Store k) operands = of_element (λ v. item.Write t v) (drop (element_size k) operands)
array_access t i operands = []

-- Returns the reads and writes of an instruction with these operands, if it succeeds.
abbrev pub access_of : List Class → ℕ → List Value → Option Instruction → List Item
access_of program t operands (Some (instruction.Field how r)) =
    resolved_access t how r.field_type operands (resolved_field program (is_static_use how) r)
access_of program t operands (Some (instruction.Simple (simple.Array i))) = array_access t i operands
access_of program t operands i = []

abbrev pub access_of_call : List Class → ℕ → Option MethodFrame → List Item
access_of_call program t None = []
access_of_call program t (Some f) = access_of program t f.activation.operands (instruction_at f)

-- Returns the reads and writes of thread t: those of its call's instruction, if the call continues after it.
abbrev pub accesses_between : List Class → ℕ → State → State → List Item
accesses_between program t before after =
    if has_continued t before after then access_of_call program t (next_call (slice_get before.threads t)) else []
