-- Objects, classes and the output, as the debugger writes them (own).
use Rattle.std.specs.Prelude.{ℕ, ◌/◌, ◌%◌, List, [], ◌∷◌, ◌++◌, codes, length, Option, Some, None, slice_get, unwrap_or}
use Rattle.std.specs.Fmt.{decimal}
use Rattle.std.specs.List.{enumerate_from, filter, flat_map}
use Rattle.escapes.specs.Escapes.{hexadecimal, name_text}
use Rattle.escapes.specs.Keys.{field_text}
use Rattle.jvms_machine.specs.declared.state.Hold.{Hold}
use Rattle.jvms_machine.specs.declared.state.Initialisation.{Initialisation}
use Rattle.jvms_machine.specs.declared.state.Initialisation.TheVariants as initialisation
use Rattle.jvms_machine.specs.declared.value.Value.{Value}
use Rattle.jvms_machine.specs.declared.value.Value.TheVariants as value
use Rattle.jvms_machine.specs.Heap.{value_of}
use Rattle.jvms_machine.specs.Waiting.{waiters_of}
use Rattle.jvms_machine.specs.State.{Object, instance, array, text, class_object, keys, monitor_at, object_at}
use Rattle.jvms_program.specs.declared.key.FieldKey.{FieldKey}
use Rattle.jvms_program.specs.declared.program.Class.{Class}
use Rattle.jvms_program.specs.Program.{field_key}
use Rattle.machine.specs.Machine.{Machine}
use Rattle.machine_text.specs.Values.{value_text}

-- ---- Fields

-- Returns the line `C.x.D = V` of a field, with its value in a list of fields.
abbrev pub field_line : List (FieldKey × Value) → FieldKey → List ℕ
field_line fields key = field_text key ++ codes " = " ++ value_text (unwrap_or (value_of key fields) value.Unset) ++ codes "\n"

-- ---- Objects

-- Returns the line `[i] = V` of an array's element.
abbrev pub element_line : ℕ × Value → List ℕ
element_line e = codes "[" ++ decimal e.0 ++ codes "] = " ++ value_text e.1 ++ codes "\n"

-- Returns the lines of an object, after its reference and a space. An instance has a line for each field, those of
-- superclasses first, and an array has one for each element.
abbrev pub object_lines : Object → List ℕ
object_lines (instance class fields) = name_text class ++ codes "\n" ++ flat_map (field_line fields) (keys fields)
object_lines (array class elements) =
    name_text class ++ codes " " ++ decimal (length elements) ++ codes "\n" ++ flat_map element_line (enumerate_from 0 elements)
object_lines (text units) = codes "text \"" ++ name_text units ++ codes "\"\n"
object_lines (class_object name) = codes "class " ++ name_text name ++ codes "\n"

-- Returns the line `owned by T count N` of a held monitor.
abbrev pub hold_line : Option Hold → List ℕ
hold_line None = []
hold_line (Some hold) = codes "owned by " ++ decimal hold.owner ++ codes " count " ++ decimal hold.count ++ codes "\n"

abbrev pub waiter_text : ℕ → List ℕ
waiter_text thread = codes " " ++ decimal thread

-- Returns the line `waiting T T ..` of the threads that wait, the longest wait first. It is empty if none waits.
abbrev pub waiting_line : List ℕ → List ℕ
waiting_line [] = []
waiting_line (t ∷ threads) = codes "waiting" ++ flat_map waiter_text (t ∷ threads) ++ codes "\n"

abbrev pub lines_of : Machine → ℕ → Option Object → List ℕ
lines_of m r None = []
lines_of m r (Some object) =
    codes "R:" ++ decimal r ++ codes " " ++ object_lines object ++ hold_line (monitor_at m.state.monitors r)
    ++ waiting_line (waiters_of r m.state.waiters)

-- Returns the text of the object of a reference.
abbrev pub object_text : Machine → ℕ → List ℕ
object_text m r = lines_of m r (object_at m.state.heap r)

-- ---- Classes

abbrev pub initialisation_text : Initialisation → List ℕ
initialisation_text initialisation.NotBegun = codes " new"
initialisation_text (initialisation.InProgress thread) = codes " init by " ++ decimal thread
initialisation_text initialisation.Done = codes " done"
initialisation_text initialisation.Erroneous = codes " erroneous"

abbrev pub class_lines : Machine → ℕ → Option Class → List ℕ
class_lines m c None = []
class_lines m c (Some class) =
    codes "class " ++ name_text class.name ++ initialisation_text (unwrap_or (slice_get m.state.initialisations c) initialisation.NotBegun) ++ codes "\n"
    ++ flat_map (λ f. field_line m.state.statics (field_key class f)) (filter (λ f. f.is_static) class.fields)

-- Returns the text of the class of a number, with each static field that it declares.
abbrev pub class_text : Machine → ℕ → List ℕ
class_text m c = class_lines m c (slice_get m.program c)

-- ---- The output

abbrev pub byte_text : ℕ → List ℕ
byte_text b = hexadecimal (b / 16) ∷ hexadecimal (b % 16) ∷ []

abbrev pub bytes_text : List ℕ → List ℕ
bytes_text [] = []
bytes_text (b ∷ bytes) = codes " " ++ flat_map byte_text (b ∷ bytes)

-- Returns the line `output N`, followed by the bytes in hexadecimal, if there are any.
abbrev pub output_text : Machine → List ℕ
output_text m = codes "output " ++ decimal (length m.state.output) ++ bytes_text m.state.output ++ codes "\n"
