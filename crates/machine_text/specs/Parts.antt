-- The texts that the functions of this crate append, by the machine's parts that they read.
use Rattle.std.specs.Prelude.{◌≡◌, ℕ, Bool, not, List, [], ◌++◌, codes, length, Option, Some, None}
use Rattle.std.specs.Fmt.{decimal}
use Rattle.std.specs.List.{filter, flat_map}
use Rattle.std.specs.Option.{option_and_then}
use Rattle.jvms_machine.specs.declared.value.Value.{Value}
use Rattle.jvms_machine.specs.State.{Object, Frame, Thread, instance, array, text, class_object, object_at}
use Rattle.jvms_program.specs.declared.key.FieldKey.{FieldKey}
use Rattle.jvms_program.specs.declared.program.Class.{Class}
use Rattle.jvms_program.specs.declared.program.Field.{Field}
use Rattle.jvms_program.specs.Program.{field_key}
use Rattle.machine.specs.Machine.{Machine, transition_of}
use Rattle.machine.specs.Views.{frame_at, thread_at}
use Rattle.machine_text.specs.declared.fields.Keeper.{Keeper}
use Rattle.machine_text.specs.declared.fields.Keeper.TheVariants as keeper
use Rattle.machine_text.specs.declared.object.ObjectView.{ObjectView}
use Rattle.machine_text.specs.declared.object.ObjectView.TheVariants as view
use Rattle.machine_text.specs.Objects.{field_line}
use Rattle.machine_text.specs.Outcomes.{outcome_text}
use Rattle.machine_text.specs.Threads.{pending_text, top_text}

-- Returns the text of an optional value, or nothing.
abbrev pub if_there : {X : Type 0} → (X → List ℕ) → Option X → List ℕ
if_there text_of None = []
if_there text_of (Some x) = text_of x

-- ---- Threads

-- Returns the line of a thread, by its parts.
abbrev pub line_of_thread : Machine → ℕ → List ℕ
line_of_thread m t =
    codes "thread " ++ decimal t ++ codes " " ++ outcome_text m.program (transition_of m t).outcome
    ++ top_text m.program (frame_at m t 0) ++ pending_text (option_and_then (λ x. x.pending) (thread_at m t)) ++ codes "\n"

-- Returns the frames of a thread, if it was started.
abbrev pub frames_of : Option Thread → List Frame
frames_of None = []
frames_of (Some thread) = thread.frames

-- ---- Objects

-- Returns the elements of an array. Another object has none.
abbrev pub elements_of : Option Object → List Value
elements_of (Some (array class elements)) = elements
elements_of _ = []

abbrev pub elements_at : Machine → ℕ → List Value
elements_at m r = elements_of (object_at m.state.heap r)

-- Returns the fields of an instance. Another object has none.
abbrev pub fields_of : Option Object → List (FieldKey × Value)
fields_of (Some (instance class fields)) = fields
fields_of _ = []

abbrev pub fields_at : Machine → ℕ → List (FieldKey × Value)
fields_at m r = fields_of (object_at m.state.heap r)

-- The view shows the object.
abbrev pub Shows : Option ObjectView → Option Object → Type 0
Shows None o = o ≡ None
Shows (Some (view.Instance class)) o = (fields : List (FieldKey × Value)) × (o ≡ Some (instance class.now fields))
Shows (Some (view.Array class count)) o =
    (elements : List Value) × (o ≡ Some (array class.now elements)) × (count ≡ length elements)
Shows (Some (view.Text units)) o = o ≡ Some (text units.now)
Shows (Some (view.ClassObject name)) o = o ≡ Some (class_object name.now)

-- ---- Fields

-- Decides whether a field is one of the keeper's.
abbrev pub is_in : Keeper → Field → Bool
is_in keeper.Classes f = f.is_static
is_in (keeper.Instance r) f = not f.is_static

-- Returns the fields of the keeper, with their values.
abbrev pub fields_in : Machine → Keeper → List (FieldKey × Value)
fields_in m keeper.Classes = m.state.statics
fields_in m (keeper.Instance r) = fields_at m r

-- Returns the lines of a class's fields that are the keeper's.
abbrev pub fields_text : Machine → Keeper → Class → List ℕ
fields_text m k class = flat_map (λ f. field_line (fields_in m k) (field_key class f)) (filter (is_in k) class.fields)
