-- The opening of a machine, or the reason for which there is none.
use Rattle.std.specs.Prelude.{Bool, ◌&&◌, if◌then◌else◌, List, [], ◌∷◌, map, Option, Some, None, codes, Result, Ok, Err}
use Rattle.jvms_machine.specs.declared.value.Value.{Value}
use Rattle.jvms_machine.specs.declared.value.Value.TheVariants as value
use Rattle.jvms_machine.specs.declared.machine.Entry.{Entry}
use Rattle.jvms_machine.specs.declared.machine.Limits.{Limits}
use Rattle.jvms_machine.specs.declared.state.Initialisation.{Initialisation}
use Rattle.jvms_machine.specs.declared.state.Initialisation.TheVariants as initialisation
use Rattle.jvms_program.specs.declared.program.Class.{Class}
use Rattle.jvms_program.specs.declared.key.FieldKey.{FieldKey}
use Rattle.jvms_file.specs.Names.{same_text}
use Rattle.jvms_program.specs.BuiltIn.{is_built_in}
use Rattle.jvms_machine.specs.State.{State, Object, array, first_instance, static_fields, new_thread}
use Rattle.jvms_machine.specs.Start.{Start, start_of}
use Rattle.jvms_machine.specs.Limits.{are_limits}

-- The reason for which a machine isn't made. The entry is tested first, then the limits.
pub data StartFault : Type 0 where
  no_entry : StartFault
  no_limits : StartFault

abbrev pub within : Limits → Start → Result Start StartFault
within limits start = if are_limits limits then Ok start else Err no_limits

abbrev pub start_within_limits : Limits → Option Start → Result Start StartFault
start_within_limits limits None = Err no_entry
start_within_limits limits (Some start) = within limits start

-- Returns the start of a machine of a program with these limits and this entry.
abbrev pub start_of_entry : List Class → Limits → Entry → Result Start StartFault
start_of_entry program limits e = start_within_limits limits (start_of program e)

-- ---- The opening state

-- Returns the objects of references 1 to 4: the error for too many objects, that for too many frames, `System.out`, and
-- the argument of `main`.
abbrev pub opening_heap : List Class → List Object
opening_heap program =
    first_instance program (codes "java/lang/OutOfMemoryError")
    ∷ first_instance program (codes "java/lang/StackOverflowError")
    ∷ first_instance program (codes "java/io/PrintStream")
    ∷ array (codes "[Ljava/lang/String;") []
    ∷ []

abbrev pub is_system_out : FieldKey → Bool
is_system_out key = same_text key.class (codes "java/lang/System") && same_text key.name (codes "out")

-- Returns a static field at the opening. `System.out` is reference 3, and any other field has its default value.
abbrev pub opening_static : FieldKey × Value → FieldKey × Value
opening_static f = (f.0, if is_system_out f.0 then value.Reference 3 else f.1)

abbrev pub opening_initialisation : Class → Initialisation
opening_initialisation c = if is_built_in c.name then initialisation.Done else initialisation.NotBegun

unfoldable pub opening : List Class → State
opening program =
    record {
      heap = opening_heap program;
      monitors = [];
      waiters = [];
      statics = map opening_static (static_fields program);
      initialisations = map opening_initialisation program;
      threads = new_thread None ∷ [];
      elements = 0;
      output = [];
      result = None;
    }
