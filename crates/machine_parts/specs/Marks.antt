-- The marks of calls in a trace.
use Rattle.std.specs.Prelude.{ℕ, Bool, false, if◌then◌else◌, List, [], ◌∷◌, Option, Some, None, slice_get, unwrap_or}
use Rattle.std.specs.Option.{option_map}
use Rattle.jvms_program.specs.declared.program.Class.{Class}
use Rattle.jvms_program.specs.declared.number.MethodNumber.{MethodNumber}
use Rattle.jvms_program.specs.declared.key.MethodKey.{MethodKey}
use Rattle.jvms_machine.specs.declared.trace.Item.{Item}
use Rattle.jvms_program.specs.BuiltIn.{is_built_in}
use Rattle.jvms_program.specs.Program.{key_of}

-- Returns an optional item as a list.
abbrev pub item_list : Option Item → List Item
item_list None = []
item_list (Some i) = i ∷ []

abbrev pub is_built_in_number : List Class → ℕ → Bool
is_built_in_number program class = unwrap_or (option_map (λ c. is_built_in c.name) (slice_get program class)) false

-- Returns the key of a method for its marks. A method of a built-in class has none.
abbrev pub marked_key : List Class → MethodNumber → Option MethodKey
marked_key program n = if is_built_in_number program n.class then None else key_of program n
