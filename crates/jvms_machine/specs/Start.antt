-- The start of a run: the method that an entry names, and its arguments.
use Rattle.std.specs.Prelude.{ℕ, ◌<◌, ◌≤◌, Bool, true, false, ◌==◌, ◌&&◌, if◌then◌else◌, List, [], ◌∷◌, map, Option, Some, None, is_some, codes, Result, Ok, Err}
use Rattle.std.specs.Option.{option_map}
use Rattle.std.specs.List.{AllByRecursion}
use Rattle.jvms_machine.specs.declared.value.Value.{Value}
use Rattle.jvms_machine.specs.declared.value.Value.TheVariants as value
use Rattle.jvms_file.specs.declared.descriptor.Primitive.TheVariants as primitive
use Rattle.jvms_file.specs.declared.descriptor.Element.{Element}
use Rattle.jvms_file.specs.declared.descriptor.Element.TheVariants as element
use Rattle.jvms_file.specs.declared.descriptor.FieldType.{FieldType}
use Rattle.jvms_machine.specs.declared.machine.Argument.{Argument}
use Rattle.jvms_machine.specs.declared.machine.Argument.TheVariants as argument
use Rattle.jvms_machine.specs.declared.machine.Entry.{Entry}
use Rattle.jvms_machine.specs.declared.machine.Entry.TheVariants as entry
use Rattle.jvms_program.specs.declared.number.MethodNumber.{MethodNumber}
use Rattle.jvms_program.specs.declared.program.Class.{Class}
use Rattle.jvms_program.specs.declared.program.MethodReference.{MethodReference}
use Rattle.jvms_file.specs.Names.{is_initializer_name}
use Rattle.jvms_file.specs.Descriptors.{method_type_of, method_type}
use Rattle.jvms_program.specs.Resolution.{ResolvedMethod, resolved_method, method_number}
use Rattle.jvms_machine.specs.Places.{places_of}

-- The start of a machine, beside its program and limits: the entry's method and its arguments.
pub record Start : Type 0 where
  pub method : MethodNumber
  pub arguments : List Value

-- The slots of arguments are ints, longs, or references that exist at the opening.
abbrev pub IsArgument : Value → Type 0
IsArgument (value.Int n) = Unit {0}
IsArgument (value.Long n) = Unit {0}
IsArgument value.Second = Unit {0}
IsArgument (value.Reference r) = (0 < r) × (r ≤ 4)
IsArgument _ = ⊥

abbrev pub IsStart : Start → Type 0
IsStart start = AllByRecursion IsArgument start.arguments

-- ---- The entry

abbrev pub main_descriptor : List ℕ
main_descriptor = codes "([Ljava/lang/String;)V"

-- Returns the method that an entry names, in the form of a Methodref.
abbrev pub entry_reference : Entry → MethodReference
entry_reference (entry.Main class) =
    record { is_interface = false; class = class; name = codes "main"; descriptor = main_descriptor; method_type = method_type main_descriptor }
entry_reference (entry.Static class name descriptor arguments) =
    record { is_interface = false; class = class; name = name; descriptor = descriptor; method_type = method_type descriptor }

abbrev pub argument_value : Argument → Value
argument_value (argument.Int n) = value.Int n
argument_value (argument.Long n) = value.Long n

-- Returns the arguments of an entry. Reference 4 is the argument of `main`: an array of no strings.
abbrev pub entry_arguments : Entry → List Value
entry_arguments (entry.Main class) = value.Reference 4 ∷ []
entry_arguments (entry.Static class name descriptor arguments) = places_of (map argument_value arguments)

-- Decides whether a type is int, byte, char, short or boolean.
abbrev pub is_int_type : FieldType → Bool
is_int_type t = t.dimensions == 0 && is_int_element t.element
  where
    is_int_element : Element → Bool
    is_int_element (element.Primitive primitive.Int) = true
    is_int_element (element.Primitive primitive.Byte) = true
    is_int_element (element.Primitive primitive.Char) = true
    is_int_element (element.Primitive primitive.Short) = true
    is_int_element (element.Primitive primitive.Boolean) = true
    is_int_element _ = false

abbrev pub is_long_type : FieldType → Bool
is_long_type t = t.dimensions == 0 && is_long_element t.element
  where
    is_long_element : Element → Bool
    is_long_element (element.Primitive primitive.Long) = true
    is_long_element _ = false

-- Decides whether each argument is of its parameter's type.
abbrev pub are_arguments_of : List FieldType → List Argument → Bool
are_arguments_of [] [] = true
are_arguments_of (t ∷ types) (argument.Int n ∷ arguments) = is_int_type t && are_arguments_of types arguments
are_arguments_of (t ∷ types) (argument.Long n ∷ arguments) = is_long_type t && are_arguments_of types arguments
are_arguments_of _ _ = false

-- Decides whether an entry has an argument for each parameter, which is an int or a long. That of `main` is given.
abbrev pub takes_arguments : Entry → Bool
takes_arguments (entry.Main class) = true
takes_arguments (entry.Static class name descriptor arguments) =
    is_some (method_type_of descriptor) && are_arguments_of (method_type descriptor).parameters arguments

abbrev pub found_start : List Class → Entry → Option ResolvedMethod → Option Start
found_start program e None = None
found_start program e (Some m) =
    if is_initializer_name m.method.name then None
    else option_map (λ n. record { method = n; arguments = entry_arguments e }) (method_number program m)

abbrev pub resolved_entry : List Class → Entry → Option ResolvedMethod
resolved_entry program e = found (resolved_method program true (entry_reference e))
  where
    found : {T : Type 0} → Result ResolvedMethod T → Option ResolvedMethod
    found (Ok m) = Some m
    found (Err fault) = None

-- Returns the start of a run. The entry's method must resolve, be static, not be `<clinit>`, and take the arguments.
unfoldable pub start_of : List Class → Entry → Option Start
start_of program e = if takes_arguments e then found_start program e (resolved_entry program e) else None
