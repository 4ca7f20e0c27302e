-- The arguments of an entry's start.
use Rattle.std.proofs.Common.{◌≡◌, Bool, true, false, List, [], ◌∷◌, subst, arith, cond}
use Rattle.std.specs.Prelude.{Option, Some, None, map}
use Rattle.std.specs.Option.{option_map}
use Rattle.std.specs.List.{AllByRecursion}
use Rattle.jvms_program.specs.declared.program.Class.{Class}
use Rattle.jvms_machine.specs.declared.machine.Argument.{Argument}
use Rattle.jvms_machine.specs.declared.machine.Argument.TheVariants as argument
use Rattle.jvms_machine.specs.declared.machine.Entry.{Entry}
use Rattle.jvms_machine.specs.declared.machine.Entry.TheVariants as entry
use Rattle.jvms_program.specs.declared.number.MethodNumber.{MethodNumber}
use Rattle.jvms_file.specs.Names.{is_initializer_name}
use Rattle.jvms_program.specs.Resolution.{ResolvedMethod, method_number}
use Rattle.jvms_machine.specs.Places.{places_of}
use Rattle.jvms_machine.specs.Start.{Start, IsStart, IsArgument, argument_value, start_of, found_start, entry_arguments, resolved_entry, takes_arguments}

-- The slots of arguments are valid arguments.
places_are_arguments : (arguments : List Argument) → AllByRecursion IsArgument (places_of (map argument_value arguments))
places_are_arguments [] = tt
places_are_arguments (argument.Int n ∷ arguments) = (tt, places_are_arguments arguments)
places_are_arguments (argument.Long n ∷ arguments) = (tt, (tt, places_are_arguments arguments))

arguments_of_entry : (e : Entry) → AllByRecursion IsArgument (entry_arguments e)
arguments_of_entry (entry.Main class) = ((omega arith, omega arith), tt)
arguments_of_entry (entry.Static class name descriptor arguments) = places_are_arguments arguments

-- The start of an entry has valid arguments.
given : (e : Entry) (start : Start) (o : Option MethodNumber) → option_map (λ n. record { method = n; arguments = entry_arguments e }) o ≡ Some start → IsStart start
given e start None is = absurd (cc)
given e start (Some n) is =
    let begun : Start = record { method = n; arguments = entry_arguments e } in
    let same : begun ≡ start = cc in
    subst IsStart same (arguments_of_entry e)

-- The start of an entry after a test has valid arguments.
unless : (b : Bool) (o : Option Start) (start : Start) → (o ≡ Some start → IsStart start) → cond b None o ≡ Some start → IsStart start
unless true o start there is = absurd (cc)
unless false o start there is = there is

only_if : (b : Bool) (o : Option Start) (start : Start) → (o ≡ Some start → IsStart start) → cond b o None ≡ Some start → IsStart start
only_if true o start there is = there is
only_if false o start there is = absurd (cc)

found_is_start : (program : List Class) (e : Entry) (start : Start) (m : Option ResolvedMethod) → found_start program e m ≡ Some start → IsStart start
found_is_start program e start None is = absurd (cc)
found_is_start program e start (Some m) is =
    unless (is_initializer_name m.method.name) _ start (given e start (method_number program m)) is

pub entry_is_start : (program : List Class) (e : Entry) (start : Start) → start_of program e ≡ Some start → IsStart start
unfolding start_of
entry_is_start program e start is =
    only_if (takes_arguments e) _ start (found_is_start program e start (resolved_entry program e)) is
