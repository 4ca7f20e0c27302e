-- The string that is printed (own).
use Rattle.std.specs.Prelude.{◌≡◌, ℕ, List, Option, Some, None}
use Rattle.jvms_machine.specs.declared.action.Printed.{Printed}
use Rattle.jvms_machine.specs.declared.action.Printed.TheVariants as printed
use Rattle.jvms_machine.specs.State.{Object, text, object_at}

-- Returns the units of an object, if it is a string.
abbrev pub units_of : Option Object → Option (List ℕ)
units_of (Some (text units)) = Some units
units_of _ = None

-- These are the units of the string that is printed, if one is.
abbrev pub IsTheString : List Object → Printed → Option (List ℕ) → Type 0
IsTheString heap (printed.Text r) units = units ≡ units_of (object_at heap r)
IsTheString heap _ units = Unit {0}
