-- The result of ordering a list of classes (own).
use Rattle.std.specs.Prelude.{◌≡◌, List}
use Rattle.jvms_program.specs.declared.program.Class.{Class}
use Rattle.classes.specs.declared.list.Ordered.{Ordered}
use Rattle.classes.specs.declared.list.Ordered.TheVariants as ordered

-- The classes are the same, with or without an order.
abbrev pub IsOrderedOf : List Class → Ordered → Type 0
IsOrderedOf list (ordered.Classes classes) = classes ≡ list
IsOrderedOf list (ordered.Unordered classes) = classes ≡ list
