-- The start of a search, and the classes that it passes (JVMS 5.4.3).
use Rattle.std.specs.Prelude.{ℕ, List, [], Option, Some, None}
use Rattle.std.specs.List.{flat_map}
use Rattle.jvms_program.specs.declared.program.Class.{Class}
use Rattle.jvms_program.specs.Program.{class_named}
use Rattle.jvms_program.specs.Resolution.{ancestry, chain}
use Rattle.classes.specs.declared.ancestors.Start.{Start}
use Rattle.classes.specs.declared.ancestors.Start.TheVariants as start

-- Returns the ancestries of a class's superinterfaces.
abbrev pub interfaces_above : List Class → Option Class → List Class
interfaces_above program None = []
interfaces_above program (Some c) = flat_map (ancestry program) c.interfaces

abbrev pub name_of : Start → List ℕ
name_of (start.Class name) = name.now
name_of (start.Interfaces name) = name.now
name_of (start.InterfacesUp name) = name.now

-- Returns the classes that a search passes, in order.
abbrev pub classes_from : List Class → Start → List Class
classes_from program (start.Class name) = ancestry program name.now
classes_from program (start.Interfaces name) = interfaces_above program (class_named program name.now)
classes_from program (start.InterfacesUp name) = flat_map (λ c. flat_map (ancestry program) c.interfaces) (chain program name.now)
