-- Defines how an item changes the open methods of a thread.
use Rattle.std.specs.Prelude.{List, ◌∷◌, drop}
use Rattle.jvms_program.specs.declared.key.MethodKey.{MethodKey}
use Rattle.report.specs.declared.actor.Mark.{Mark}
use Rattle.report.specs.declared.actor.Mark.TheVariants as mark

-- Returns the open methods after a change, the innermost first.
abbrev pub methods_after : Mark → List MethodKey → List MethodKey
methods_after (mark.Enters m) methods = m.now ∷ methods
methods_after mark.Exits methods = drop 1 methods
methods_after mark.Nothing methods = methods
