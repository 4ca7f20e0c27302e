-- The written units so far, followed by the rest, are the whole text.
use Rattle.std.proofs.Common.{◌≡◌, ◌++◌, length}
use Rattle.jvms_file.specs.Texts.{IsText}
use Rattle.escapes.specs.Escapes.{name_text}
use Rattle.escapes.proofs.name.units_of.Given as goal

abbrev pub invariant-loop-rest : goal.invariant-loop-rest
invariant-loop-rest l = (l.text ≡ name_text l.units.items ++ l.rest) × IsText l.units.items

abbrev pub decreases-loop-rest : goal.decreases-loop-rest
decreases-loop-rest l = length l.rest
