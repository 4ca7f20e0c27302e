-- The table says what the lines so far say.
use Rattle.std.proofs.Common.{take}
use Rattle.atom_spec.specs.Decisions.{IsTableOf}
use Rattle.atom_spec.proofs.spec.table_of.Given as goal

abbrev pub invariant-loop-line : goal.invariant-loop-line
invariant-loop-line l = IsTableOf l.table (take l.line-index l.lines)
