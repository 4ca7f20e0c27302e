use Rattle.std.proofs.Common.{◌≡◌, length}
use Rattle.source_lines.specs.SourceLines.{source_name}
use Rattle.source_lines.proofs.name.source_name.Given as goal

abbrev pub invariant-loop-rest : goal.invariant-loop-rest
invariant-loop-rest l = source_name l.pool l.rest ≡ source_name l.pool l.fn.attributes

abbrev pub decreases-loop-rest : goal.decreases-loop-rest
decreases-loop-rest l = length l.rest
