use Rattle.std.proofs.Common.{◌≡◌, ◌+◌, ◌*◌, ◌≤◌, length}
use Rattle.descriptor.specs.Scanning.{units_after}
use Rattle.descriptor.proofs.method.units_at.Given as goal

abbrev pub invariant-loop-first : goal.invariant-loop-first
invariant-loop-first l = record {
  same : units_after l.units l.rest ≡ units_after 0 l.text;
  few : l.units + 2 * length l.rest ≤ 2 * length l.text;
}

abbrev pub decreases-loop-first : goal.decreases-loop-first
decreases-loop-first l = length l.rest
