-- The first atomic one is among the methods that are left.
use Rattle.std.proofs.Common.{◌≡◌, drop, map}
use Rattle.std.specs.List.{find}
use Rattle.velodrome.specs.Specification.{is_atomic}
use Rattle.report.proofs.actor.first_atomic.Given as goal

abbrev pub invariant-loop-method : goal.invariant-loop-method
invariant-loop-method l =
    find (is_atomic l.checker.lines) (map (λ m. m.now) (drop l.method-index l.methods))
    ≡ find (is_atomic l.checker.lines) (map (λ m. m.now) l.methods)
