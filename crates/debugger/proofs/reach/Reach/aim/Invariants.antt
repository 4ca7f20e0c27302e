-- The spacing grows until it is large enough.
use Rattle.std.proofs.Common.{◌+◌, ◌-◌, ◌/◌}
use Rattle.debugger.specs.States.{setting_of}
use Rattle.debugger.specs.Walks.{IsAiming}
use Rattle.debugger.proofs.reach.Reach.aim.Given as goal

abbrev pub invariant-loop-self : goal.invariant-loop-self
invariant-loop-self l = record {
  aiming : IsAiming (setting_of l.mark.machine) l.choices l.place l.fn.self l.self;
}

abbrev pub decreases-loop-self : goal.decreases-loop-self
decreases-loop-self l = l.place / 64 + 1 - l.self.spacing
