use Rattle.std.proofs.Common.{◌≡◌, ◌+◌, ◌-◌, ◌≤◌, max}
use Rattle.debugger.specs.Timelines.{IsWalkOf}
use Rattle.debugger.proofs.timeline.Timeline.continue_to.Given as goal

abbrev pub invariant-loop-walk : goal.invariant-loop-walk
invariant-loop-walk l = record {
  walk : IsWalkOf l.self l.walk;
  within : l.walk.replay.position ≤ l.place;
  most : l.walk.reach.most ≡ max l.fn.walk.reach.most l.place;
  made : l.walk.replay.made + l.fn.walk.replay.position ≡ l.fn.walk.replay.made + l.walk.replay.position;
}

abbrev pub decreases-loop-walk : goal.decreases-loop-walk
decreases-loop-walk l = l.place - l.walk.replay.position
