use Rattle.std.proofs.Common.{◌≡◌, ◌+◌, max}
use Rattle.debugger.specs.Hits.{hit_after}
use Rattle.debugger.specs.Timelines.{IsWalkOf, setting}
use Rattle.debugger.proofs.timeline.Timeline.continue_to_hit.Given as goal

abbrev pub invariant-loop-position : goal.invariant-loop-position
invariant-loop-position l =
    let after = hit_after (setting l.self) l.self.choices.items l.breakpoints.items in
    record {
      walk : IsWalkOf l.self l.walk;
      position : l.walk.replay.position ≡ l.position;
      most : l.walk.reach.most ≡ max l.self.most l.position;
      made : l.walk.replay.made + l.self.position ≡ l.position;
      hit : after l.self.position ≡ after l.position;
    }
