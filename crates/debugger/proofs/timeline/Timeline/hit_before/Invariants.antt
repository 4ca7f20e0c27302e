use Rattle.std.proofs.Common.{◌≡◌, ◌+◌, ◌≤◌}
use Rattle.debugger.specs.Hits.{nearest_before}
use Rattle.debugger.specs.Timelines.{setting}
use Rattle.debugger.proofs.timeline.Timeline.hit_before.Given as goal

abbrev pub invariant-loop-end : goal.invariant-loop-end
invariant-loop-end l =
    let before = nearest_before (setting l.self) l.self.choices.items l.breakpoints.items in
    record {
      within : l.end ≤ l.self.position;
      hit : before l.self.position ≡ before l.end;
      made : l.found.made + l.end ≡ l.self.position;
      none : l.found.position ≡ 0;
    }

abbrev pub decreases-loop-end : goal.decreases-loop-end
decreases-loop-end l = l.end
