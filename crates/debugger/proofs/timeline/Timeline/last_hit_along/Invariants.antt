use Rattle.std.proofs.Common.{◌≡◌, ◌+◌, ◌<◌}
use Rattle.std.specs.Option.{IfSome, unwrap_or}
use Rattle.debugger.specs.Hits.{nearest_before}
use Rattle.debugger.specs.Timelines.{IsWalkOf, setting}
use Rattle.debugger.proofs.timeline.Timeline.last_hit_along.Given as goal

abbrev pub invariant-loop-position : goal.invariant-loop-position
invariant-loop-position l =
    let before = nearest_before (setting l.self) l.self.choices.items l.breakpoints.items in
    record {
      walk : IsWalkOf l.self l.walk;
      position : l.walk.replay.position ≡ l.position;
      made : l.walk.replay.made + l.start ≡ l.position;
      hit : before l.position ≡ unwrap_or l.hit (before l.start);
      within : IfSome l.hit (λ p. p < l.position);
    }
