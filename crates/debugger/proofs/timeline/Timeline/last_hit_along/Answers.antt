use Rattle.std.proofs.Common.{ap, ◌∙◌, sym, arith}
use Rattle.std.specs.Option.{unwrap_or}
use Rattle.debugger.specs.Hits.{hits, nearest_before}
use Rattle.debugger.specs.Timelines.{setting}
use Rattle.debugger.proofs.HitLaws.{hit_before_earlier, hit_before_here, within_more}
use Rattle.debugger.proofs.timeline.Timeline.last_hit_along.Goals as goal
use Rattle.debugger.proofs.timeline.Timeline.last_hit_along.Goals.{then-is_hit, else-is_hit}

pub loop-position-preserved : goal.loop-position-preserved
loop-position-preserved c =
    let t = c.args.self.now in
    let breakpoints = c.args.breakpoints.now.items in
    let test = hits (setting t) t.choices.items breakpoints in
    let first = nearest_before (setting t) t.choices.items breakpoints c.args.start in
    let n = c.loop-position.position in
    let is = c.loop-position.invariant in
    let gone = c.in_ok-advance.ensures in
    record {
      walk = gone.walk;
      position = omega (arith, gone.some, gone.end, is.position);
      made = omega (arith, gone.some, gone.end, gone.made, is.position, is.made);
      hit = elim c.if-is_hit.branch [
        | then-is_hit w ↦ hit_before_here test n (ap test (sym is.position) ∙ sym c.is_hit.ensures ∙ w.if-is_hit.true) ∙ sym (ap (λ h. unwrap_or h first) w.hit-is)
        | else-is_hit w ↦ hit_before_earlier test n (ap test (sym is.position) ∙ sym c.is_hit.ensures ∙ w.if-is_hit.false) ∙ is.hit ∙ sym (ap (λ h. unwrap_or h first) w.hit-is)
      ];
      within = elim c.if-is_hit.branch [
        | then-is_hit w ↦ rw w.hit-is (omega arith)
        | else-is_hit w ↦ rw w.hit-is (within_more c.loop-position.hit n is.within)
      ];
    }
