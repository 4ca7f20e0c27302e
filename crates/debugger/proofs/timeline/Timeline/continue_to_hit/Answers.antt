use Rattle.std.proofs.Common.{◌≡◌, ◌+◌, ◌-◌, ◌<◌, length, arith, ap, ◌∙◌, sym}
use Rattle.debugger_commands.specs.Sessions.{next_hit}
use Rattle.debugger.specs.Hits.{hits}
use Rattle.debugger.specs.Timelines.{setting}
use Rattle.debugger.proofs.HitLaws.{next_hit_here, next_hit_later, next_hit_none}
use Rattle.debugger.proofs.timeline.Timeline.continue_to_hit.Goals as goal

pub returns-then-is_hit-clause-position : goal.returns-then-is_hit-clause-position
returns-then-is_hit-clause-position c =
    let t = c.args.self.now in
    let test = hits (setting t) t.choices.items c.args.breakpoints.now.items in
    let n = c.loop-position.position in
    let is = c.loop-position.invariant in
    let many = length t.choices.items in
    let gone = c.in_ok-advance.ensures in
    let place : c.advance.new.walk.replay.position ≡ n + 1 = omega (arith, gone.some, gone.end, is.position) in
    let within : n < many = omega (arith, t.choices.ok.0, c.len-position-end.ensures, c.loop-position-test.true) in
    place ∙ sym (is.hit ∙ next_hit_here test n many within (ap test (sym place) ∙ sym c.if-is_hit.ensures))

pub loop-position-preserved : goal.loop-position-preserved
loop-position-preserved c =
    let t = c.args.self.now in
    let test = hits (setting t) t.choices.items c.args.breakpoints.now.items in
    let n = c.loop-position.position in
    let is = c.loop-position.invariant in
    let many = length t.choices.items in
    let gone = c.in_ok-advance.ensures in
    let place : c.advance.new.walk.replay.position ≡ n + 1 = omega (arith, gone.some, gone.end, is.position) in
    let within : n < many = omega (arith, t.choices.ok.0, c.len-position-end.ensures, c.loop-position-test.true) in
    record {
      walk = gone.walk;
      position = place;
      most = omega (arith, gone.most, place, is.most, is.position);
      made = omega (arith, place, gone.made, is.position, is.made);
      hit = is.hit ∙ next_hit_later test n many within (ap test (sym place) ∙ sym c.if-is_hit.ensures);
    }

pub returns-clause-position : goal.returns-clause-position
returns-clause-position c =
    let t = c.args.self.now in
    let test = hits (setting t) t.choices.items c.args.breakpoints.now.items in
    let n = c.loop-position.position in
    let is = c.loop-position.invariant in
    let many = length t.choices.items in
    let end : many ≡ n = omega (arith, t.choices.ok.0, c.len-position-end.ensures, c.loop-position-test.false, c.loop-position.auto.position-end, c.requires.timeline.position, c.requires.timeline.far) in
    is.position ∙ sym (is.hit ∙ ap (λ k. next_hit test n (k - n)) end ∙ next_hit_none test n)
