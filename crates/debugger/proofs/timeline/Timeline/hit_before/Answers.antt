use Rattle.std.proofs.Common.{◌≡◌, ap, ◌∙◌, sym, arith}
use Rattle.debugger.specs.Hits.{hits, nearest_before}
use Rattle.debugger.specs.Timelines.{setting}
use Rattle.debugger.proofs.HitLaws.{hit_before_never, hit_before_none, no_hits}
use Rattle.debugger.proofs.timeline.Timeline.hit_before.Goals as goal

pub returns-then-is_empty-clause-position : goal.returns-then-is_empty-clause-position
returns-then-is_empty-clause-position c =
    let t = c.args.self.now in
    let breakpoints = c.args.breakpoints.now.items in
    sym (hit_before_never (hits (setting t) t.choices.items breakpoints) t.position (λ n. no_hits (setting t) t.choices.items breakpoints n c.if-is_empty.ensures))

pub returns-clause-position : goal.returns-clause-position
returns-clause-position c =
    let t = c.args.self.now in
    let test = hits (setting t) t.choices.items c.args.breakpoints.now.items in
    let is = c.loop-end.invariant in
    let end : c.loop-end.end ≡ 0 = omega (arith, c.loop-end-test.false) in
    is.none ∙ sym (is.hit ∙ ap (λ n. nearest_before (setting t) t.choices.items c.args.breakpoints.now.items n) end ∙ hit_before_none test)
