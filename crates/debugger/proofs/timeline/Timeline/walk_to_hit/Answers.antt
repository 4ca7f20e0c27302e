use Rattle.std.proofs.Common.{◌≡◌, ◌+◌, ◌-◌, length, ◌∙◌, sym, arith}
use Rattle.debugger.specs.Hits.{hits}
use Rattle.debugger.specs.Timelines.{setting}
use Rattle.debugger.proofs.HitLaws.{next_hit_never, no_hits}
use Rattle.debugger.proofs.timeline.Timeline.walk_to_hit.Goals as goal

pub returns-then-is_empty-clause-position : goal.returns-then-is_empty-clause-position
returns-then-is_empty-clause-position c =
    let t = c.args.self.now in
    let g = setting t in
    let cs = t.choices.items in
    let breakpoints = c.args.breakpoints.now.items in
    let is = c.requires.timeline in
    let left = length cs - t.position in
    let end : t.position + left ≡ c.len.result = omega (arith, is.position, is.far, t.choices.ok.0, c.len.ensures) in
    c.in_ok-walk.ensures.position ∙ sym (next_hit_never (hits g cs breakpoints) t.position left (λ n. no_hits g cs breakpoints n c.if-is_empty.ensures) ∙ end)
