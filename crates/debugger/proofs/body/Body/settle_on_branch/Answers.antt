use Rattle.std.proofs.Common.{length, ap, arith, refl, ◌∙◌, sym}
use Rattle.debugger.specs.declared.reach.Reach.{Reach}
use Rattle.debugger.specs.States.{items_at}
use Rattle.debugger.specs.Timelines.{Extent, branch_of, extent_after_move, setting}
use Rattle.debugger.proofs.PickLaws.{branch_items, is_branch}
use Rattle.debugger.proofs.body.Body.settle_on_branch.Goals as goal

pub arrive-requires-clause-few : goal.arrive-requires-clause-few
arrive-requires-clause-few c =
    let old = c.args.self.now in
    let t = old.timeline in
    let w = c.advance_on_branch.new.walk in
    let left = c.take_items.new.self in
    let new = branch_of t c.args.t in
    let walked = c.in_ok-advance_on_branch.ensures in
    let same = ap (λ (x : Extent). length (items_at x.setting x.choices left.reach.far)) c.cut.ensures.extent in
    let reach = ap (λ (x : Reach). length (items_at (setting t) new x.far)) c.take_items.ensures.reach in
    let branch = is_branch t new c.args.t c.requires.body.timeline refl in
    let all = branch_items t new w old.trace c.take_items.result c.replace_after.new.self c.requires.body.timeline branch c.requires.body.trace walked.walk walked.places.0 c.take_items.ensures.items
    c.in_ok-replace_after.ensures.ok in
    omega (arith, same, reach, ap length all, c.len.ensures.few, c.len.ensures.count)

pub returns-clause-body : goal.returns-clause-body
returns-clause-body c =
    let old = c.args.self.now in
    let t = old.timeline in
    let w = c.advance_on_branch.new.walk in
    let left = c.take_items.new.self in
    let new = branch_of t c.args.t in
    let walked = c.in_ok-advance_on_branch.ensures in
    let at = c.arrive.ensures.extent ∙ ap (λ (x : Extent). extent_after_move x left.replay left.reach) c.cut.ensures.extent in
    let branch = is_branch t new c.args.t c.requires.body.timeline refl in
    let all = branch_items t new w old.trace c.take_items.result c.replace_after.new.self c.requires.body.timeline branch c.requires.body.trace walked.walk walked.places.0 c.take_items.ensures.items
    c.in_ok-replace_after.ensures.ok in
    record {
      timeline = c.arrive.ensures.timeline;
      trace = all ∙ ap (λ (x : Reach). items_at (setting t) new x.far) (sym c.take_items.ensures.reach) ∙ sym (ap (λ (x : Extent). items_at x.setting x.choices x.far) at);
    }
