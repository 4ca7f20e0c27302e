use Rattle.std.proofs.Common.{◌≡◌, length, take, ap, ◌∙◌, sym}
use Rattle.debugger.specs.declared.body.Body.{Body}
use Rattle.debugger.specs.declared.mark.Mark.{Mark}
use Rattle.debugger.specs.Sessions.{Debugger, IsBody}
use Rattle.debugger.specs.States.{items_at}
use Rattle.debugger.specs.Timelines.{setting}
use Rattle.debugger.proofs.RunLaws.{items_cut}
use Rattle.debugger.proofs.session.Session.items.Goals as goal

count_is : (b : Body) → IsBody b → b.timeline.here.items ≡ length (items_at (setting b.timeline) b.timeline.choices.items b.timeline.position)
count_is b is = ap (λ (m : Mark). m.items) is.timeline.here

-- The first items, up to the number before the position, are those of the choices before it.
front_is : (b : Body) → IsBody b → take b.timeline.here.items b.trace ≡ items_at (setting b.timeline) b.timeline.choices.items b.timeline.position
front_is b is =
    let g = setting b.timeline in
    let cs = b.timeline.choices.items in
    ap (take b.timeline.here.items) is.trace ∙ ap (λ k. take k (items_at g cs b.timeline.far)) (count_is b is) ∙ items_cut g cs b.timeline.position b.timeline.far is.timeline.position

pub slice_bounds-result-end : goal.slice_bounds-result-end
slice_bounds-result-end c =
    let body = c.self.inside.body in
    count_is body c.self.invariant ∙ ap length (sym (front_is body c.self.invariant)) ∙ ap (λ l. length (take body.timeline.here.items l)) (sym c.items.ensures)

pub returns : goal.returns
returns c =
    let body = c.self.inside.body in
    ap (take body.timeline.here.items) c.items.ensures ∙ front_is body c.self.invariant ∙ ap (λ (d : Debugger). items_at d.setting d.session.choices d.session.position) c.self.view_is
