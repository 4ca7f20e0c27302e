use Rattle.std.proofs.Common.{◌≡◌, ◌+◌, ◌/◌, ◌≤◌, [], ◌∷◌, ◌++◌, length, take, arith, ap, ◌∙◌, subst, sym}
use Rattle.std.proofs.lemmas.List.{length-append, length-take-le}
use Rattle.debugger.specs.Marks.{mark_at, AreMarks}
use Rattle.debugger.specs.States.{items_at}
use Rattle.debugger.specs.Timelines.{setting}
use Rattle.debugger.proofs.ChoiceLaws.{take_front, take_less}
use Rattle.debugger.proofs.MarkLaws.{marks_cut, marks_same}
use Rattle.debugger.proofs.RunLaws.{items_fewer, items_same, mark_same}
use Rattle.debugger.proofs.timeline.Timeline.cut.Goals as goal

pub push_reserved-requires : goal.push_reserved-requires
push_reserved-requires c =
    let is = c.requires.timeline in
    omega (arith, c.truncate.ensures.len, c.truncate.ensures.capacity, c.requires.room, is.position, is.far, c.args.self.now.choices.ok.0)

pub returns-clause-timeline : goal.returns-clause-timeline
returns-clause-timeline c =
    let t = c.args.self.now in
    let is = c.requires.timeline in
    let g = setting t in
    let old = t.choices.items in
    let new = c.push_reserved.new.self.items in
    let position = t.position in
    let within : position ≤ length old = omega (arith, is.position, is.far) in
    let new_is : new ≡ take position old ++ c.args.t ∷ [] = c.push_reserved.ensures.items ∙ ap (λ l. l ++ c.args.t ∷ []) c.truncate.ensures.items in
    let same : take position old ≡ take position new = take_front old new (c.args.t ∷ []) position within new_is in
    let few : AreMarks (mark_at g old) t.spacing 0 position (take (position / t.spacing + 1) t.checkpoints.items) =
    marks_cut (mark_at g old) t.spacing t.far position t.checkpoints.items is.spacing.positive is.position is.checkpoints in
    let fewer : length (items_at g old position) ≤ length (items_at g old t.far) = items_fewer g old position t.far is.position in
    let items : length (items_at g old position) ≡ length (items_at g new position) = ap length (items_same g old new position same) in
    record {
      position = omega arith;
      far = omega (arith, ap length new_is, length-append (take position old) (c.args.t ∷ []), length-take-le position old within);
      most = omega (arith, is.position, is.most);
      bound = is.bound;
      spacing = is.spacing;
      here = is.here ∙ mark_same g old new position same;
      checkpoints = subst (λ l. AreMarks (mark_at g new) t.spacing 0 position l) (sym c.truncate-2.ensures.items)
          (marks_same (mark_at g old) (mark_at g new) t.spacing 0 position (take (position / t.spacing + 1) t.checkpoints.items)
          (λ n within. mark_same g old new n (take_less old new position n within same)) few);
      room = omega (arith, is.room, c.truncate-2.ensures.capacity);
      few = omega (arith, fewer, items, is.few);
    }
