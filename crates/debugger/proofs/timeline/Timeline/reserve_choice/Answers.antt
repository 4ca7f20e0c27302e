use Rattle.std.proofs.Common.{◌≡◌, ◌≤◌, ◌<◌, length, arith, sym, subst}
use Rattle.std.proofs.lemmas.Result.{on_ok_weaker}
use Rattle.debugger.specs.Marks.{mark_at, AreMarks}
use Rattle.debugger.specs.States.{items_at}
use Rattle.debugger.specs.Timelines.{setting}
use Rattle.debugger.proofs.timeline.Timeline.reserve_choice.Goals as goal

pub returns-clause-timeline : goal.returns-clause-timeline
returns-clause-timeline c =
    let t = c.args.self.now in
    let is = c.requires in
    let g = setting t in
    let same : t.choices.items ≡ c.reserve.new.self.items = sym c.reserve.ensures.items in
    record {
      position = is.position;
      far = subst (λ l. t.far ≤ length l) same is.far;
      most = is.most;
      bound = is.bound;
      spacing = is.spacing;
      here = subst (λ l. t.here ≡ mark_at g l t.position) same is.here;
      checkpoints = subst (λ l. AreMarks (mark_at g l) t.spacing 0 t.far t.checkpoints.items) same is.checkpoints;
      room = is.room;
      few = subst (λ l. length (items_at g l t.far) < 9223372036854775808) same is.few;
    }

pub returns-clause-room : goal.returns-clause-room
returns-clause-room c =
    let is = c.requires in
    on_ok_weaker c.reserve.result (λ room. omega (arith, room, c.reserve.ensures.len, is.position, is.far, c.args.self.now.choices.ok.0)) c.reserve.ensures.ok
