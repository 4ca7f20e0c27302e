use Rattle.std.proofs.Common.{◌≡◌, ◌+◌, ◌*◌, ◌/◌, ◌≤◌, ◌<◌, ◌++◌, length, arith, ap, ◌∙◌, sym, subst, refl, rules, false}
use Rattle.std.proofs.lemmas.List.{length-append}
use Rattle.std.specs.Vec.{vec_len, vec_capacity}
use Rattle.std.specs.Result.{is_ok}
use Rattle.debugger.specs.declared.mark.Mark.{Mark}
use Rattle.debugger.specs.Marks.{mark_at, AreMarks}
use Rattle.debugger.specs.States.{items_at, setting_of}
use Rattle.debugger.specs.Timelines.{setting}
use Rattle.debugger.proofs.MarkLaws.{marks_gather, marks_few}
use Rattle.debugger.proofs.timeline.Timeline.arrive.Goals as goal

pub prove-unreachable-requires : goal.prove-unreachable-requires
prove-unreachable-requires c =
    let t = c.args.self.now in
    let x = c.args.reach.now in
    let along = c.requires.along in
    let is = along.reach in
    let at = mark_at (setting t) t.choices.items in
    let kept = c.thin.new.checkpoints.items in
    let fresh : AreMarks at x.spacing (t.far / x.spacing + 1) x.far x.fresh.items = subst (λ n. AreMarks at x.spacing (n / x.spacing + 1) x.far x.fresh.items) along.from is.fresh in
    let ratio = is.ratio ∙ ap (λ k. x.ratio * k) along.base in
    let all = marks_gather at t.spacing x.ratio x.spacing t.far x.far t.checkpoints.items kept x.fresh.items (kept ++ x.fresh.items) is.ratio_positive ratio c.thin.ensures.each c.thin.ensures.kept c.thin.ensures.all refl c.requires.timeline.checkpoints fresh in
    let few : length (kept ++ x.fresh.items) ≤ 64 = marks_few at x.spacing x.most x.far (kept ++ x.fresh.items) is.spacing is.most all in
    let kept_many = c.thin.new.checkpoints.ok.0 in
    let fresh_many = x.fresh.ok.0 in
    let room : vec_len c.thin.new.checkpoints + vec_len x.fresh ≤ vec_capacity c.thin.new.checkpoints = omega (arith, length-append kept x.fresh.items, few, kept_many, fresh_many, c.thin.ensures.room, c.requires.timeline.room) in
    let done = c.append.ensures.succeeds room in
    let refused : false ≡ is_ok c.append.result = c.if-prove.ensures.value in
    cc (done, refused)

pub returns-clause-timeline : goal.returns-clause-timeline
returns-clause-timeline c =
    let t = c.args.self.now in
    let r = c.args.replay.now in
    let x = c.args.reach.now in
    let timeline = c.requires.timeline in
    let along = c.requires.along in
    let is = along.reach in
    let g = setting t in
    let cs = t.choices.items in
    let swapped : c.swap.new.x ≡ r.mark = c.swap.ensures.x_after in
    let there : g ≡ setting_of c.swap.new.x.machine = sym along.setting ∙ ap (λ (m : Mark). setting_of m.machine) (sym swapped) in
    let marks : c.append.new.self.items ≡ c.thin.new.checkpoints.items ++ x.fresh.items = search rules in
    let fresh : AreMarks (mark_at g cs) x.spacing (t.far / x.spacing + 1) x.far x.fresh.items = subst (λ n. AreMarks (mark_at g cs) x.spacing (n / x.spacing + 1) x.far x.fresh.items) along.from is.fresh in
    let ratio = is.ratio ∙ ap (λ k. x.ratio * k) along.base in
    record {
      position = omega (arith, along.far);
      far = is.far;
      most = is.most;
      bound = omega (arith, along.bound, timeline.bound, t.choices.ok.0, t.choices.ok.1, t.choices.small);
      spacing = is.spacing;
      here = swapped ∙ along.replay.mark ∙ ap (λ s. mark_at s cs r.position) there;
      checkpoints = subst (λ s. AreMarks (mark_at s cs) x.spacing 0 x.far c.append.new.self.items) there
          (marks_gather (mark_at g cs) t.spacing x.ratio x.spacing t.far x.far t.checkpoints.items c.thin.new.checkpoints.items x.fresh.items
          c.append.new.self.items is.ratio_positive ratio c.thin.ensures.each c.thin.ensures.kept c.thin.ensures.all marks timeline.checkpoints fresh);
      room = omega (arith, timeline.room, c.thin.ensures.room, c.append.ensures.capacity);
      few = subst (λ s. length (items_at s cs x.far) < 9223372036854775808) there c.requires.few;
    }
