use Rattle.std.proofs.Common.{arith, ◌∙◌, sym}
use Rattle.debugger.specs.Timelines.{setting}
use Rattle.debugger.proofs.PickLaws.{few_front, is_branch}
use Rattle.debugger.proofs.RunLaws.{mark_same}
use Rattle.debugger.proofs.timeline.Timeline.begin_branch.Goals as goal

pub begin-requires-clause-far : goal.begin-requires-clause-far
begin-requires-clause-far c =
    let branch = is_branch c.args.self.now c.branch-self.result c.args.t c.requires c.branch-self.ensures in
    omega (arith, branch.count)

pub begin-requires-clause-few : goal.begin-requires-clause-few
begin-requires-clause-few c =
    let t = c.args.self.now in
    let branch = is_branch t c.branch-self.result c.args.t c.requires c.branch-self.ensures in
    omega (arith, few_front t c.branch-self.result c.requires branch, c.requires.few)

pub begin-requires-clause-mark : goal.begin-requires-clause-mark
begin-requires-clause-mark c =
    let t = c.args.self.now in
    let branch = is_branch t c.branch-self.result c.args.t c.requires c.branch-self.ensures in
    c.in_ok-mark.ensures ∙ c.requires.here ∙ mark_same (setting t) t.choices.items c.branch-self.result t.position (sym branch.same)
