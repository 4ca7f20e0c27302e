use Rattle.std.proofs.Common.{◌≡◌, ◌+◌, ◌∙◌, ap, max, subst}
use Rattle.std.specs.Result.{OnErr, OnOk}
use Rattle.debugger_commands.specs.Sessions.{with_pick}
use Rattle.debugger.specs.Sessions.{Debugger, debugger_of, session_of}
use Rattle.debugger.proofs.body.Body.pick.Goals as goal

pub returns-clause-setting : goal.returns-clause-setting
returns-clause-setting c = c.take_branch.ensures.setting ∙ ap (λ (d : Debugger). d.setting) c.in_ok-reserve_choice.ensures.debugger

pub returns-clause-session : goal.returns-clause-session
returns-clause-session c =
    subst (λ (d : Debugger). OnOk c.take_branch.result (session_of c.take_branch.new.self ≡ with_pick d.session c.args.t)) c.in_ok-reserve_choice.ensures.debugger c.take_branch.ensures.session

pub returns-clause-most : goal.returns-clause-most
returns-clause-most c =
    subst (λ (d : Debugger). OnOk c.take_branch.result (c.take_branch.new.self.timeline.most ≡ max d.most (d.session.position + 1))) c.in_ok-reserve_choice.ensures.debugger c.take_branch.ensures.most

pub returns-clause-far : goal.returns-clause-far
returns-clause-far c =
    subst (λ (d : Debugger). OnOk c.take_branch.result (c.take_branch.new.self.timeline.far ≡ d.session.position + 1)) c.in_ok-reserve_choice.ensures.debugger c.take_branch.ensures.far

pub returns-clause-kept : goal.returns-clause-kept
returns-clause-kept c = subst (λ (d : Debugger). OnErr c.take_branch.result (debugger_of c.take_branch.new.self ≡ d)) c.in_ok-reserve_choice.ensures.debugger c.take_branch.ensures.kept
