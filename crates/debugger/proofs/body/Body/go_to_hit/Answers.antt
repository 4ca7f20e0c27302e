use Rattle.std.proofs.Common.{ℕ, ◌-◌, length, ap, ◌∙◌}
use Rattle.std.proofs.lemmas.Result.{on_ok_weaker}
use Rattle.debugger_commands.specs.Sessions.{Session, next_hit}
use Rattle.debugger.specs.Sessions.{Debugger, session_of}
use Rattle.debugger.specs.Timelines.{setting}
use Rattle.debugger.proofs.HitLaws.{same_hits}
use Rattle.debugger.proofs.body.Body.go_to_hit.Goals as goal

pub returns-clause-session : goal.returns-clause-session
returns-clause-session c =
    let old = c.args.self.now in
    let g = setting old.timeline in
    let x = session_of old in
    let at : ℕ → Session = λ p. record x { position = p } in
    let there = c.in_ok-walk.ensures.position ∙ ap (λ test. next_hit test x.position (length x.choices - x.position)) (same_hits g x) in
    on_ok_weaker c.settle-settled.result (λ same. ap (λ (d : Debugger). d.session) same ∙ ap at there) c.settle-settled.ensures.debugger
