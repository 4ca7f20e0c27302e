use Rattle.std.proofs.Common.{ℕ, arith, ap, ◌∙◌}
use Rattle.debugger_commands.specs.Sessions.{Session, hit_before}
use Rattle.debugger.specs.Sessions.{session_of}
use Rattle.debugger.specs.Timelines.{setting}
use Rattle.debugger.proofs.HitLaws.{same_hits}
use Rattle.debugger.proofs.SpacingLaws.{spacing_small}
use Rattle.debugger.proofs.body.Body.go_back_to_hit.Goals as goal

pub overflow_add-self : goal.overflow_add-self
overflow_add-self c =
    let old = c.requires.body.timeline in
    let moved = c.go_to.new.self.timeline in
    let new = c.in_ok-go_to.ensures.body.timeline in
    let gone = c.in_ok-go_to.ensures in
    let hit = c.in_ok-hit.ensures in
    let small = spacing_small moved.most moved.spacing new.spacing in
    omega (arith, hit.within, hit.made, gone.replayed, old.position, old.most, old.bound, new.bound, small)

pub returns-clause-session : goal.returns-clause-session
returns-clause-session c =
    let old = c.args.self.now in
    let g = setting old.timeline in
    let x = session_of old in
    let at : ℕ → Session = λ p. record x { position = p } in
    c.in_ok-go_to.ensures.session
    ∙ ap at (c.in_ok-hit.ensures.position ∙ ap (λ test. hit_before test x.position) (same_hits g x))
