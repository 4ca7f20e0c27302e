use Rattle.std.proofs.Common.{◌≡◌, Some, None, ap, ◌∙◌, sym, slice_get, rules}
use Rattle.std.proofs.lemmas.Option.{gets}
use Rattle.debugger_commands.specs.Sessions.{is_thread_at}
use Rattle.debugger.specs.declared.mark.Mark.{Mark}
use Rattle.debugger.specs.Timelines.{setting}
use Rattle.debugger.proofs.HitLaws.{hit_of_choice}
use Rattle.debugger.proofs.timeline.Timeline.is_hit.Goals as goal

pub returns-in-None : goal.returns-in-None
returns-in-None c =
    let t = c.args.self.now in
    let n = c.args.replay.now.position in
    let none : slice_get c.deref.result.now n ≡ None = search (gets, rules) in
    sym (hit_of_choice (setting t) t.choices.items c.args.breakpoints.now.items n None (ap (λ l. slice_get l n) (sym c.deref.ensures.value) ∙ none))

pub returns-in-Some : goal.returns-in-Some
returns-in-Some c =
    let t = c.args.self.now in
    let n = c.args.replay.now.position in
    let thread = c.in-Some.t.now in
    let some : slice_get c.deref.result.now n ≡ Some thread = search (gets, rules) in
    c.is_thread_at.ensures ∙ ap (λ (m : Mark). is_thread_at c.args.breakpoints.now.items (slice_get m.machine.state.threads thread)) c.requires
    ∙ sym (hit_of_choice (setting t) t.choices.items c.args.breakpoints.now.items n (Some thread) (ap (λ l. slice_get l n) (sym c.deref.ensures.value) ∙ some))
