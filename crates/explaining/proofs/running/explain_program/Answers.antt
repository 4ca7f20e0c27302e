-- The items of the run may be fed, and the explanation is that of the run.
use Rattle.std.proofs.Common.{◌≡◌, ◌++◌, Ok, ap, subst, ◌∙◌}
use Rattle.std.specs.String.{string_bytes}
use Rattle.machine.specs.Started.{opened_machine}
use Rattle.program_runs.specs.Shown.{view_of_traced}
use Rattle.program_runs.proofs.ShownRuns.{shown_may_be_fed}
use Rattle.explaining.specs.EventTurns.{event_turns}
use Rattle.explaining.specs.Explanations.{program_explanation, stuck_lines, verdict_part}
use Rattle.explaining.proofs.Explained.{is_explanation}
use Rattle.explaining.proofs.running.explain_program.Goals as goal

pub explain_items-requires : goal.explain_items-requires
explain_items-requires c =
    rw c.items.ensures
    (λ lines. shown_may_be_fed lines _ _ _ _ _ (view_of_traced c.in_ok-traced.traced) c.program_invariant.ensures c.turns.ensures.within c.in_ok-traced.ensures.shown)

pub returns-clause-explained : goal.returns-clause-explained
returns-clause-explained c =
    let run = c.in_ok-traced.traced in
    let replayed = c.in-Ok.ensures in
    let program = c.args.program.now in
    let first = c.args.sources.now.first in
    let files = c.args.sources.now.files.now in
    let m = opened_machine program c.args.limits replayed.0 in
    let lines = c.args.spec in
    let j = c.in_ok-explained.explained.judgement in
    let events = c.as_slice-events.ensures.value ∙ replayed.2 ∙ ap (event_turns 1 m) c.as_slice-choices.ensures in
    let verdict : string_bytes c.in_ok-explained.explained.text ≡ verdict_part program first files lines j run.trace (event_turns 1 m run.choices) =
    c.in_ok-explained.ensures.text ∙ ap (λ items. verdict_part program first files lines j items c.as_slice-events.result.now) c.items.ensures
    ∙ ap (λ es. verdict_part program first files lines j run.trace es) events in
    let stuck = c.as_str.ensures.value ∙ replayed.3 ∙ ap (λ cs. stuck_lines first files m cs run.ending.uncaught run.ending.status) c.as_slice-choices.ensures in
    let text = c.in_ok-push_str.ensures.bytes ∙ ap (λ part. part ++ c.as_str.result.now) verdict
    ∙ ap (λ part. verdict_part program first files lines j run.trace (event_turns 1 m run.choices) ++ part) stuck in
    let told = is_explanation first files lines j c.turns.result c.args.chooser.now c.args.limits program c.args.entry.now replayed.0 (view_of_traced run) _ replayed.1 c.in_ok-traced.ensures.shown text in
    subst (λ n. program_explanation first files lines j n c.args.chooser.now c.args.limits program c.args.entry.now ≡ Ok (string_bytes c.push_str.new.self)) c.turns.ensures.turns told
