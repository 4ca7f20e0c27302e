use Rattle.std.proofs.Common.{◌≡◌, ◌+◌, [], ◌∷◌, ◌++◌, drop, get_or, sym, ap, ◌∙◌}
use Rattle.std.proofs.lemmas.List.{drop_all, drop_more}
use Rattle.machine.specs.Machine.{with_state}
use Rattle.machine.specs.Runs.{run_of}
use Rattle.explaining.specs.EventTurns.{event_turns}
use Rattle.explaining.proofs.Replays.{run_on, run_over, turns_on}
use Rattle.explaining.proofs.event_turns.event_turns.Goals as goal

pub loop-place-preserved : goal.loop-place-preserved
loop-place-preserved c =
    let xs = c.args.choices.now in
    let k = c.loop-place.place in
    let t = get_or xs k 0 in
    let rest = drop (k + 1) xs in
    let here : drop k xs ≡ t ∷ rest = drop_more xs k 0 c.loop-place-test.true in
    let m = c.loop-place.machine in
    let so_far = c.loop-place.events.items in (
      c.in_ok-take_turn.ensures.trace,
      rw (c.in_ok-take_turn.ensures.events, c.in_ok-take_turn.ensures.machine)
          (turns_on so_far (k + 1) m t rest ∙ ap (λ cs. so_far ++ event_turns (k + 1) m cs) (sym here) ∙ c.loop-place.invariant.1),
      rw c.in_ok-take_turn.ensures.machine
          (run_on m t rest ∙ ap (λ cs. with_state m (run_of m cs).state) (sym here) ∙ c.loop-place.invariant.2),
    )

pub returns-clause-state : goal.returns-clause-state
returns-clause-state c =
    let m = c.loop-place.machine in
    let none : drop c.loop-place.place c.args.choices.now ≡ [] = drop_all c.loop-place.place c.args.choices.now c.loop-place-test.false in
    sym (run_over m) ∙ ap (λ cs. with_state m (run_of m cs).state) (sym none) ∙ c.loop-place.invariant.2
