-- A run of one list of choices after another.
use Rattle.std.proofs.Common.{◌≡◌, ℕ, List, [], ◌∷◌, ◌++◌, refl, ap, sym, ◌∙◌}
use Rattle.std.proofs.lemmas.List.{append-nil, append_assoc}
use Rattle.jvms_program.specs.declared.program.Class.{Class}
use Rattle.jvms_machine.specs.declared.machine.Limits.{Limits}
use Rattle.jvms_machine.specs.Start.{Start}
use Rattle.jvms_machine.specs.State.{State}
use Rattle.jvms_machine.specs.Turn.{Transition, turn}
use Rattle.jvms_machine.specs.Run.{RunResult, with_first, joined_results, run_from}

pub run_append : (program : List Class) (limits : Limits) (start : Start) (s : State) (xs ys : List ℕ)
    → run_from program limits start s (xs ++ ys) ≡ joined_results (run_from program limits start s xs) (run_from program limits start (run_from program limits start s xs).state ys)
unfolding run_from
run_append program limits start s [] ys = refl
run_append program limits start s (x ∷ xs) ys =
    let row = turn program limits start s x in
    let r = run_from program limits start row.state xs in
    let q = run_from program limits start r.state ys in
    ap (with_first row) (run_append program limits start row.state xs ys)
    ∙ ap (λ items. record { outcomes = row.outcome ∷ r.outcomes ++ q.outcomes; state = q.state; items = items }) (sym (append_assoc row.items r.items q.items))

-- Returns the result of one transition.
abbrev pub of_row : Transition → RunResult
of_row row = record { outcomes = row.outcome ∷ []; state = row.state; items = row.items }

-- A run of one more choice.
pub run_next : (program : List Class) (limits : Limits) (start : Start) (s : State) (xs : List ℕ) (t : ℕ)
    → run_from program limits start s (xs ++ t ∷ []) ≡ joined_results (run_from program limits start s xs) (of_row (turn program limits start (run_from program limits start s xs).state t))
unfolding run_from
run_next program limits start s xs t =
    let r = run_from program limits start s xs in
    let row = turn program limits start r.state t in
    run_append program limits start s xs (t ∷ [])
    ∙ ap (λ items. joined_results r (record { outcomes = row.outcome ∷ []; state = row.state; items = items })) (append-nil row.items)
