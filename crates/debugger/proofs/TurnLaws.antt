-- Consecutive turns of a thread.
use Rattle.std.proofs.Common.{◌≡◌, ℕ, zero, suc, ◌<◌, ◌≤◌, List, ◌∷◌, replicate, Option, Some, refl, sym, ap, ◌∙◌, arith}
use Rattle.std.proofs.lemmas.List.{append-nil}
use Rattle.std.specs.Option.{unwrap_or}
use Rattle.jvms_machine.specs.declared.machine.Outcome.TheVariants as outcome
use Rattle.jvms_machine.specs.declared.trace.Item.{Item}
use Rattle.jvms_machine.specs.Run.{run_from}
use Rattle.machine.specs.Machine.{Machine, transition_of, with_state}
use Rattle.machine.specs.Runs.{RanAmong, AreRunTurns}
use Rattle.trace.specs.Recording.{with_items}
use Rattle.trace.proofs.Recorded.{recorded_both, recorded_none}
use Rattle.debugger.specs.States.{last_outcome}
use Rattle.debugger.specs.Walks.{turns_of}

-- Turns that ran are the turns of the choices.
pub ran_state : (n t threads : ℕ) (m after : Machine) (items more : Option (List Item)) → AreRunTurns n t threads m items after more → after ≡ with_state m (turns_of m t n).state
unfolding AreRunTurns run_from
ran_state zero t threads m after items more ran = ran.0
ran_state (suc n) t threads m after items more ran = ran_state n t threads (with_state m (transition_of m t).state) after (with_items items (transition_of m t).items) more ran.1

pub ran_items : (n t threads : ℕ) (m after : Machine) (items more : Option (List Item)) → AreRunTurns n t threads m items after more → more ≡ with_items items (turns_of m t n).items
unfolding AreRunTurns run_from
ran_items zero t threads m after items more ran = ran.1 ∙ sym (recorded_none items)
ran_items (suc n) t threads m after items more ran =
    let next = with_state m (transition_of m t).state in
    ran_items n t threads next after (with_items items (transition_of m t).items) more ran.1 ∙ recorded_both items (transition_of m t).items (turns_of next t n).items

ran_outcomes : (n t threads : ℕ) (m after : Machine) (items more : Option (List Item)) → AreRunTurns n t threads m items after more → (turns_of m t n).outcomes ≡ replicate n outcome.Ran
unfolding AreRunTurns run_from
ran_outcomes zero t threads m after items more ran = refl
ran_outcomes (suc n) t threads m after items more ran =
    let next = with_state m (transition_of m t).state in
    let among : RanAmong threads m t = ran.0 in
    let rest = ran_outcomes n t threads next after (with_items items (transition_of m t).items) more ran.1 in
    ap (λ o. o ∷ (turns_of next t n).outcomes) among.0 ∙ ap (λ os. outcome.Ran ∷ os) rest

last_ran : (n : ℕ) → last_outcome (replicate (suc n) outcome.Ran) ≡ Some outcome.Ran
last_ran zero = refl
last_ran (suc n) = ap (λ o. Some (unwrap_or o outcome.Ran)) (last_ran n)

-- The last of turns that ran has run.
pub ran_last : (n t threads : ℕ) (m after : Machine) (items more : Option (List Item)) → 0 < n → AreRunTurns n t threads m items after more → last_outcome (turns_of m t n).outcomes ≡ Some outcome.Ran
ran_last zero t threads m after items more some ran = let no : ⊥ = omega arith in absurd no
ran_last (suc n) t threads m after items more some ran = ap last_outcome (ran_outcomes (suc n) t threads m after items more ran) ∙ last_ran n

-- If no turn ran, nothing has changed.
pub none_ran : (n t threads : ℕ) (m after : Machine) (items more : Option (List Item)) → n ≤ 0 → AreRunTurns n t threads m items after more → (after ≡ m) × (more ≡ items)
unfolding AreRunTurns
none_ran zero t threads m after items more none ran = ran
none_ran (suc n) t threads m after items more none ran = let no : ⊥ = omega arith in absurd no

-- One turn.
pub one_state : (t : ℕ) (m : Machine) → (turns_of m t 1).state ≡ (transition_of m t).state
unfolding run_from
one_state t m = refl

pub one_items : (t : ℕ) (m : Machine) → (turns_of m t 1).items ≡ (transition_of m t).items
unfolding run_from
one_items t m = append-nil (transition_of m t).items

pub one_last : (t : ℕ) (m : Machine) → last_outcome (turns_of m t 1).outcomes ≡ Some (transition_of m t).outcome
unfolding run_from
one_last t m = refl
