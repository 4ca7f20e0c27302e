-- A thread that stays can take its turn.
use Rattle.std.proofs.Common.{Bool, List, None, Option, Some, ap, false, inl, inr, length, refl, sym, true, ℕ, ◌&&◌, ◌<◌, ◌∙◌, ◌≡◌}
use Rattle.std.proofs.lemmas.Bool.{and_parts, false≢true}
use Rattle.std.proofs.lemmas.Option.{slice_get_within}
use Rattle.std.specs.Prelude.{nat_eq, not, slice_get, ◌⊎◌, ◌||◌}
use Rattle.departures.specs.Jobs.{CanTakeLocals}
use Rattle.departures.specs.Turns.{CanTake}
use Rattle.explore_jobs.specs.Stays.{includes, is_outside, stays, top_method}
use Rattle.jvms_machine.specs.Decisions.{outcome_of}
use Rattle.jvms_machine.specs.Start.{Start}
use Rattle.jvms_machine.specs.State.{State, Thread}
use Rattle.jvms_machine.specs.Status.{is_enabled}
use Rattle.jvms_machine.specs.Turn.{decide, thread_decision, turn}
use Rattle.jvms_machine.specs.declared.machine.Limits.{Limits}
use Rattle.jvms_program.specs.declared.program.Class.{Class}
use Rattle.local_laws.specs.Local.{is_local}
use Rattle.local_turns.specs.Turns.{turns_of}
use Rattle.velodrome.specs.Specification.{Specification}

one_of : (a b : Bool) → (a || b) ≡ true → (a ≡ true) ⊎ (b ≡ true)
one_of true b is = inl refl
one_of false b is = inr is

module _ (program : List Class) (limits : Limits) (start : Start) where
  absent_is_off : (s : State) (t : ℕ) → slice_get s.threads t ≡ None → is_enabled (turn program limits start s t).outcome ≡ false
  unfolding turn decide
  absent_is_off s t none = ap (λ (o : Option Thread). is_enabled (outcome_of (thread_decision program limits start s t o))) none

  started_by : (s : State) (t : ℕ) (o : Option Thread) → slice_get s.threads t ≡ o → is_enabled (turn program limits start s t).outcome ≡ true → t < length s.threads
  started_by s t None found on = absurd (false≢true (sym (absent_is_off s t found) ∙ on))
  started_by s t (Some thread) found on = slice_get_within s.threads t thread found

  outside_can_take : (within : Specification) (s : State) (t : ℕ) → is_outside program limits start within s t ≡ true → CanTake (turns_of program limits start) s t
  outside_can_take within s t outside =
      let on = is_enabled (turn program limits start s t).outcome in
      let both = and_parts (not (nat_eq (length within) 0) && on) (not (includes within (top_method program s t))) outside in
      let enabled = (and_parts (not (nat_eq (length within) 0)) on both.0).1 in
      record { started = started_by s t (slice_get s.threads t) refl enabled; on = enabled }

  pub staying_can_take : (within : Specification) → CanTakeLocals (turns_of program limits start) (is_local program limits start) → CanTakeLocals (turns_of program limits start) (stays program limits start within)
  staying_can_take within can s t is =
      elim (one_of (is_outside program limits start within s t) (is_local program limits start s t) is) [
        | inl outside ↦ outside_can_take within s t outside
        | inr here ↦ can s t here
      ]
