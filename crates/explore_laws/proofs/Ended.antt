-- No thread is enabled in a state whose threads have all ended.
use Rattle.std.proofs.Common.{Bool, List, Option, Some, ap, arith, false, length, refl, true, ℕ, suc, zero, ◌<◌, ◌∙◌, ◌∷◌, [], ◌≡◌}
use Rattle.std.proofs.lemmas.Bool.{and_parts, false≢true}
use Rattle.std.specs.List.{list_all}
use Rattle.std.specs.Prelude.{if◌then◌else◌, slice_get}
use Rattle.departures.specs.Turns.{IsStuck}
use Rattle.jvms_machine.specs.Decisions.{outcome_of}
use Rattle.jvms_machine.specs.Start.{Start}
use Rattle.jvms_machine.specs.State.{State, Thread, status_by}
use Rattle.jvms_machine.specs.Status.{is_enabled, status_of}
use Rattle.jvms_machine.specs.Turn.{decide, started_decision, thread_decision, turn}
use Rattle.jvms_machine.specs.declared.machine.Limits.{Limits}
use Rattle.jvms_machine.specs.declared.machine.Status.{Status}
use Rattle.jvms_machine.specs.declared.machine.Status.TheVariants as status
use Rattle.jvms_program.specs.declared.program.Class.{Class}
use Rattle.local_turns.specs.Turns.{turns_of}

abbrev is_finished : Status → Bool
is_finished status.Finished = true
is_finished other = false

finished_by : (all enabled bad : Bool) → (if all then status.Finished else (if enabled then status.Running else (if bad then status.Stalled else status.Deadlocked))) ≡ status.Finished → all ≡ true
finished_by true enabled bad is = refl
finished_by false true bad is = ap is_finished is
finished_by false false true is = ap is_finished is
finished_by false false false is = ap is_finished is

-- A thread of a list of ended threads has ended.
ended_at : (threads : List Thread) (t : ℕ) → list_all (λ (thread : Thread). thread.ended) threads ≡ true → t < length threads → (thread : Thread) × (slice_get threads t ≡ Some thread) × (thread.ended ≡ true)
ended_at [] t all there = absurd (omega (arith, there))
ended_at (thread ∷ threads) zero all there = (thread, refl, (and_parts thread.ended (list_all (λ (thread : Thread). thread.ended) threads) all).0)
ended_at (thread ∷ threads) (suc t) all there = ended_at threads t (and_parts thread.ended (list_all (λ (thread : Thread). thread.ended) threads) all).1 (omega (arith, there))

module _ (program : List Class) (limits : Limits) (start : Start) where
  over_is_off : (s : State) (t : ℕ) (thread : Thread) → thread.ended ≡ true → is_enabled (outcome_of (thread_decision program limits start s t (Some thread))) ≡ false
  over_is_off s t thread over = ap (λ b. is_enabled (outcome_of (started_decision program limits start s t thread (status_by b thread.pending thread.waits)))) over

  turn_is_off : (s : State) (t : ℕ) (thread : Thread) → slice_get s.threads t ≡ Some thread → thread.ended ≡ true → is_enabled (turn program limits start s t).outcome ≡ false
  unfolding turn decide
  turn_is_off s t thread found over = ap (λ o. is_enabled (outcome_of (thread_decision program limits start s t o))) found ∙ over_is_off s t thread over

  all_ended : (s : State) → status_of program limits start s ≡ status.Finished → list_all (λ (thread : Thread). thread.ended) s.threads ≡ true
  unfolding status_of
  all_ended s is = finished_by _ _ _ is

  pub finished_is_stuck : (s : State) → status_of program limits start s ≡ status.Finished → IsStuck (turns_of program limits start) s
  finished_is_stuck s is t there =
      let thread = ended_at s.threads t (all_ended s is) there in turn_is_off s t thread.0 thread.1 thread.2
