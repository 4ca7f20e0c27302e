-- Turns that keep what other threads wait for, by their states and outcomes.
use Rattle.std.specs.Prelude.{◌≡◌, Bool, false, length}
use Rattle.jvms_machine.specs.declared.machine.Outcome.{Outcome}
use Rattle.jvms_machine.specs.declared.machine.Outcome.TheVariants as outcome
use Rattle.jvms_machine.specs.State.{State}
use Rattle.jvms_machine.specs.Turn.{Transition}

-- Decides whether the thread ends in the turn.
abbrev pub ends_thread : Outcome → Bool
ends_thread (outcome.Ended last) = last
ends_thread _ = false

-- The turn keeps the held monitors and the initialisations of classes, starts no thread, and doesn't end its own.
pub record Keeps (s : State) (transition : Transition) : Type 0 where
  pub monitors : transition.state.monitors ≡ s.monitors
  pub initialisations : transition.state.initialisations ≡ s.initialisations
  pub threads : length transition.state.threads ≡ length s.threads
  pub continues : ends_thread transition.outcome ≡ false
