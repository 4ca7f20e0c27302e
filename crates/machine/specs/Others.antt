-- The effect of a turn on the other threads.
use Rattle.std.specs.Prelude.{◌≡◌, ◌≢◌, ℕ, true, false}
use Rattle.enabled_laws.specs.Quiet.{is_quiet_decision}
use Rattle.jvms_machine.specs.Status.{is_bad, is_enabled}
use Rattle.invoke.specs.machine_parts.Machine.{Machine, decision_of, transition_of}

-- The turn keeps what other threads wait for.
abbrev pub IsQuietTurn : Machine → ℕ → Type 0
IsQuietTurn m t = is_quiet_decision (decision_of m t) ≡ true

-- The thread's turn isn't Bad, and it is enabled after another thread's turn if and only if it was before.
pub record IsAsEnabled (before after : Machine) (u : ℕ) : Type 0 where
  pub enabled : is_enabled (transition_of after u).outcome ≡ is_enabled (transition_of before u).outcome
  pub fit : is_bad (transition_of after u).outcome ≡ false

-- Each other thread whose turn isn't Bad is as enabled as it was.
abbrev pub LeavesOthers : Machine → ℕ → Machine → Type 0
LeavesOthers before t after = (u : ℕ) → u ≢ t → is_bad (transition_of before u).outcome ≡ false → IsAsEnabled before after u
