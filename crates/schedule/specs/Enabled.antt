-- The enabled threads of a machine.
use Rattle.std.specs.Prelude.{ℕ, Bool, List, length}
use Rattle.jvms_machine.specs.Status.{is_enabled}
use Rattle.machine.specs.Machine.{Machine, transition_of}
use Rattle.schedule.specs.Choosers.{enabled_of}

-- Decides whether the thread is enabled: it can take its next turn.
abbrev pub is_enabled_in : Machine → ℕ → Bool
is_enabled_in m t = is_enabled (transition_of m t).outcome

-- Returns the enabled threads of a machine, in rising order.
abbrev pub enabled_threads : Machine → List ℕ
enabled_threads m = enabled_of (is_enabled_in m) (length m.state.threads)
