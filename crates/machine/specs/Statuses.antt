-- The status of a machine, one thread after another.
use Rattle.std.specs.Prelude.{ℕ, ◌+◌, Bool, false, ◌||◌, List, [], ◌∷◌}
use Rattle.jvms_machine.specs.declared.machine.Outcome.{Outcome}
use Rattle.jvms_machine.specs.State.{Thread}
use Rattle.invoke.specs.machine_parts.Machine.{Machine, transition_of}

-- Decides whether the next outcome of one of these threads passes a test. The first of them has number `t`.
abbrev pub any_thread : (Outcome → Bool) → Machine → ℕ → List Thread → Bool
any_thread test m t [] = false
any_thread test m t (x ∷ xs) = test (transition_of m t).outcome || any_thread test m (t + 1) xs
