-- The condition for a list of enabled threads to be current.
use Rattle.std.specs.Prelude.{◌≡◌, ℕ, ◌<◌, false, not, if◌then◌else◌, ◌⊎◌, Bool, IsTrue, List, [], ◌∷◌, length}
use Rattle.jvms_machine.specs.Status.{is_bad}
use Rattle.machine.specs.Machine.{Machine, transition_of}
use Rattle.schedule.specs.Choosers.{may_be_enabled}
use Rattle.schedule.specs.Enabled.{is_enabled_in, enabled_threads}
use Rattle.runs.specs.declared.kept.Kept.{Kept}

-- Returns a list of the thread, if it is enabled.
abbrev pub one_enabled : Machine → ℕ → List ℕ
one_enabled m t = if is_enabled_in m t then t ∷ [] else []

-- Decides that the thread's turn isn't Bad.
abbrev pub is_fit : Machine → ℕ → Bool
is_fit m t = not (is_bad (transition_of m t).outcome)

-- These are the enabled threads of a machine, and no thread's turn is Bad.
pub record AreEnabled (m : Machine) (threads : List ℕ) : Type 0 where
  pub enabled : threads ≡ enabled_threads m
  pub fit : (u : ℕ) → u < length m.state.threads → is_bad (transition_of m u).outcome ≡ false

-- The marked threads are idle: they aren't enabled, and their turns aren't Bad.
pub record AreIdle (m : Machine) (idle : List Bool) : Type 0 where
  pub not_on : (u : ℕ) → may_be_enabled idle u ≡ false → is_enabled_in m u ≡ false
  pub fit : (u : ℕ) → may_be_enabled idle u ≡ false → is_bad (transition_of m u).outcome ≡ false

-- Each thread that is marked after this was marked before, or is this one.
abbrev pub MarksOne : List Bool → List Bool → ℕ → Type 0
MarksOne before after thread = (u : ℕ) → may_be_enabled after u ≡ false → (may_be_enabled before u ≡ false) ⊎ (u ≡ thread)

-- If the list is current, it has the enabled threads of a machine, and no thread's turn is Bad. The threads that are
-- marked as idle are idle.
pub record IsKept (m : Machine) (kept : Kept) : Type 0 where
  pub current : IsTrue kept.is_current → AreEnabled m kept.threads.items
  pub beside : AreIdle m kept.idle.items
