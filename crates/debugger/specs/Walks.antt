-- Defines replays: a copy of a session's machine takes turns along the choices, and the session keeps part of the
-- result.
use Rattle.std.specs.Prelude.{◌≡◌, ℕ, ◌+◌, ◌*◌, ◌/◌, ◌^◌, ◌<◌, ◌≤◌, max, List, ◌++◌, length, drop, replicate}
use Rattle.jvms_machine.specs.declared.trace.Item.{Item}
use Rattle.jvms_machine.specs.Run.{RunResult}
use Rattle.machine.specs.Machine.{Machine}
use Rattle.machine.specs.Runs.{run_of}
use Rattle.debugger.specs.declared.replay.Replay.{Replay}
use Rattle.debugger.specs.declared.reach.Reach.{Reach}
use Rattle.debugger.specs.declared.walk.Walk.{Walk}
use Rattle.debugger.specs.Marks.{mark_at, AreMarks, IsSpacing}
use Rattle.debugger.specs.States.{Setting, items_at}

-- Returns the result of n consecutive turns of a thread.
abbrev pub turns_of : Machine → ℕ → ℕ → RunResult
turns_of m t n = run_of m (replicate n t)

-- The machine is the one at its position. It has taken at most as many turns as there are choices before the position.
pub record IsReplay (g : Setting) (choices : List ℕ) (r : Replay) : Type 0 where
  pub within : r.position ≤ length choices
  pub made : r.made ≤ r.position
  pub mark : r.mark ≡ mark_at g choices r.position

-- The invariant of the reach: what is kept of the positions after the session's.
pub record IsReach (g : Setting) (choices : List ℕ) (r : Reach) : Type 0 where
  pub from : r.from ≤ r.far
  pub far : r.far ≤ length choices
  pub most : r.far ≤ r.most
  pub spacing : IsSpacing r.most r.spacing
  pub ratio : r.spacing ≡ r.ratio * r.base
  pub ratio_positive : 0 < r.ratio
  pub ratio_small : r.ratio ≤ r.spacing
  pub base_small : r.base ≤ r.spacing
  pub fresh : AreMarks (mark_at g choices) r.spacing (r.from / r.spacing + 1) r.far r.fresh.items

-- A reach whose spacing grows for a target position. It may be too small yet.
pub record IsAiming (g : Setting) (choices : List ℕ) (place : ℕ) (old r : Reach) : Type 0 where
  pub from : r.from ≡ old.from
  pub far : r.far ≡ old.far
  pub base : r.base ≡ old.base
  pub most : r.most ≡ place
  pub places : r.from ≤ r.far
  pub within : r.far ≤ length choices
  pub up : r.far ≤ place
  pub power : (k : ℕ) × (r.spacing ≡ 2 ^ k)
  pub positive : 0 < r.spacing
  pub least : 1 < r.spacing → 32 * r.spacing ≤ place
  pub ratio : r.spacing ≡ r.ratio * r.base
  pub ratio_positive : 0 < r.ratio
  pub ratio_small : r.ratio ≤ r.spacing
  pub base_small : r.base ≤ r.spacing
  pub fresh : AreMarks (mark_at g choices) r.spacing (r.from / r.spacing + 1) r.far r.fresh.items

-- Returns the items of the choices between two positions.
abbrev pub items_between : Setting → List ℕ → ℕ → ℕ → List Item
items_between g choices n m = drop (length (items_at g choices n)) (items_at g choices m)

-- The invariant of a walk. The items up to the session's greatest position are in memory, so their number fits a
-- machine word.
pub record IsWalk (g : Setting) (choices : List ℕ) (w : Walk) : Type 0 where
  pub replay : IsReplay g choices w.replay
  pub reach : IsReach g choices w.reach
  pub far : w.reach.far ≡ max w.reach.from w.replay.position
  pub few : length (items_at g choices w.reach.from) < 2 ^ 63
  pub items : items_at g choices w.reach.far ≡ items_at g choices w.reach.from ++ w.items
