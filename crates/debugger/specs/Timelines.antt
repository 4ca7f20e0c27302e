-- Defines the timeline of a session: its choices, the machine at its position, and its checkpoints.
use Rattle.std.specs.Prelude.{◌≡◌, ℕ, ◌+◌, ◌≤◌, ◌<◌, ◌^◌, max, List, [], ◌∷◌, ◌++◌, length, take}
use Rattle.std.specs.Vec.{vec_capacity}
use Rattle.debugger.specs.declared.reach.Reach.{Reach}
use Rattle.debugger.specs.declared.replay.Replay.{Replay}
use Rattle.debugger.specs.declared.timeline.Timeline.{Timeline}
use Rattle.debugger.specs.declared.walk.Walk.{Walk}
use Rattle.debugger.specs.Marks.{mark_at, AreMarks, IsSpacing}
use Rattle.debugger.specs.States.{Setting, setting_of, items_at}
use Rattle.debugger.specs.Walks.{IsReach, IsReplay, IsWalk}

-- Returns the setting of a timeline.
abbrev pub setting : Timeline → Setting
setting t = setting_of t.here.machine

-- The extent of a timeline. `far` is the greatest position since the choices were last cut, and `most` the greatest
-- ever. `spacing` is the distance between checkpoints.
pub record Extent : Type 0 where
  pub setting : Setting
  pub choices : List ℕ
  pub position : ℕ
  pub most : ℕ
  pub far : ℕ
  pub spacing : ℕ

abbrev pub extent : Timeline → Extent
extent t = record {
  setting = setting t;
  choices = t.choices.items;
  position = t.position;
  most = t.most;
  far = t.far;
  spacing = t.spacing;
}

-- Returns the extent of a timeline before its first choice.
abbrev pub opening_extent : Setting → List ℕ → Extent
opening_extent g choices = record { setting = g; choices = choices; position = 0; most = 0; far = 0; spacing = 1 }

-- The machine is the one at the position, and each checkpoint is the machine at its own position.
pub record IsTimeline (t : Timeline) : Type 0 where
  pub position : t.position ≤ t.far
  pub far : t.far ≤ length t.choices.items
  pub most : t.far ≤ t.most
  pub bound : t.most < 2 ^ 63
  pub spacing : IsSpacing t.most t.spacing
  pub here : t.here ≡ mark_at (setting t) t.choices.items t.position
  pub checkpoints : AreMarks (mark_at (setting t) t.choices.items) t.spacing 0 t.far t.checkpoints.items
  pub room : 64 ≤ vec_capacity t.checkpoints
  pub few : length (items_at (setting t) t.choices.items t.far) < 2 ^ 63

-- A replay along a timeline's choices, with the reach that it adds.
pub record IsAlong (t : Timeline) (r : Replay) (x : Reach) : Type 0 where
  pub replay : IsReplay (setting t) t.choices.items r
  pub reach : IsReach (setting t) t.choices.items x
  pub setting : setting_of r.mark.machine ≡ setting t
  pub far : x.far ≡ max x.from r.position
  pub from : x.from ≡ t.far
  pub base : x.base ≡ t.spacing
  pub most : t.most ≤ x.most
  pub bound : x.most ≤ max t.most (length t.choices.items)

-- A walk along a timeline's choices.
pub record IsWalkOf (t : Timeline) (w : Walk) : Type 0 where
  pub walk : IsWalk (setting t) t.choices.items w
  pub along : IsAlong t w.replay w.reach

-- Choices with another one in place of those after the position.
pub record IsBranch (t : Timeline) (choices : List ℕ) : Type 0 where
  pub same : take t.position choices ≡ take t.position t.choices.items
  pub count : length choices ≡ t.position + 1

-- Returns the choices before the position, followed by another one.
abbrev pub branch_of : Timeline → ℕ → List ℕ
branch_of t choice = take t.position t.choices.items ++ choice ∷ []

-- A walk along a branch, which begins at the position.
pub record BeginsBranch (t : Timeline) (choices : List ℕ) (w : Walk) : Type 0 where
  pub walk : IsWalk (setting t) choices w
  pub setting : setting_of w.replay.mark.machine ≡ setting t
  pub position : w.replay.position ≡ t.position
  pub made : w.replay.made ≡ 0
  pub from : w.reach.from ≡ t.position
  pub base : w.reach.base ≡ t.spacing
  pub most : w.reach.most ≡ t.most

-- Returns the extent of a timeline after it moved to a replay's position.
abbrev pub extent_after_move : Extent → Replay → Reach → Extent
extent_after_move e r x = record e { position = r.position; most = x.most; far = x.far; spacing = x.spacing }
