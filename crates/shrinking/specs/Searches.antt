-- Searches for departures that can be left out, on their way.
use Rattle.std.specs.Prelude.{◌≡◌, ◌≤◌, ◌==◌, nat_le, Bool, true, false, not, ◌&&◌, ◌||◌, List, length, IsTrue}
use Rattle.departures.specs.declared.departure.Departure.{Departure}
use Rattle.explore_jobs.specs.Fates.{IsFateOf}
use Rattle.explore_jobs.specs.declared.plan.Plan.{Plan}
use Rattle.jvms_program.specs.declared.program.Class.{Class}
use Rattle.shrinking.specs.Failures.{fails_by}
use Rattle.shrinking.specs.Least.{AreNeeded, IsLeast}
use Rattle.shrinking.specs.Parts.{IsPartOf}
use Rattle.shrinking.specs.declared.failure.Failure.{Failure}
use Rattle.shrinking.specs.declared.shrunk.Pass.{Pass}
use Rattle.shrinking.specs.declared.shrunk.Shrunk.{Shrunk}

-- Decides whether a pass over departures that is at its end was the last: there are none, or it tried each one, and left out
-- none.
abbrev pub is_last : Pass → List Departure → Bool
is_last pass departures = (length departures == 0) || (nat_le pass.size 1 && not pass.has_left_out)

module _ (program : List Class) (plan : Plan) (way : Failure) where
  -- The departures that are left are some of the given ones, and their run fails in this way. Those that the pass tried one
  -- by one are needed, if it left out none.
  pub record IsOnWay (given : List Departure) (pass : Pass) (shrunk : Shrunk) : Type 0 where
    pub part : IsPartOf shrunk.departures.items given
    pub fate : IsFateOf program plan shrunk.departures.items shrunk.fate
    pub fails : fails_by plan.most way shrunk.fate ≡ true
    pub tried : pass.size ≤ 1 → pass.has_left_out ≡ false → AreNeeded program plan way pass.from shrunk.departures.items
    pub least : IsTrue shrunk.is_least → IsLeast program plan way shrunk.departures.items
