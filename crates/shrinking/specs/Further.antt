-- Runs that go on by the default.
use Rattle.std.specs.Prelude.{◌≡◌, ℕ, List, ◌++◌}
use Rattle.departures.specs.Departures.{name_of}
use Rattle.departures.specs.Turns.{IsSchedule}
use Rattle.explore_jobs.specs.Children.{turns_in}
use Rattle.machine.specs.Machine.{Machine}

-- The choices are a machine's schedule that begins with others, and goes on by the default: both have the same departures.
pub record GoesOn (m : Machine) (turns : ℕ) (choices whole : List ℕ) : Type 0 where
  pub rest : List ℕ
  pub begins : whole ≡ choices ++ rest
  pub schedule : IsSchedule (turns_in m) turns m.state whole
  pub name : name_of (turns_in m) 0 m.state 0 whole ≡ name_of (turns_in m) 0 m.state 0 choices
