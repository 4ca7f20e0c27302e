-- Defines what the parts of an exploration found together (own).
use Rattle.std.specs.Prelude.{◌≡◌, ◌==◌, ◌<◌, ◌≤◌, ◌⊎◌, ℕ, Bool, false, true, List, All, Any, IfSome, Option, None, Some, count_by, length}
use Rattle.std.specs.String.{string_bytes}
use Rattle.departures.specs.declared.departure.Departure.{Departure}
use Rattle.exploration_joins.specs.Orders.{comes_before, failing_below}
use Rattle.exploration_joins.specs.Sums.{AreSums, AreTooMany}
use Rattle.exploration_joins.specs.declared.fault.JoinFault.{JoinFault}
use Rattle.exploration_joins.specs.declared.fault.JoinFault.TheVariants as fault
use Rattle.exploration_joins.specs.declared.found.Found.{Found}
use Rattle.exploration_joins.specs.declared.found.Found.TheVariants as found
use Rattle.exploration_joins.specs.declared.joined.Joined.{Joined}
use Rattle.exploration_joins.specs.declared.part.PartText.{PartText}

-- Returns the words of what was covered, if all was found to be.
abbrev pub covered_words : Found → Option (List ℕ)
covered_words (found.Failing departures words) = None
covered_words (found.Covered words) = Some (string_bytes words)
covered_words found.Stopped = None

-- Decides whether all was found to be covered.
abbrev pub covers : Found → Bool
covers (found.Failing departures words) = false
covers (found.Covered words) = true
covers found.Stopped = false

-- The run of these departures was found to fail, in these words.
abbrev pub IsRun : List Departure → List ℕ → Found → Type 0
IsRun run words (found.Failing departures others) = (departures.items ≡ run) × (string_bytes others ≡ words)
IsRun run words (found.Covered others) = ⊥
IsRun run words found.Stopped = ⊥

-- A part found that this run fails, which has fewer departures than there are levels. No such run that a part found comes
-- before it.
pub record IsFirstFailing (parts : List PartText) (levels : ℕ) (run : List Departure) (words : List ℕ) : Type 0 where
  pub below : length run < levels
  pub one : Any (λ part. IsRun run words part.found) parts
  pub first : All (λ part. IfSome (failing_below levels part.found) (λ other. comes_before other run ≡ false)) parts

-- No part found a run that fails and has fewer departures than there are levels.
abbrev pub NoneFails : List PartText → ℕ → Type 0
NoneFails parts levels = All (λ part. failing_below levels part.found ≡ None) parts

-- The part has this number, and found in these words that all its schedules are covered.
pub record IsCoveredPart (words : List ℕ) (index : ℕ) (part : PartText) : Type 0 where
  pub number : part.part.index ≡ index
  pub covers : covered_words part.found ≡ Some words

-- A part found in these words that all its schedules are covered. So did a part of each number below the number of parts.
pub record AreAllCovered (parts : List PartText) (words : List ℕ) : Type 0 where
  pub one : Any (λ part. covered_words part.found ≡ Some words) parts
  pub each : All (λ part. (index : ℕ) → index < part.part.count → Any (IsCoveredPart words index) parts) parts

-- A part of each number below this one found that all its schedules are covered.
abbrev pub AreCoveredBelow : List PartText → ℕ → Type 0
AreCoveredBelow parts count =
    (index : ℕ) → index < count → Any (λ part. (part.part.index ≡ index) × (covers part.found ≡ true)) parts

-- This is what the parts found together if no run fails: all is covered if each part is there and covers its schedules.
abbrev pub IsCoveredBy : List PartText → Found → Type 0
IsCoveredBy parts (found.Failing departures words) = ⊥
IsCoveredBy parts (found.Covered words) = AreAllCovered parts (string_bytes words)
IsCoveredBy parts found.Stopped = (words : List ℕ) → AreAllCovered parts words → ⊥

-- Both are the same.
abbrev pub AreSame : Found → Found → Type 0
AreSame (found.Failing departures words) other = IsRun departures.items (string_bytes words) other
AreSame (found.Covered words) other = covered_words other ≡ Some (string_bytes words)
AreSame found.Stopped other = other ≡ found.Stopped

-- This is what the parts found together at the levels that all of them have: the first run that fails, else that all is
-- covered, where there is each part and all its schedules are, and else neither.
abbrev pub IsFoundBy : List PartText → ℕ → Found → Type 0
IsFoundBy parts levels (found.Failing departures words) = IsFirstFailing parts levels departures.items (string_bytes words)
IsFoundBy parts levels (found.Covered words) = NoneFails parts levels × AreAllCovered parts (string_bytes words)
IsFoundBy parts levels found.Stopped = NoneFails parts levels × IsCoveredBy parts found.Stopped

-- The part found in other words that all its schedules are covered.
pub record CoversOther (words : List ℕ) (part : PartText) : Type 0 where
  pub others : List ℕ
  pub covers : covered_words part.found ≡ Some others
  pub differ : others ≡ words → ⊥

-- If the part found that all its schedules are covered, then in these words.
abbrev pub CoversNoOther : List ℕ → PartText → Type 0
CoversNoOther words part = (others : List ℕ) → covered_words part.found ≡ Some others → others ≡ words

-- Two parts are of the same number of parts. If both found that all is covered, then in the same words.
pub record AreAlike (one other : PartText) : Type 0 where
  pub count : one.part.count ≡ other.part.count
  pub words : (a b : List ℕ) → covered_words one.found ≡ Some a → covered_words other.found ≡ Some b → a ≡ b

-- All parts are of one exploration.
abbrev pub AreOfOne : List PartText → Type 0
AreOfOne parts = All (λ one. All (AreAlike one) parts) parts

-- Two parts aren't of one exploration.
abbrev pub AreOfSeveral : List PartText → Type 0
AreOfSeveral parts = Any (λ one. Any (λ other. AreAlike one other → ⊥) parts) parts

-- Returns how many of the parts have this number.
abbrev pub parts_of : ℕ → List PartText → ℕ
parts_of index parts = count_by (λ part. part.part.index == index) parts

-- This is the least number that two parts have.
pub record IsFirstRepeated (parts : List PartText) (index : ℕ) : Type 0 where
  pub two : 2 ≤ parts_of index parts
  pub least : (other : ℕ) → other < index → parts_of other parts ≤ 1

-- The parts are those of one exploration, no number is there twice, and this is what they found together.
pub record IsJoined (parts : List PartText) (joined : Joined) : Type 0 where
  pub one : AreOfOne parts
  pub once : (index : ℕ) → parts_of index parts ≤ 1
  pub sums : AreSums parts joined.levels.items
  pub found : IsFoundBy parts (length joined.levels.items) joined.found

-- The parts can't be joined for this reason. Nothing is said of memory.
abbrev pub IsReason : List PartText → JoinFault → Type 0
IsReason parts (fault.Repeated index) = AreOfOne parts × IsFirstRepeated parts index
IsReason parts fault.Other = AreOfSeveral parts ⊎ AreTooMany parts
IsReason parts fault.Memory = Unit {0}
