-- Defines the joined tables of parts of a campaign (own).
use Rattle.std.specs.Prelude.{◌≡◌, ℕ, ◌+◌, List, [], ◌∷◌, length}
use Rattle.std.specs.List.{flat_map}
use Rattle.velodrome.specs.Cycles.{IsIn}
use Rattle.campaign_jobs.specs.declared.result.JobResult.{JobResult}
use Rattle.campaign_text.specs.declared.part.Part.{Part}

-- Returns the results of a part.
abbrev pub results_of : Part → List JobResult
results_of part = part.table.results.items

-- The first part begins with this job, and each other with the job after the last one of the part before it.
abbrev pub AreConsecutive : ℕ → List Part → Type 0
AreConsecutive first [] = Unit {0}
AreConsecutive first (part ∷ parts) = (part.first ≡ first) × AreConsecutive (first + length (results_of part)) parts

-- Returns the number of results of all parts.
abbrev pub count_of : List Part → ℕ
count_of [] = 0
count_of (part ∷ parts) = length (results_of part) + count_of parts

-- The results are those of consecutive parts from job 0 on. Each of them is one of these parts.
pub record AreChained (parts : List Part) (results : List JobResult) : Type 0 where
  pub chain : List Part
  pub among : (part : Part) → IsIn part chain → IsIn part parts
  pub consecutive : AreConsecutive 0 chain
  pub are : results ≡ flat_map results_of chain

-- No result is omitted.
pub record AreJoined (parts : List Part) (results : List JobResult) : Type 0 where
  pub chained : AreChained parts results
  pub all : length results ≡ count_of parts
