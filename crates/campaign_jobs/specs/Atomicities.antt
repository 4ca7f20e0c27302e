-- Defines the atomicity of a run (Velodrome, PLDI 2008, sections 3 and 4).
use Rattle.std.specs.Prelude.{Bool, true, false, List}
use Rattle.velodrome.specs.declared.verdict.Verdict.{Verdict}
use Rattle.velodrome.specs.declared.verdict.Verdict.TheVariants as verdict
use Rattle.velodrome.specs.Cycles.{AreAtomic, IsFirstAt}
use Rattle.velodrome.specs.Transactions.{Event}
use Rattle.campaign_jobs.specs.declared.result.Atomicity.{Atomicity}
use Rattle.campaign_jobs.specs.declared.result.Atomicity.TheVariants as atomicity

-- The events have no cycle, or this is the least number of first events that have one.
abbrev pub IsAtomicityOf : List Event → Atomicity → Type 0
IsAtomicityOf events atomicity.Atomic = AreAtomic events
IsAtomicityOf events (atomicity.Cycle first_at) = IsFirstAt events first_at

-- Decides whether the run has a cycle.
abbrev pub has_cycle : Atomicity → Bool
has_cycle atomicity.Atomic = false
has_cycle (atomicity.Cycle first_at) = true

-- Returns the atomicity that a verdict shows, with the number of events at which the first cycle appears.
abbrev pub atomicity_of : Verdict → Atomicity
atomicity_of (verdict.Atomic order) = atomicity.Atomic
atomicity_of (verdict.Cycle first_at transactions pairs) = atomicity.Cycle first_at
