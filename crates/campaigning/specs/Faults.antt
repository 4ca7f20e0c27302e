-- Defines why a campaign has no table, or why it wasn't written.
use Rattle.std.specs.Prelude.{◌≡◌, ℕ, ◌<◌, ◌≤◌, ◌⊎◌, Bool, true, false, List, Result, Ok}
use Rattle.jvms_program.specs.declared.program.Class.{Class}
use Rattle.campaign_desk.specs.declared.fault.DeskFault.TheVariants as desk_fault
use Rattle.campaign_desk.specs.Limits.{most_jobs, most_workers, FitsLimits}
use Rattle.judge.specs.Faults as judge
use Rattle.judge.specs.Programs.{NotRun}
use Rattle.campaigning.specs.declared.fault.CampaignFault.{CampaignFault}
use Rattle.campaigning.specs.declared.fault.CampaignFault.TheVariants as fault

-- Decides whether memory ran out for the campaign itself, and not for its inputs or its text.
abbrev pub is_memory : CampaignFault → Bool
is_memory (fault.Desk desk_fault.Memory) = true
is_memory fault.WorkerFailed = true
is_memory _ = false

-- A campaign that began, or would have begun, halts for this reason.
abbrev pub IsHalt : ℕ → ℕ → CampaignFault → Type 0
IsHalt jobs workers (fault.Judge why) = ⊥
IsHalt jobs workers (fault.Desk desk_fault.TooManyJobs) = most_jobs < jobs
IsHalt jobs workers (fault.Desk desk_fault.TooManyWorkers) = (jobs ≤ most_jobs) × ((workers ≡ 0) ⊎ (most_workers < workers))
IsHalt jobs workers (fault.Desk desk_fault.Memory) = FitsLimits jobs workers
IsHalt jobs workers fault.WorkerFailed = FitsLimits jobs workers
IsHalt jobs workers fault.Output = ⊥

-- There is a program that the plan fits.
abbrev pub IsFitted : Result (List Class) NotRun → Type 0
IsFitted said = (program : List Class) × (said ≡ Ok program)

-- The fault of a program is the first one, unless memory ran out. The campaign's limits are tested after it.
abbrev pub IsFault : ℕ → ℕ → CampaignFault → Result (List Class) NotRun → Type 0
IsFault jobs workers (fault.Judge why) said = judge.IsFault why said
IsFault jobs workers (fault.Desk why) said = IsFitted said × IsHalt jobs workers (fault.Desk why)
IsFault jobs workers fault.WorkerFailed said = IsFitted said × IsHalt jobs workers fault.WorkerFailed
IsFault jobs workers fault.Output said = IsFitted said

-- A fault of an input names one of this number of files.
abbrev pub NamesFile : ℕ → CampaignFault → Type 0
NamesFile files (fault.Judge why) = judge.NamesFile files why
NamesFile files other = Unit {0}
