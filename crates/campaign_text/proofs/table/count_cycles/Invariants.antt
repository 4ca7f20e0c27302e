-- The cycles so far, at most one a job.
use Rattle.std.proofs.Common.{◌≡◌, ◌≤◌, count_by, take}
use Rattle.campaign_text.specs.TableTexts.{is_cycle}
use Rattle.campaign_text.proofs.table.count_cycles.Given as goal

abbrev pub invariant-loop-job : goal.invariant-loop-job
invariant-loop-job l = (l.cycles ≡ count_by is_cycle (take l.job-index l.results)) × (l.cycles ≤ l.job-index)
