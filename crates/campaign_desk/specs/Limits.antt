-- Defines how many jobs and workers a desk may have.
use Rattle.std.specs.Prelude.{ℕ, ◌<◌, ◌≤◌}

-- Returns the maximum number of jobs of a desk.
abbrev pub most_jobs : ℕ
most_jobs = 1000000

-- Returns the maximum number of workers of a desk.
abbrev pub most_workers : ℕ
most_workers = 64

-- A desk may have this many jobs and workers.
abbrev pub FitsLimits : ℕ → ℕ → Type 0
FitsLimits jobs workers = (jobs ≤ most_jobs) × (0 < workers) × (workers ≤ most_workers)
