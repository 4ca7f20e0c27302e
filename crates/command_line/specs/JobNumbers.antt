-- Defines which numbers the jobs of a campaign may have.
use Rattle.std.specs.Prelude.{ℕ, ◌+◌, ◌^◌, ◌≤◌}

-- The last number, if there is one, is below 2 to the 64.
abbrev pub HasNumbers : ℕ → ℕ → Type 0
HasNumbers first jobs = first + jobs ≤ 2 ^ 64
