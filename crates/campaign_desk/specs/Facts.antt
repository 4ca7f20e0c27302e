-- Defines what every list of events ensures of the two words and of the seats' lists.
use Rattle.std.specs.Prelude.{◌≡◌, ℕ, ◌+◌, ◌<◌, ◌≤◌, ◌==◌, List, ◌⊎◌, All, min, length}
use Rattle.std.specs.Prelude.{nat_lt, if◌then◌else◌, count_by}
use Rattle.std.specs.List.{sum_by}
use Rattle.campaign_desk.specs.declared.knowledge.Knowledge.{Knowledge}

-- Returns how often a number is in a list.
abbrev pub count_of : ℕ → List ℕ → ℕ
count_of x numbers = count_by (λ y. y == x) numbers

-- Returns how often the seats drew a number.
abbrev pub draw_count : ℕ → List Knowledge → ℕ
draw_count x seats = sum_by (λ seat. count_of x seat.draws) seats

-- Returns how often the seats lowered the bound to a number.
abbrev pub lowering_count : ℕ → List Knowledge → ℕ
lowering_count x seats = sum_by (λ seat. count_of x seat.lowerings) seats

-- Returns how often the seats read a number as the bound.
abbrev pub bound_count : ℕ → List Knowledge → ℕ
bound_count x seats = sum_by (λ seat. count_of x seat.bounds) seats

-- Returns the number of seats that know that no job is left.
abbrev pub done_count : List Knowledge → ℕ
done_count seats = count_by (λ seat. seat.is_done) seats

-- Returns 1 for a number below n, and 0 for others.
abbrev pub once_below : ℕ → ℕ → ℕ
once_below x n = if nat_lt x n then 1 else 0

-- The next number, the bound and the seats' lists are consistent with each other.
pub record IsDesk (jobs workers next bound : ℕ) (seats : List Knowledge) : Type 0 where
  pub all_seats : length seats ≡ workers
  pub same_jobs : All (λ seat. seat.jobs ≡ jobs) seats
  -- The seats drew the numbers below next and jobs, each once, and no others.
  pub draws : (x : ℕ) → draw_count x seats ≡ once_below x (min next jobs)
  -- Each seat that is done adds at most one.
  pub next_limit : next ≤ jobs + done_count seats
  -- A seat is done only if no job is left.
  pub done : 0 < done_count seats → jobs ≤ next
  -- The bound is the number of jobs, or the least number to which a seat lowered it.
  pub bound_limit : bound ≤ jobs
  pub bound_is : (bound ≡ jobs) ⊎ (0 < lowering_count bound seats)
  pub bound_least : (x : ℕ) → x < bound → lowering_count x seats ≡ 0
  -- Each bound that a seat read is the number of jobs, or a number to which a seat lowered it. It is never below the
  -- bound.
  pub bounds_are : (x : ℕ) → 0 < bound_count x seats → (x ≡ jobs) ⊎ (0 < lowering_count x seats)
  pub bounds_least : (x : ℕ) → x < bound → bound_count x seats ≡ 0
