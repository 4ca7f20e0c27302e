use Rattle.std.proofs.Common.{◌≡◌, ℕ, ◌<◌, [], true, get_or}
use Rattle.std.specs.Prelude.{nat_le}
use Rattle.std.specs.List.{list_all}
use Rattle.classes.specs.Hierarchy.{rank}
use Rattle.linker.proofs.circles.fall.Given as goal

-- the classes so far
abbrev pub invariant-loop-class : goal.invariant-loop-class
invariant-loop-class l =
    (m : ℕ) → m < l.class → list_all (λ n. nat_le (rank l.ranks n) (rank l.ranks m)) (get_or l.rows m []) ≡ true
