use Rattle.std.proofs.Common.{◌≡◌, ℕ, ◌<◌, get_or}
use Rattle.classes.specs.Hierarchy.{rank}
use Rattle.classes.proofs.hierarchy.are_found.Given as goal

-- the places so far
abbrev pub invariant-loop-place : goal.invariant-loop-place
invariant-loop-place l =
    (place : ℕ) → place < l.place → (get_or l.order place 0 < l.count) × (rank l.ranks (get_or l.order place 0) ≡ place)
