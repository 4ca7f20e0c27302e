use Rattle.std.proofs.Common.{◌≡◌, ℕ, ◌<◌, true, get_or, length}
use Rattle.classes.specs.Hierarchy.{come_before, rank}
use Rattle.classes.proofs.hierarchy.are_placed.Given as goal

-- the classes so far
abbrev pub invariant-loop-class : goal.invariant-loop-class
invariant-loop-class l = record {
  placed : (m : ℕ) → m < l.class → (rank l.ranks m < length l.order) × (get_or l.order (rank l.ranks m) 0 ≡ m);
  rises : (m : ℕ) → m < l.class → come_before l.supers l.ranks m ≡ true;
}
