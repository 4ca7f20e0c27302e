use Rattle.std.proofs.Common.{◌≡◌, ℕ, true, List, length}
use Rattle.std.specs.List.{list_all}
use Rattle.classes.specs.Hierarchy.{numbers_of}
use Rattle.linker.specs.Supers.{is_in}
use Rattle.linker.proofs.AncestryLaws.{AreClosed, AreReached}
use Rattle.linker.proofs.circles.Supers.all_above.Given as goal

-- the classes so far have all their supers in the set, and each of the set is reached
abbrev pub invariant-loop-place : goal.invariant-loop-place
invariant-loop-place l = record {
  limit : l.met.limit ≡ length l.self;
  begun : list_all (is_in l.met.numbers) l.numbers ≡ true;
  closed : AreClosed l.self l.met.numbers l.place;
  reached : (names : List (List ℕ)) → l.numbers ≡ numbers_of l.self names → AreReached l.self names l.met.numbers;
}
