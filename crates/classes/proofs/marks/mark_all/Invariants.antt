use Rattle.std.proofs.Common.{◌≡◌, ◌||◌, ℕ, take}
use Rattle.classes.specs.Marks.{is_in, is_marked}
use Rattle.classes.proofs.marks.mark_all.Given as goal

-- the classes so far are marked
abbrev pub invariant-loop-class : goal.invariant-loop-class
invariant-loop-class l = (n : ℕ) → is_marked l.words n ≡ (is_in (take l.class-index l.classes) n || is_marked l.fn.words n)
