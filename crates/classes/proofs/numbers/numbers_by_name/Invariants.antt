use Rattle.std.proofs.Common.{take}
use Rattle.classes.specs.Numbers.{AreNumbersOf}
use Rattle.classes.proofs.numbers.numbers_by_name.Given as goal

-- the numbers of the classes so far
abbrev pub invariant-loop-number : goal.invariant-loop-number
invariant-loop-number l = AreNumbersOf (take l.number l.classes) l.numbers
