use Rattle.std.proofs.Common.{◌≡◌, take}
use Rattle.linker.specs.Supers.{with_numbers}
use Rattle.linker.proofs.number_set.NumberSet.add_all.Given as goal

-- the numbers so far
abbrev pub invariant-loop-number : goal.invariant-loop-number
invariant-loop-number l =
    l.self ≡ record { limit = l.initial.self.limit; numbers = with_numbers l.initial.self.numbers (take l.number-index l.numbers) }
