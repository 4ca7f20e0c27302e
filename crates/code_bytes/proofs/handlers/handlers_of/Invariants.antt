-- The handlers so far, followed by the remaining ones, are all.
use Rattle.std.proofs.Common.{◌≡◌, ◌++◌, length}
use Rattle.assembly.specs.CodeOf.{handlers_from}
use Rattle.code_bytes.proofs.handlers.handlers_of.Given as goal

abbrev pub invariant-loop-numbers : goal.invariant-loop-numbers
invariant-loop-numbers l = l.handlers ++ handlers_from l.labels l.numbers l.rest ≡ handlers_from l.labels l.caught l.catches

abbrev pub decreases-loop-numbers : goal.decreases-loop-numbers
decreases-loop-numbers l = length l.numbers
