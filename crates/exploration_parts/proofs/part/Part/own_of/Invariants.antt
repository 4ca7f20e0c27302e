use Rattle.std.proofs.Common.{take, ◌≡◌}
use Rattle.exploration_parts.specs.Parts.{those_of}
use Rattle.exploration_parts.proofs.part.Part.own_of.Given as goal

abbrev pub invariant-loop-place : goal.invariant-loop-place
invariant-loop-place l = l.own.items ≡ those_of l.self 0 (take l.place l.all)
