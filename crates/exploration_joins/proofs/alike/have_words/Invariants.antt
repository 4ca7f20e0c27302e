-- The parts so far cover nothing else.
use Rattle.std.proofs.Common.{All, take}
use Rattle.exploration_joins.specs.Joins.{CoversNoOther}
use Rattle.exploration_joins.proofs.alike.have_words.Given as goal

abbrev pub invariant-loop-part : goal.invariant-loop-part
invariant-loop-part l = All (CoversNoOther l.words) (take l.part-index l.parts)
