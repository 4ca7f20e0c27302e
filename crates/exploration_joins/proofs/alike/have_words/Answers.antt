use Rattle.std.proofs.Common.{All, subst}
use Rattle.std.proofs.lemmas.List.{take_all}
use Rattle.std.proofs.lemmas.List.Elements.{All-more}
use Rattle.exploration_joins.specs.Joins.{CoversNoOther, CoversOther}
use Rattle.exploration_joins.proofs.Parts.{is_any}
use Rattle.exploration_joins.proofs.alike.have_words.Goals as goal

pub returns-then-covers_other : goal.returns-then-covers_other
returns-then-covers_other c =
    is_any (CoversOther c.args.words.now) c.args.parts.now c.loop-part.part-index c.part-item.result c.loop-part-test.true c.part-item.is c.if-covers_other.ensures

pub loop-part-preserved : goal.loop-part-preserved
loop-part-preserved c =
    All-more (CoversNoOther c.args.words.now) c.args.parts.now c.loop-part.part-index c.part-item.result c.loop-part-test.true c.loop-part.invariant
    (subst (CoversNoOther c.args.words.now) c.part-item.is c.if-covers_other.ensures)

pub returns : goal.returns
returns c =
    subst (All (CoversNoOther c.args.words.now)) (take_all c.loop-part.part-index c.args.parts.now c.loop-part-test.false) c.loop-part.invariant
