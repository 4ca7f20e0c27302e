use Rattle.std.proofs.Common.{sym}
use Rattle.exploration_joins.proofs.OneExploration.{by_words, other_count}
use Rattle.exploration_joins.proofs.Parts.{at_first}
use Rattle.exploration_joins.proofs.alike.are_of_one.Goals as goal

pub returns-then-not-have_count : goal.returns-then-not-have_count
returns-then-not-have_count c =
    let here = at_first c.args.parts.now c.in-Some.first.now (sym c.in-Some.ensures.value) in
    other_count c.args.parts.now c.in-Some.first.now here.0 here.1 c.if-not-have_count.ensures

pub returns-in-Some-first_covered : goal.returns-in-Some-first_covered
returns-in-Some-first_covered c =
    let here = at_first c.args.parts.now c.in-Some.first.now (sym c.in-Some.ensures.value) in
    by_words c.args.parts.now c.in-Some.first.now here.0 here.1 c.in-Some-first_covered.words.now c.have_words.result c.if-not-have_count.ensures
    c.in-Some-first_covered.ensures c.have_words.ensures
