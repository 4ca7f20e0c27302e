use Rattle.std.proofs.Common.{sym, subst}
use Rattle.std.proofs.lemmas.Bool.{MatchBool-at_false, MatchBool-at_true}
use Rattle.exploration_joins.specs.Joins.{AreAllCovered, AreCoveredBelow}
use Rattle.exploration_joins.proofs.Covers.{all_covered, one_is_missing}
use Rattle.exploration_joins.proofs.Parts.{at_first}
use Rattle.exploration_joins.proofs.joining.covered_by.Goals as goal

pub returns-then-not-branch : goal.returns-then-not-branch
returns-then-not-branch c =
    let xs = c.args.parts.now in
    let first = c.in-Some.first.now in
    let here = at_first xs first (sym c.in-Some.ensures.value) in
    let count = first.part.count in
    one_is_missing xs first here.0 here.1 (MatchBool-at_false (AreCoveredBelow xs count) (AreCoveredBelow xs count → ⊥) c.if-not-branch.true c.in_ok-cover.ensures)

pub returns : goal.returns
returns c =
    let xs = c.args.parts.now in
    let first = c.in-Some.first.now in
    let here = at_first xs first (sym c.in-Some.ensures.value) in
    let count = first.part.count in
    let all = MatchBool-at_true (AreCoveredBelow xs count) (AreCoveredBelow xs count → ⊥) c.if-not-branch.false c.in_ok-cover.ensures in
    subst (AreAllCovered xs) (sym c.in_ok-words.ensures.ok)
    (all_covered xs first c.in-Some-first_covered.words.now here.0 here.1 c.requires c.in-Some-first_covered.ensures all)
