-- Each line is read in turn.
use Rattle.std.proofs.Common.{arith}
use Rattle.atom_spec.proofs.TextLines.{one_further, faulty_line, faulty_last, whole_text}
use Rattle.atom_spec.proofs.reading.lines_of.Goals as goal

pub returns-then-not-branch : goal.returns-then-not-branch
returns-then-not-branch c =
    faulty_line c.args.text.now c.loop-line.rest.now c.in-Some.line.now c.in-Some.behind.now c.loop-line.number c.in_ok-add.field-0 c.loop-line.lines c.add.new.lines c.loop-line.invariant
    c.in-Some.ensures.exact.0 c.in-Some.ensures.exact.1 c.if-not-branch.true c.in_ok-add.ensures

pub loop-line-preserved : goal.loop-line-preserved
loop-line-preserved c =
    one_further c.args.text.now c.loop-line.rest.now c.in-Some.line.now c.in-Some.behind.now c.loop-line.number c.in_ok-add.field-0 c.loop-line.lines c.add.new.lines c.loop-line.invariant
    c.in-Some.ensures.exact.0 c.in-Some.ensures.exact.1 c.in-Some.ensures.shorter c.if-not-branch.false c.in_ok-add.ensures

pub returns-then-not-branch-2 : goal.returns-then-not-branch-2
returns-then-not-branch-2 c =
    faulty_last c.args.text.now c.loop-line.rest.now c.loop-line.number c.in_ok-add-2.field-0 c.loop-line.lines c.add-2.new.lines c.loop-line.invariant
    c.in_default.ensures.exact c.if-not-branch-2.true c.in_ok-add-2.ensures

pub returns : goal.returns
returns c =
    whole_text c.args.text.now c.loop-line.rest.now c.loop-line.number c.in_ok-add-2.field-0 c.loop-line.lines c.add-2.new.lines c.loop-line.invariant
    c.in_default.ensures.exact c.if-not-branch-2.false c.in_ok-add-2.ensures
