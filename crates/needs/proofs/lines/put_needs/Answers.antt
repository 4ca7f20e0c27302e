use Rattle.std.proofs.Common.{◌≡◌, ◌<◌, length, get_or, subst}
use Rattle.needs.specs.Lines.{class_lines}
use Rattle.needs.proofs.LineLaws.{one_more}
use Rattle.needs.proofs.lines.put_needs.Goals as goal

pub loop-number-preserved : goal.loop-number-preserved
loop-number-preserved c =
    let k = c.loop-number.number in
    let class = c.index-classes-number.result in
    let same = c.classes-classes.ensures in
    one_more (class_lines c.args.program.now c.args.sources.now.first c.args.sources.now.files.now)
    c.args.program.now k class _ _ _
    (subst (λ xs. k < length xs) same c.loop-number-test.true)
    (subst (λ xs. class ≡ get_or xs k class) same c.index-classes-number.is)
    c.in_ok-put_class.ensures c.loop-number.invariant
