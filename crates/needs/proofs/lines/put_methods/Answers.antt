use Rattle.std.proofs.Common.{◌≡◌, ◌<◌, length, get_or, subst}
use Rattle.needs.specs.Lines.{method_lines}
use Rattle.needs.proofs.LineLaws.{one_more}
use Rattle.needs.proofs.lines.put_methods.Goals as goal

pub loop-place-preserved : goal.loop-place-preserved
loop-place-preserved c =
    let k = c.loop-place.place in
    let m = c.index-methods-place.result in
    let same = c.as_slice-methods.ensures in
    one_more
    (method_lines c.args.program.now c.args.source.now c.args.class.now)
    c.args.class.now.methods k m _ _ _
    (subst (λ xs. k < length xs) same c.loop-place-test.true)
    (subst (λ xs. m ≡ get_or xs k m) same c.index-methods-place.is)
    c.in_ok-put_method_lines.ensures c.loop-place.invariant
