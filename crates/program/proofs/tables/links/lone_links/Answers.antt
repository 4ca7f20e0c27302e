use Rattle.std.proofs.Common.{◌≡◌, ◌<◌, ap, ◌∙◌, length, arith}
use Rattle.program.specs.Tables.{IsLink}
use Rattle.program.proofs.TableLaws.{any_told, have_none_told}
use Rattle.program.proofs.tables.links.lone_links.Goals as goal

pub loop-number-init : goal.loop-number-init
loop-number-init c = rw c.in_ok-links.ensures.items (have_none_told (IsLink c.args.program.now) c.args.program.now)

pub loop-number-preserved : goal.loop-number-preserved
loop-number-preserved c =
    let program = c.args.program.now in
    let end : length c.classes-number-end.result.now ≡ length program = ap length c.classes-number-end.ensures in
    let within : c.loop-number.number < length program = omega (arith, c.loop-number-test.true, end) in
    any_told (IsLink program) program c.loop-number.links.items c.push.new.self.items c.loop-number.number c.lone_link.result c.loop-number.invariant c.in_ok-push.ensures.items within (c.lone_link.ensures program)

pub returns-clause-links : goal.returns-clause-links
returns-clause-links c = c.loop-number.invariant.are

pub returns-clause-count : goal.returns-clause-count
returns-clause-count c =
    let end : length c.classes-number-end.result.now ≡ length c.args.program.now = ap length c.classes-number-end.ensures in
    let all : c.loop-number.number ≡ length c.args.program.now = omega (arith, c.loop-number.auto.number-end, c.loop-number-test.false, end) in
    c.loop-number.invariant.count_is ∙ all
