use Rattle.std.proofs.Common.{arith}
use Rattle.descriptor.specs.Scanning.{type_of}
use Rattle.descriptor.proofs.Parameters.{units_end_at, units_next, units_stop_at, units_cut_at, units_few}
use Rattle.descriptor.proofs.method.units_at.Goals as goal

pub returns-then-first-eq-CLOSE : goal.returns-then-first-eq-CLOSE
returns-then-first-eq-CLOSE c =
    units_end_at c.loop-first.units c.loop-first.rest.now c.in-Some.first.now c.in-Some.behind.now _ c.in-Some.ensures.cases.0 c.if-first-eq-CLOSE.true c.loop-first.invariant.same

pub returns-in_err-spelled : goal.returns-in_err-spelled
returns-in_err-spelled c =
    rw c.from_residual.ensures (units_stop_at c.loop-first.units c.loop-first.rest.now c.in-Some.first.now c.in-Some.behind.now _ c.in-Some.ensures.cases.0 c.if-first-eq-CLOSE.false c.in_err-spelled.ensures.exact c.loop-first.invariant.same)

pub loop-first-preserved : goal.loop-first-preserved
loop-first-preserved c = record {
  same = rw c.spelled_units-units.ensures (units_next c.loop-first.units c.loop-first.rest.now c.in-Some.first.now c.in-Some.behind.now c.in_ok-spelled.after.now (type_of c.in_ok-spelled.spelled) _ c.in-Some.ensures.cases.0 c.if-first-eq-CLOSE.false c.in_ok-spelled.ensures.exact c.loop-first.invariant.same);
  few = omega (arith, c.in_ok-spelled.ensures.shorter, c.spelled_units-units.ensures, units_few (type_of c.in_ok-spelled.spelled));
}

pub returns : goal.returns
returns c = units_cut_at c.loop-first.units c.loop-first.rest.now _ c.in_default.ensures.cases c.loop-first.invariant.same
