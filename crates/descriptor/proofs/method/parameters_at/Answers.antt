use Rattle.std.proofs.Common.{List, [], ◌∷◌, ◌++◌, ap, ◌∙◌}
use Rattle.jvms_file.specs.declared.descriptor.FieldType.{FieldType}
use Rattle.descriptor.specs.Scanning.{type_of, parameters_after}
use Rattle.descriptor.proofs.Parameters.{parameters_end_at, parameters_next, parameters_stop_at, parameters_cut_at}
use Rattle.descriptor.proofs.method.parameters_at.Goals as goal

pub returns-then-first-eq-CLOSE : goal.returns-then-first-eq-CLOSE
returns-then-first-eq-CLOSE c =
    parameters_end_at c.loop-first.found c.loop-first.rest.now c.in-Some.first.now c.in-Some.behind.now _ c.in-Some.ensures.cases.0 c.if-first-eq-CLOSE.true c.loop-first.invariant

pub returns-in_default-field_at : goal.returns-in_default-field_at
returns-in_default-field_at c =
    parameters_stop_at c.loop-first.found c.loop-first.rest.now c.in-Some.first.now c.in-Some.behind.now _ c.in-Some.ensures.cases.0 c.if-first-eq-CLOSE.false c.in_default-field_at.ensures.exact c.loop-first.invariant

pub loop-first-preserved : goal.loop-first-preserved
loop-first-preserved c =
    ap (λ (ts : List FieldType). parameters_after ts c.in-Some-field_at.after.now)
    (c.in_ok-push.ensures.ok ∙ ap (λ (t : FieldType). c.loop-first.found ++ t ∷ []) c.in_ok-owned.ensures)
    ∙ parameters_next c.loop-first.found c.loop-first.rest.now c.in-Some.first.now c.in-Some.behind.now c.in-Some-field_at.after.now (type_of c.in-Some-field_at.spelled) _
    c.in-Some.ensures.cases.0 c.if-first-eq-CLOSE.false c.in-Some-field_at.ensures.exact c.loop-first.invariant

pub returns : goal.returns
returns c = parameters_cut_at c.loop-first.found c.loop-first.rest.now _ c.in_default.ensures.cases c.loop-first.invariant
