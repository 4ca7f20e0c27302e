use Rattle.std.proofs.Common.{◌≡◌, sym, ap, ◌∙◌, subst}
use Rattle.std.specs.Prelude.{true, false, IsOk, is_ok, Result, Err}
use Rattle.jvms_machine.specs.Turn.{items_after}
use Rattle.invoke.specs.machine_parts.Decided.{decision_value}
use Rattle.machine.specs.Adding.{MakesNone}
use Rattle.invoke.specs.machine_parts.Machine.{decision_of}
use Rattle.machine.proofs.Made.{needs_none}
use Rattle.machine.proofs.applying.step_decided.Goals as goal

-- A turn that pushes no frame, creates no object, gives no item and prints nothing is never refused.
never_refused : {A E : Type 0} (r : Result A E) (e : E) → IsOk r → r ≡ Err e → {P : Type 0} → P
never_refused {A} {E} r e ok is = let refused : false ≡ true = sym (ap (λ (x : Result A E). is_ok x) is) ∙ ok in cc

pub returns-in_err-make-clause-none : goal.returns-in_err-make-clause-none
returns-in_err-make-clause-none c = λ takes.
    let m = c.args.parts.now in
    let needs = needs_none m c.args.t c.requires takes in
    let same : decision_value c.decide-what.result ≡ decision_of m c.args.t = c.decide-what.ensures in
    let ok : IsOk c.make.result =
    c.make.ensures.none (subst (MakesNone m.state) (sym same) needs.0) (ap (items_after m.program c.args.t) same ∙ needs.1) in
    never_refused c.make.result _ ok c.in_err-make.was
