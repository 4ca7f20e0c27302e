use Rattle.std.proofs.Common.{◌≡◌, ℕ, ◌-◌, false, Some, sym, ap, ◌∙◌, subst, arith}
use Rattle.jvms_program.specs.Program.{class_number}
use Rattle.jvms_program.specs.Slots.{slot_of}
use Rattle.classes.specs.Slots.{AreSlotsFrom, IsTotal}
use Rattle.classes.proofs.StartLaws.{statics_from}
use Rattle.classes.proofs.slot_starts.starts_of.Goals as goal

pub overflow_sub-result : goal.overflow_sub-result
overflow_sub-result c =
    let number : class_number c.args.program.now c.args.class.now.name ≡ Some c.args.number =
    ap (class_number c.args.program.now) (sym c.as_slice.ensures) ∙ sym c.in_ok-own.ensures ∙ ap (λ (n : ℕ). Some n) c.if-own-number.true in
    let is : IsTotal c.args.program.now c.args.class.now c.in_ok-total.total =
    c.requires.totals.each c.args.number c.args.class.now c.in_ok-total.total c.requires.there number (sym c.in_ok-total.ensures) in
    let within = is.within in
    let counted = c.count_of.ensures.exact in
    omega arith

pub returns-then-own-number : goal.returns-then-own-number
returns-then-own-number c =
    let program = c.args.program.now in
    let class = c.args.class.now in
    let number : class_number program class.name ≡ Some c.args.number =
    ap (class_number program) (sym c.as_slice.ensures) ∙ sym c.in_ok-own.ensures ∙ ap (λ (n : ℕ). Some n) c.if-own-number.true in
    let is : IsTotal program class c.in_ok-total.total =
    c.requires.totals.each c.args.number class c.in_ok-total.total c.requires.there number (sym c.in_ok-total.ensures) in
    record {
      statics = statics_from program c.args.number class c.requires.there c.countable_invariant.ensures c.args.statics number c.requires.statics;
      instances = subst (λ (k : ℕ). AreSlotsFrom false class (slot_of program class.name) (c.in_ok-total.total - k)) (sym c.count_of.ensures.exact) is.slots;
    }
