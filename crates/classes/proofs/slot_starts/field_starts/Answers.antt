use Rattle.std.proofs.Common.{◌≡◌, ℕ, ◌+◌, List, length, Some, refl, sym, ap, ◌∙◌, subst, arith}
use Rattle.std.specs.Prelude.{slice_get}
use Rattle.std.proofs.lemmas.List.{length_push}
use Rattle.std.proofs.lemmas.Option.{slice_get_read}
use Rattle.jvms_program.specs.declared.program.Class.{Class}
use Rattle.classes.specs.Slots.{AreStartsOf}
use Rattle.classes.proofs.SlotLaws.{program_fits}
use Rattle.classes.proofs.StartLaws.{fields_left, no_starts, one_counted, one_start}
use Rattle.classes.proofs.slot_starts.field_starts.Goals as goal

pub loop-number-init : goal.loop-number-init
loop-number-init c =
    let fits = program_fits c.args.program.now c.countable_invariant.ensures in
    record {
      are = subst (AreStartsOf c.args.program.now) (sym c.in_ok-starts.ensures.items) (no_starts c.args.program.now);
      count_is = ap length c.in_ok-starts.ensures.items;
      statics = refl;
      fits = omega arith;
    }

pub starts_of-requires-clause-there : goal.starts_of-requires-clause-there
starts_of-requires-clause-there c =
    let classes = c.classes-class-items.result.now in
    subst (λ (p : List Class). slice_get p c.loop-number.number ≡ Some c.class-item.result) c.classes-class-items.ensures
    (slice_get_read classes (length classes) c.loop-number.number c.class-item.result refl c.loop-number-test.true c.class-item.is)

pub loop-number-preserved : goal.loop-number-preserved
loop-number-preserved c =
    let program = c.args.program.now in
    let classes = c.classes-class-items.result.now in
    let number = c.loop-number.number in
    let class = c.class-item.result in
    let there : slice_get program number ≡ Some class =
    subst (λ (p : List Class). slice_get p number ≡ Some class) c.classes-class-items.ensures
    (slice_get_read classes (length classes) number class refl c.loop-number-test.true c.class-item.is) in
    let counted = one_counted program number class there in
    let left = fields_left program number class there in
    let exact = c.count_of-statics.ensures.exact in
    let within = c.count_of-statics.ensures.within in
    let so_far = c.loop-number.invariant.statics in
    let fits = c.loop-number.invariant.fits in
    record {
      are = one_start program c.loop-number.starts.items c.push.new.self.items c.starts_of.result class number c.loop-number.invariant.count_is there c.starts_of.ensures c.in_ok-push.ensures.items c.loop-number.invariant.are;
      count_is = ap length c.in_ok-push.ensures.items ∙ length_push c.loop-number.starts.items c.starts_of.result ∙ ap (λ (n : ℕ). n + 1) c.loop-number.invariant.count_is;
      statics = omega arith;
      fits = omega arith;
    }
