use Rattle.std.proofs.Common.{◌+◌, List, drop, length, ap, arith}
use Rattle.jvms_program.specs.declared.program.Class.{Class}
use Rattle.jvms_program.specs.Slots.{static_keys}
use Rattle.classes.proofs.SlotLaws.{fields_of, keys_left, left_from, program_fits}
use Rattle.classes.proofs.list.Classes.static_count.Goals as goal

pub loop-class-init : goal.loop-class-init
loop-class-init c =
    let keys = ap (λ (p : List Class). length (static_keys p)) c.classes-class-items.ensures in
    let fields = ap fields_of c.classes-class-items.ensures in
    let fits = program_fits c.args.self.now c.countable_invariant.ensures in
    record { left = omega arith; fits = omega arith }

pub loop-class-preserved : goal.loop-class-preserved
loop-class-preserved c =
    let here = left_from c.classes-class-items.result.now c.loop-class.class-index c.class-item.result c.loop-class-test.true c.class-item.is in
    let keys = ap (λ (p : List Class). length (static_keys p)) here in
    let more = keys_left c.class-item.result (drop (c.loop-class.class-index + 1) c.classes-class-items.result.now) in
    let fields = ap fields_of here in
    record { left = omega arith; fits = omega arith }
