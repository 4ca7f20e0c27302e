use Rattle.std.proofs.Common.{sym, ap, ◌∙◌, None, arith}
use Rattle.std.specs.List.{fold}
use Rattle.classes.specs.Slots.{slot_under}
use Rattle.classes.proofs.SlotLaws.{chain_fits, fields_of, slot_is_fold}
use Rattle.classes.proofs.list.Classes.slot.Goals as goal

pub loop-top-init : goal.loop-top-init
loop-top-init c =
    record {
      left = sym (slot_is_fold c.args.self.now c.args.class.now c.args.field.now) ∙ ap (fold (slot_under c.args.field.now) None) (sym c.of-up.ensures.classes);
      fits = let fits = chain_fits c.args.self.now c.args.class.now c.countable_invariant.ensures in let same = ap fields_of c.of-up.ensures.classes in omega arith;
    }
