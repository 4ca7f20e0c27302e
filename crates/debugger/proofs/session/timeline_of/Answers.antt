use Rattle.std.proofs.Common.{length, None, arith, ap, ◌∙◌, refl}
use Rattle.machine.specs.Machine.{Machine}
use Rattle.debugger.specs.declared.mark.Mark.{Mark}
use Rattle.debugger.specs.Marks.{mark_at}
use Rattle.debugger.specs.States.{setting_of}
use Rattle.debugger.proofs.MarkLaws.{marks_first}
use Rattle.debugger.proofs.RunLaws.{items_none, mark_opening}
use Rattle.debugger.proofs.session.timeline_of.Goals as goal

pub returns-in-Ok-clause-timeline : goal.returns-in-Ok-clause-timeline
returns-in-Ok-clause-timeline c =
    let machine = c.args.machine in
    let choices = c.args.choices.items in
    let g = setting_of machine in
    let here = ap (λ (m : Machine). let k : Mark = record { machine = m; items = 0; outcome = None } in k) c.requires ∙ mark_opening g choices in
    record {
      position = omega arith;
      far = omega arith;
      most = omega arith;
      bound = omega arith;
      spacing = record { power = (0, refl); positive = omega arith; enough = omega arith; least = λ h. omega arith };
      here = here;
      checkpoints = marks_first (mark_at g choices) c.in-Ok.checkpoints.items _ c.in-Ok.ensures.marks here;
      room = c.in-Ok.ensures.room;
      few = omega (arith, ap length (items_none g choices));
    }
