use Rattle.std.proofs.Common.{ap, ◌∙◌, sym}
use Rattle.debugger.specs.States.{items_at, setting_of}
use Rattle.debugger.specs.Timelines.{Extent}
use Rattle.debugger.proofs.RunLaws.{items_none}
use Rattle.debugger.proofs.session.Session.new.Goals as goal

pub invariant_of-result : goal.invariant_of-result
invariant_of-result c =
    let begun = c.in_ok-timeline_of.ensures in
    record {
      timeline = begun.timeline;
      trace = c.new-2.ensures ∙ sym (ap (λ (x : Extent). items_at x.setting x.choices x.far) begun.extent ∙ items_none (setting_of c.in_ok-machine.machine) c.args.choices.items);
    }
