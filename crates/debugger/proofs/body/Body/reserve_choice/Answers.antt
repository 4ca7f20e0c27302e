use Rattle.std.proofs.Common.{◌∙◌, ap, sym}
use Rattle.debugger.specs.States.{items_at}
use Rattle.debugger.specs.Sessions.{Debugger}
use Rattle.debugger.specs.Timelines.{Extent}
use Rattle.debugger.proofs.body.Body.reserve_choice.Goals as goal

pub returns-clause-body : goal.returns-clause-body
returns-clause-body c =
    let same = c.reserve_choice.ensures in
    record {
      timeline = same.timeline;
      trace = c.requires.trace ∙ sym (ap (λ (x : Extent). items_at x.setting x.choices x.far) same.extent);
    }

pub returns-clause-debugger : goal.returns-clause-debugger
returns-clause-debugger c =
    let b = c.args.self.now in
    ap (λ (x : Extent).
    let d : Debugger = record {
      setting = x.setting;
      session = record { choices = x.choices; position = x.position; breakpoints = b.breakpoints.items; next = b.breakpoints.next };
      most = x.most;
      far = x.far;
      spacing = x.spacing;
      replayed = b.replayed;
    } in
    d)
    c.reserve_choice.ensures.extent
