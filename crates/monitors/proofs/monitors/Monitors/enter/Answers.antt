use Rattle.std.proofs.Common.{IsSome, ap, subst, sym, ◌∙◌}
use Rattle.jvms_machine.specs.Monitors.{entered_monitor}
use Rattle.jvms_machine.specs.State.{monitor_at}
use Rattle.monitors.proofs.HoldLaws.{Holds, enters_first, enters_again, not_held}
use Rattle.monitors.proofs.monitors.Monitors.enter.Goals as goal
use Rattle.monitors.proofs.monitors.Monitors.enter.Goals.{in-None, in-Some}

pub returns-in_err-insert-clause-again : goal.returns-in_err-insert-clause-again
returns-in_err-insert-clause-again c = λ held.
    absurd (not_held c.args.reference c.self.inside.holds.entries c.in_err-insert.ensures.absent
    (subst (λ (l : Holds). IsSome (monitor_at l c.args.reference)) (sym c.self.view_is) held))

pub returns-clause-ok : goal.returns-clause-ok
returns-clause-ok c =
    let old = c.self.inside.holds.entries in
    let seen = ap (λ (l : Holds). monitor_at l c.args.reference) c.self.view_is ∙ sym c.hold.ensures in
    let put = c.in_ok-insert.ensures.entries in
    let same = ap (entered_monitor c.args.thread c.args.reference) c.self.view_is in
    elim c.match-hold.branch [
      | in-None w ↦ enters_first c.args.thread c.args.reference old c.insert.new.self.entries c.match-hold.hold (seen ∙ w.in-None.is) w.hold-is put ∙ same
      | in-Some w ↦
          enters_again c.args.thread c.args.reference old c.insert.new.self.entries w.in-Some.hold c.match-hold.hold (seen ∙ w.in-Some.is) w.hold-is put ∙ same
    ]
