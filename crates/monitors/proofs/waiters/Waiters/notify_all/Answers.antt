use Rattle.std.proofs.Common.{rules, not, ◌==◌, ap, ◌∙◌}
use Rattle.std.specs.List.{filter}
use Rattle.std.proofs.lemmas.Fn.{filter_same}
use Rattle.monitors.proofs.waiters.Waiters.notify_all.Goals as goal

pub returns : goal.returns
returns c =
    filter_same _ (λ w. not (w.0 == c.args.reference)) _ (λ x b f' k. search rules) _ _ c.retain.ensures.filtered
    ∙ ap (filter (λ w. not (w.0 == c.args.reference))) c.self.view_is
