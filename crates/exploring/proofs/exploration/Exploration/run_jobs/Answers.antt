use Rattle.std.proofs.Common.{List, ap, drop, length, subst, sym, take, ◌+◌, ◌++◌, ◌∙◌, ◌≡◌, ◌≤◌}
use Rattle.explore_jobs.specs.declared.fate.Fate.{Fate}
use Rattle.exploring.proofs.Whole.{further_way}
use Rattle.exploring.specs.Explorations.{AreFatesOf, Explored, IsOnWay}
use Rattle.exploring.proofs.exploration.Exploration.run_jobs.Goals as goal

pub invariant_of-self-2 : goal.invariant_of-self-2
invariant_of-self-2 g c =
    let e = c.args.self.now in
    let way = subst IsOnWay c.self.view_is c.self.invariant in
    let more = c.in_ok-fates.fates.items in
    let from : c.len-from.result ≡ length e.fates = c.len-from.ensures ∙ c.self.inside.fates.ok.0 ∙ ap (λ (x : Explored). length x.fates) c.self.view_is in
    let within = subst (λ n. n + c.at_once-count.result ≤ length e.jobs.jobs) from c.at_once-count.ensures.within in
    let are = subst (λ n. AreFatesOf e.program e.plan (take c.at_once-count.result (drop n e.jobs.jobs)) more) from c.in_ok-fates.ensures.fates in
    let items : c.extend_from_slice.new.self.items ≡ e.fates ++ more =
    c.in_ok-extend_from_slice.ensures.items ∙ ap (λ (fates : List Fate). c.self.inside.fates.items ++ fates) c.as_slice.ensures.value ∙ ap (λ (x : Explored). x.fates ++ more) c.self.view_is
    in
    subst (λ (x : Explored). IsOnWay (record { program = x.program; plan = x.plan; jobs = x.jobs; count = x.count; fates = c.extend_from_slice.new.self.items; is_good_below = x.is_good_below })) (sym c.self.view_is)
    (subst (λ (fates : List Fate). IsOnWay (record { program = e.program; plan = e.plan; jobs = e.jobs; count = e.count; fates = fates; is_good_below = e.is_good_below })) (sym items)
    (further_way e way c.at_once-count.result more within are))
