use Rattle.std.proofs.Common.{◌+◌, IfSome, sym, ap, ◌∙◌, subst}
use Rattle.campaign_desk.specs.Facts.{count_of, once_below}
use Rattle.campaign_desk.specs.Desk.{HasDrawn}
use Rattle.campaign_desk.proofs.FactLaws.{two_drew_all}
use Rattle.campaign_desk.proofs.tests.draw_by_two.Goals as goal

pub returns : goal.returns
returns g c =
    let desk = c.in_ok-desk.desk in
    let one = subst (λ o. IfSome o (λ r. HasDrawn desk r.0 r.1.items)) c.in_ok-first.was c.join-one.ensures.first in
    let other = subst (λ o. IfSome o (λ r. HasDrawn desk r.0 r.1.items)) c.in_ok-second.was c.join-one.ensures.second in
    let after = c.bounds_read-bounds.ensures in
    let first = after.first.1 ∙ one.1 in
    let second = after.second.1 ∙ other.1 in
    λ x. (λ i. count_of x (sym first i) + count_of x (sym second i))
    ∙ two_drew_all _ _ _ _ _ _ c.in_ok-close_for_two.ensures after.first.2 x
    ∙ ap (once_below x) c.in_ok-desk.ensures.jobs
