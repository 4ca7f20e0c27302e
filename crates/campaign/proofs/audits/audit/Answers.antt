-- Each number is that of a result, and the numbers that are returned are of the results that differ.
use Rattle.std.proofs.Common.{◌≡◌, ◌<◌, ◌-◌, length, map, sym, ap, ◌∙◌, subst, arith}
use Rattle.std.specs.Prelude.{Ok}
use Rattle.std.specs.List.{AllZip, range_with_len}
use Rattle.std.proofs.lemmas.Result.{MatchResult-weaker}
use Rattle.rayon.specs.Numbers.{nat_range}
use Rattle.rayon.proofs.ToStd.{nat_range-All}
use Rattle.campaign.specs.Audits.{IsFindingAt}
use Rattle.campaign.proofs.AuditLaws.{are_different}
use Rattle.campaign.proofs.audits.audit.Goals as goal

pub collect-requires-clause-ready : goal.collect-requires-clause-ready
collect-requires-clause-ready g c κs within =
    let ends = c.into_par_iter.ensures in
    let results = c.args.table.now.results in
    let len : c.len.result ≡ length results.items = c.len.ensures ∙ results.ok.0 in
    let inside = nat_range-All (λ i. i < length results.items) 0 c.len.result (λ i low high. subst (λ m. i < m) len high) in
    rw (c.filter_map.ensures.base, c.filter_map.ensures.f, c.with_min_len.ensures.base, ends.0, ends.1)
    (λ k d lt. ((c.requires.fits, inside k d lt), λ y kept. tt))

pub returns : goal.returns
returns g c =
    let ends = c.into_par_iter.ensures in
    let results = c.args.table.now.results in
    let n = length results.items in
    let len : c.len.result ≡ n = c.len.ensures ∙ results.ok.0 in
    let whole : n - 0 ≡ n = omega arith in
    let given = c.in_ok-collect.ensures in
    let gives = rw (c.filter_map.ensures.base, c.with_min_len.ensures.base) at given.1.2 in
    let each =
    subst (λ f. AllZip (IsFindingAt f.1.now f.2.now f.3.now.results.items) given.1.0 given.1.1) c.filter_map.ensures.f given.1.3
    in
    let numbers_are = gives ∙ (λ i. nat_range (ends.0 i) ((ends.1 ∙ len) i)) ∙ ap (range_with_len 0) whole in
    let zipped = subst (λ l. AllZip (IsFindingAt c.args.program.now c.args.plan.now results.items) l given.1.1) numbers_are each in
    MatchResult-weaker c.in_ok-collect.field-0 given.2
    (λ numbers kept. are_different _ _ results.items given.1.1 numbers.items zipped (sym given.1.4 ∙ kept.1 ∙ ap (map Ok) (sym kept.2)))
    (λ why kept. tt)
