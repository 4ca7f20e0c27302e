use Rattle.std.proofs.Common.{◌≡◌, ◌+◌, ◌-◌, arith, inl, inr, ap, ◌∙◌, sym, subst, take, replicate, get_or, ◌++◌}
use Rattle.std.proofs.lemmas.Bool.{cases_lt, eqb-true}
use Rattle.debugger.proofs.ChoiceLaws.{one_more}
use Rattle.debugger.proofs.replay.consecutive.Goals as goal

pub loop-next-preserved : goal.loop-next-preserved
loop-next-preserved c =
    let cs = c.args.choices.now in
    let p = c.args.position in
    let next = c.loop-next.next in
    let is = c.loop-next.invariant in
    let t = get_or cs p 0 in
    record {
      more = omega (arith, is.more);
      within = omega (arith, is.within, c.loop-next-test.true);
      same = λ n few. elim (cases_lt n (next + 1 - p)) [
        | inl less ↦ is.same n (omega (arith, is.more))
        | inr most ↦
            let last : n ≡ next - p + 1 = omega (arith, is.more) in
            let place : p + (next - p) ≡ next = omega (arith, is.more) in
            let one : take (p + (next - p + 1)) cs ≡ take p cs ++ replicate (next - p + 1) t =
            one_more cs p (next - p) t (omega (arith, is.more, is.within, c.requires.within, c.loop-next-test.true)) (ap (λ k. get_or cs k 0) place ∙ eqb-true _ _ (sym c.if-is_at.ensures) ∙ c.at-t.ensures) (is.same (next - p) (omega arith)) in
            subst (λ k. take (p + k) cs ≡ take p cs ++ replicate k t) (sym last) one
      ];
    }
