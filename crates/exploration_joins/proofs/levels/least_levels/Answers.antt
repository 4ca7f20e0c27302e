use Rattle.std.proofs.Common.{inl, sym, ◌∙◌, subst, arith}
use Rattle.std.proofs.lemmas.List.{take_all}
use Rattle.exploration_joins.specs.Sums.{HaveLevels}
use Rattle.exploration_joins.proofs.Parts.{at_first}
use Rattle.exploration_joins.proofs.Sums.{keeps, takes}
use Rattle.exploration_joins.proofs.levels.least_levels.Goals as goal

pub loop-part-init : goal.loop-part-init
loop-part-init c =
    let here = at_first c.args.parts.now c.in-Some.first.now (sym c.in-Some.ensures.value) in
    ((λ k d less. absurd (omega (arith, less))), (0, c.in-Some.first.now, here.0, sym here.1, sym (c.len-least.ensures ∙ c.in-Some.first.now.levels.ok.0)))

pub loop-part-preserved : goal.loop-part-preserved
loop-part-preserved c =
    let xs = c.args.parts.now in
    let i = c.loop-part.part-index in
    let part = c.part-item.result in
    let count = c.len.ensures ∙ part.levels.ok.0 in
    elim c.if-len-least.branch [
      | goal.then-len-least w ↦
          let new = w.least-is ∙ w.len-least-then-len-least.ensures ∙ part.levels.ok.0 in
          takes xs i part c.loop-part-test.true c.part-item.is c.loop-part.least c.if-len-least.least c.loop-part.invariant.0 new (omega (arith, new, count, w.if-len-least.true))
      | goal.else-len-least w ↦
          keeps xs i part c.loop-part-test.true c.part-item.is c.loop-part.least c.if-len-least.least c.loop-part.invariant.0 c.loop-part.invariant.1 w.least-is (omega (arith, count, w.if-len-least.false))
    ]

pub returns : goal.returns
returns c =
    record {
      all = subst (λ l. HaveLevels l c.loop-part.least) (take_all c.loop-part.part-index c.args.parts.now c.loop-part-test.false) c.loop-part.invariant.0;
      one = inl c.loop-part.invariant.1;
    }
