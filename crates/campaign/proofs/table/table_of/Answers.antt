-- One more result.
use Rattle.std.proofs.Common.{◌≡◌, [], ◌∷◌, ◌++◌, not, if◌then◌else◌, length, sym, ap, ◌∙◌, subst}
use Rattle.campaign.specs.Tables.{IsBeginning, IsTable}
use Rattle.campaign.proofs.TableLaws.{longer, grows, ends, goes_on}
use Rattle.campaign.proofs.table.table_of.Goals as goal

pub returns-then-is_last-clause-table : goal.returns-then-is_last-clause-table
returns-then-is_last-clause-table c =
    let i = c.loop-number.invariant in
    let xs = c.loop-number.results.items in
    let o = c.in-Ok.result in
    let items : c.push.new.self.items ≡ xs ++ o ∷ [] = c.push.ensures.items ∙ ap (λ b. if b then (xs ++ o ∷ []) else xs) (c.is_err.ensures.negation ∙ ap not c.if-is_err.false) in
    subst (IsTable c.args.program.now c.args.plan.now) (sym items) (ends _ _ xs c.loop-number.number o i.beginning i.len c.loop-number-test.true i.none c.in-Ok.ensures.right (sym c.is_last.ensures ∙ c.if-is_last.true))

pub loop-number-preserved : goal.loop-number-preserved
loop-number-preserved c =
    let i = c.loop-number.invariant in
    let xs = c.loop-number.results.items in
    let o = c.in-Ok.result in
    let items : c.push.new.self.items ≡ xs ++ o ∷ [] = c.push.ensures.items ∙ ap (λ b. if b then (xs ++ o ∷ []) else xs) (c.is_err.ensures.negation ∙ ap not c.if-is_err.false) in
    record {
      program = c.result_at.ensures.program;
      plan = c.result_at.ensures.plan;
      len = ap length items ∙ longer _ _ xs c.loop-number.number o i.beginning i.len c.loop-number-test.true i.none c.in-Ok.ensures.right;
      beginning = subst (IsBeginning c.args.program.now c.args.plan.now) (sym items) (grows _ _ xs c.loop-number.number o i.beginning i.len c.loop-number-test.true i.none c.in-Ok.ensures.right);
      none = goes_on _ _ xs c.loop-number.number o i.beginning i.len c.loop-number-test.true i.none c.in-Ok.ensures.right (sym c.is_last.ensures ∙ c.if-is_last.false);
    }
