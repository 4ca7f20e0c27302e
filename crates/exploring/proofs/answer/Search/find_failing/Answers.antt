use Rattle.std.proofs.Common.{inr, sym, ◌∙◌}
use Rattle.exploring.proofs.answer.Search.find_failing.Goals as goal

pub returns-in_ok-run_at-clause-failing : goal.returns-in_ok-run_at-clause-failing
returns-in_ok-run_at-clause-failing c =
    inr
    (record {
      place = c.in-Some.place;
      first = sym c.first_failing.ensures ∙ c.in-Some.is;
      is = c.in_ok-run_at.ensures;
      least = c.covers_below.ensures.covers c.if-covers_below.true;
    })
