-- The results so far are a beginning of the table.
use Rattle.std.proofs.Common.{◌≡◌, ℕ, ◌<◌, length, true}
use Rattle.campaign.specs.Tables.{HasNoCycle, IsBeginning}
use Rattle.campaign.proofs.table.table_of.Given as goal

abbrev pub invariant-loop-number : goal.invariant-loop-number
invariant-loop-number l =
    record {
      program : l.book.program ≡ l.program;
      plan : l.book.plan ≡ l.plan;
      len : length l.results.items ≡ l.number;
      beginning : IsBeginning l.program l.plan l.results.items;
      none : l.plan.stop ≡ true → (k : ℕ) → k < l.number → HasNoCycle l.program l.plan k;
    }
