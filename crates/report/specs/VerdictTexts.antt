-- Defines the line of a verdict (own): `atomic events N transactions M`, or `cycle at E events N transactions M: A
-- B ..`. The counts are of the whole trace, and numbers are in decimal.
use Rattle.std.specs.Prelude.{ℕ, List, ◌++◌, codes}
use Rattle.std.specs.List.{flat_map}
use Rattle.std.specs.Fmt.{decimal}
use Rattle.velodrome.specs.declared.verdict.Verdict.{Verdict}
use Rattle.velodrome.specs.declared.verdict.Verdict.TheVariants as verdict
use Rattle.atom_graph.specs.declared.counts.Counts.{Counts}

abbrev pub counts_text : Counts → List ℕ
counts_text counts = codes "events " ++ decimal counts.events ++ codes " transactions " ++ decimal counts.transactions

-- Returns a space and a number.
abbrev pub number_text : ℕ → List ℕ
number_text n = codes " " ++ decimal n

-- Returns the line of a cycle, with its transactions in the cycle's order.
abbrev pub cycle_text : ℕ → List ℕ → Counts → List ℕ
cycle_text first_at transactions counts =
    codes "cycle at " ++ decimal first_at ++ codes " " ++ counts_text counts ++ codes ":" ++ flat_map number_text transactions ++ codes "\n"

abbrev pub verdict_text : Verdict → Counts → List ℕ
verdict_text (verdict.Atomic order) counts = codes "atomic " ++ counts_text counts ++ codes "\n"
verdict_text (verdict.Cycle first_at transactions pairs) counts = cycle_text first_at transactions counts
