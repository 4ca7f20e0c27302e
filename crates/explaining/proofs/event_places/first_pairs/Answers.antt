use Rattle.std.proofs.Common.{sym}
use Rattle.std.proofs.lemmas.List.{take_all}
use Rattle.explaining.proofs.event_places.first_pairs.Goals as goal

pub returns-then-pairs-le-MOST_EXPLAINED : goal.returns-then-pairs-le-MOST_EXPLAINED
returns-then-pairs-le-MOST_EXPLAINED c = sym (take_all 64 c.args.pairs.now c.if-pairs-le-MOST_EXPLAINED.true)
