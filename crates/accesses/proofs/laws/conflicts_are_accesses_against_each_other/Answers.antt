use Rattle.accesses.proofs.Conflicting.{conflict_is_against}
use Rattle.accesses.proofs.laws.conflicts_are_accesses_against_each_other.Goals as goal

pub returns : goal.returns
returns c = conflict_is_against
