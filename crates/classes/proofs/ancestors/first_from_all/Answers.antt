use Rattle.classes.proofs.MarkLaws.{none_marked}
use Rattle.classes.proofs.ancestors.first_from_all.Goals as goal

pub first_from_with-requires-clause-none_reached : goal.first_from_with-requires-clause-none_reached
first_from_with-requires-clause-none_reached g c = none_marked 16384

pub first_from_with-requires-clause-none_useful : goal.first_from_with-requires-clause-none_useful
first_from_with-requires-clause-none_useful g c = none_marked 16384
