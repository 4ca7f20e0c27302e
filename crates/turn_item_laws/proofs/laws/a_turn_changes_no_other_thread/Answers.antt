use Rattle.turn_item_laws.proofs.ThreadLaws.{turn_keeps_object, turn_keeps_others, turn_starts_new}
use Rattle.turn_item_laws.proofs.laws.a_turn_changes_no_other_thread.Goals as goal

pub returns-clause-others : goal.returns-clause-others
returns-clause-others c = turn_keeps_others

pub returns-clause-own : goal.returns-clause-own
returns-clause-own c = turn_keeps_object

pub returns-clause-new : goal.returns-clause-new
returns-clause-new c = turn_starts_new
