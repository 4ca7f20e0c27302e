use Rattle.local_turns.proofs.Items.{alike_by}
use Rattle.local_turns.proofs.laws.views_are_the_same_of_alike_traces.Goals as goal

pub returns : goal.returns
returns c = λ items others same. alike_by items others same
