use Rattle.debugger_commands.proofs.Hits.{next_hit_is_hit, next_hit_is_nearest, next_hit_within, next_hit_above}
use Rattle.debugger_commands.proofs.laws.the_next_hit_is_the_nearest.Goals as goal

pub returns-clause-hit : goal.returns-clause-hit
returns-clause-hit c = next_hit_is_hit

pub returns-clause-nearest : goal.returns-clause-nearest
returns-clause-nearest c = next_hit_is_nearest

pub returns-clause-within : goal.returns-clause-within
returns-clause-within c = next_hit_within

pub returns-clause-beyond : goal.returns-clause-beyond
returns-clause-beyond c = next_hit_above
