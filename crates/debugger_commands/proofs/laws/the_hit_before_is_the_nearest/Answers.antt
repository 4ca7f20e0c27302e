use Rattle.debugger_commands.proofs.Hits.{hit_before_is_hit, hit_before_is_nearest, hit_before_within, hit_before_below}
use Rattle.debugger_commands.proofs.laws.the_hit_before_is_the_nearest.Goals as goal

pub returns-clause-hit : goal.returns-clause-hit
returns-clause-hit c = hit_before_is_hit

pub returns-clause-nearest : goal.returns-clause-nearest
returns-clause-nearest c = hit_before_is_nearest

pub returns-clause-within : goal.returns-clause-within
returns-clause-within c = hit_before_within

pub returns-clause-before : goal.returns-clause-before
returns-clause-before c = hit_before_below
