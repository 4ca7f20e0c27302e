-- By computing.
use Rattle.std.proofs.Common.{refl}
use Rattle.std.specs.Int.{int_wrap}
use Rattle.jvms_file.proofs.laws.quotients.Goals as goal

pub returns-clause-least : goal.returns-clause-least
unfolding int_wrap
returns-clause-least c = (refl, refl)

pub returns-clause-negative : goal.returns-clause-negative
unfolding int_wrap
returns-clause-negative c = (refl, refl)
