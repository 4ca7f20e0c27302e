-- By computing.
use Rattle.std.proofs.Common.{refl}
use Rattle.std.specs.Int.{int_wrap}
use Rattle.jvms_file.proofs.laws.results_of_longs.Goals as goal

pub returns-clause-least : goal.returns-clause-least
unfolding int_wrap
returns-clause-least c = (refl, refl)

pub returns-clause-shifts : goal.returns-clause-shifts
unfolding int_wrap
returns-clause-shifts c = (refl, refl)

pub returns-clause-low_bits : goal.returns-clause-low_bits
unfolding int_wrap
returns-clause-low_bits c = refl
