-- By computing.
use Rattle.std.proofs.Common.{refl}
use Rattle.std.specs.Int.{int_wrap}
use Rattle.jvms_file.proofs.laws.shifts_and_narrowed_numbers.Goals as goal

pub returns-clause-shifts : goal.returns-clause-shifts
unfolding int_wrap
returns-clause-shifts c = (refl, refl, refl)

pub returns-clause-narrowed : goal.returns-clause-narrowed
unfolding int_wrap
returns-clause-narrowed c = (refl, refl, refl, refl)
