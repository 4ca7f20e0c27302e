use Rattle.jvms_file.proofs.NumberLaws.{wrap_is_int, wrap_is_congruent, one_int}
use Rattle.jvms_file.specs.Numbers.{wrap}
use Rattle.jvms_file.proofs.laws.wrap_is_the_congruent_int.Goals as goal

pub returns : goal.returns
returns c = λ n. (wrap_is_int n, wrap_is_congruent n, λ m int congruent. one_int n m (wrap n) int (wrap_is_int n) congruent (wrap_is_congruent n))
