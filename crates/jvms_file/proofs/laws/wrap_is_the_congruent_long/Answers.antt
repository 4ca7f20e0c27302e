use Rattle.jvms_file.proofs.LongLaws.{long_wrap_is_long, long_wrap_is_congruent, one_long}
use Rattle.jvms_file.specs.Numbers.{long_wrap}
use Rattle.jvms_file.proofs.laws.wrap_is_the_congruent_long.Goals as goal

pub returns : goal.returns
returns c = λ n. (long_wrap_is_long n, long_wrap_is_congruent n, λ m long congruent. one_long n m (long_wrap n) long (long_wrap_is_long n) congruent (long_wrap_is_congruent n))
