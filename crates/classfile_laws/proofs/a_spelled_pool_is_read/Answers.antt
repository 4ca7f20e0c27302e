use Rattle.classfile_laws.proofs.Pools.{pool_again}
use Rattle.classfile_laws.proofs.a_spelled_pool_is_read.Goals as goal

pub returns : goal.returns
returns c = λ cut bytes rest pool spells. (pool_again cut bytes pool rest spells, spells.2)
