use Rattle.classfile_laws.proofs.Pools.{pool_found}
use Rattle.classfile_laws.proofs.a_read_pool_is_spelled.Goals as goal

pub returns : goal.returns
returns c = λ cut bytes rest pool are some read sound.
    let found = (pool_found cut bytes pool rest are sound read).spelled some in
    (found.first, found.spells, found.parts)
