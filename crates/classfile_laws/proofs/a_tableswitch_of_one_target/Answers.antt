use Rattle.std.proofs.Common.{arith}
use Rattle.classfile_laws.proofs.Switches.{one_target_size}
use Rattle.classfile_laws.proofs.a_tableswitch_of_one_target.Goals as goal

pub returns-clause-at_0 : goal.returns-clause-at_0
returns-clause-at_0 c = λ pool major pcs bytes s one spells. one_target_size pcs 0 bytes s one spells (omega arith)

pub returns-clause-at_1 : goal.returns-clause-at_1
returns-clause-at_1 c = λ pool major pcs bytes s one spells. one_target_size pcs 1 bytes s one spells (omega arith)

pub returns-clause-at_2 : goal.returns-clause-at_2
returns-clause-at_2 c = λ pool major pcs bytes s one spells. one_target_size pcs 2 bytes s one spells (omega arith)

pub returns-clause-at_3 : goal.returns-clause-at_3
returns-clause-at_3 c = λ pool major pcs bytes s one spells. one_target_size pcs 3 bytes s one spells (omega arith)
