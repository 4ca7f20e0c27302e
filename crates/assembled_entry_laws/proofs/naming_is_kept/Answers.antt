use Rattle.assembled_entry_laws.proofs.Keeping.{class-kept, operand-kept, operands-kept, caught-kept, catches-kept, classes-kept}
use Rattle.assembled_entry_laws.proofs.naming_is_kept.Goals as goal

pub returns-clause-class : goal.returns-clause-class
returns-clause-class c = class-kept

pub returns-clause-operand : goal.returns-clause-operand
returns-clause-operand c = operand-kept

pub returns-clause-operands : goal.returns-clause-operands
returns-clause-operands c = operands-kept

pub returns-clause-caught : goal.returns-clause-caught
returns-clause-caught c = caught-kept

pub returns-clause-catches : goal.returns-clause-catches
returns-clause-catches c = catches-kept

pub returns-clause-classes : goal.returns-clause-classes
returns-clause-classes c = classes-kept
