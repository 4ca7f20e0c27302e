use Rattle.assembled_entry_laws.proofs.Operands.{operands_are_named}
use Rattle.assembled_entry_laws.proofs.operands_are_named.Goals as goal

pub returns : goal.returns
returns c = operands_are_named
