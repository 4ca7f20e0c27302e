use Rattle.assembled_entry_laws.proofs.Operands.{catches_are_named}
use Rattle.assembled_entry_laws.proofs.catches_are_named.Goals as goal

pub returns : goal.returns
returns c = catches_are_named
