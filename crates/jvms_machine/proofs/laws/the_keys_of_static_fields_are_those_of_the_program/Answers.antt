use Rattle.jvms_machine.proofs.SlotKeys.{static_keys_are}
use Rattle.jvms_machine.proofs.laws.the_keys_of_static_fields_are_those_of_the_program.Goals as goal

pub returns : goal.returns
returns c = static_keys_are
