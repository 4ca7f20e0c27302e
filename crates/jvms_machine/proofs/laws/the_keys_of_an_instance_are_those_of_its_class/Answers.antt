use Rattle.jvms_machine.proofs.SlotKeys.{instance_keys_are}
use Rattle.jvms_machine.proofs.laws.the_keys_of_an_instance_are_those_of_its_class.Goals as goal

pub returns : goal.returns
returns c = instance_keys_are
