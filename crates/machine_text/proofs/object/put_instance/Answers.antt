use Rattle.std.proofs.Common.{arith}
use Rattle.std.proofs.lemmas.Grind.{common_steps}
use Rattle.machine_text.proofs.Keys.{fields_by_class}
use Rattle.machine_text.proofs.object.put_instance.Goals as goal

pub returns : goal.returns
returns c =
    rw (
    fields_by_class c.args.machine.now c.args.reference c.args.class.now c.requires.0 c.state_is_sound.ensures.objects_are
    (c.the_keys_of_an_instance_are_those_of_its_class.ensures c.args.machine.now.program c.args.class.now)
    c.requires.1
    )
    (grind (arith, common_steps))
