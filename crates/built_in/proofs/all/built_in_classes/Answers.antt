use Rattle.std.proofs.Common.{refl}
use Rattle.jvms_program.specs.BuiltIn.{built_in_classes}
use Rattle.built_in.proofs.all.built_in_classes.Goals as goal

pub returns : goal.returns
unfolding built_in_classes
returns c = rw c.in_ok-push_below.ensures (rw c.in_ok-put_ordinary.ensures refl)
