use Rattle.machine.proofs.OnLaws.{on_keeps}
use Rattle.machine.proofs.machine.Machine.step_consecutive.Goals as goal

pub invariant_of-self : goal.invariant_of-self
invariant_of-self c = on_keeps c.step_consecutive.result c.args.t _ c.self.inside.parts c.step_consecutive.new.parts _ _ c.step_consecutive.ensures.ran c.self.invariant
