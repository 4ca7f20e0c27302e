use Rattle.std.proofs.Common.{◌∙◌}
use Rattle.thread_states.proofs.Tops.{innermost_is}
use Rattle.thread_states.proofs.open.OpenMethods.is_innermost.Goals as goal

pub returns-in-Some : goal.returns-in-Some
returns-in-Some c =
    c.is_same.ensures ∙ innermost_is c.args.method.now c.in-Some.open.now c.args.self.now.methods c.in-Some.ensures.method
