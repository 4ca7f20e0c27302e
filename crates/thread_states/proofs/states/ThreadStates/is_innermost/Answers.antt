use Rattle.std.proofs.Common.{◌∙◌}
use Rattle.std.specs.Prelude.{Some, None}
use Rattle.velodrome.specs.Transactions.{ThreadState, is_innermost}
use Rattle.thread_states.proofs.Changes.{told}
use Rattle.thread_states.proofs.states.ThreadStates.is_innermost.Goals as goal

pub returns-in-None : goal.returns-in-None
returns-in-None c =
    told (λ l (k : ThreadState). is_innermost c.args.method.now k.methods) c.args.thread None c.self.inside.spec c.self.inside.threads.entries c.args.self.now c.self.view_is
    c.in-None.ensures.value

pub returns-in-Some : goal.returns-in-Some
returns-in-Some c =
    c.is_innermost.ensures
    ∙ told (λ l (k : ThreadState). is_innermost c.args.method.now k.methods) c.args.thread (Some c.in-Some.open.now) c.self.inside.spec c.self.inside.threads.entries
    c.args.self.now c.self.view_is c.in-Some.ensures.value
