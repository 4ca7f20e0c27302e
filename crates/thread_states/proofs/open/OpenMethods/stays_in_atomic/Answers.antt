use Rattle.thread_states.proofs.Tops.{stays_in}
use Rattle.thread_states.proofs.open.OpenMethods.stays_in_atomic.Goals as goal

pub returns-in-Some : goal.returns-in-Some
returns-in-Some c = stays_in c.in-Some.open.now c.args.self.now.methods c.in-Some.ensures.method c.in-Some.ensures.inner
