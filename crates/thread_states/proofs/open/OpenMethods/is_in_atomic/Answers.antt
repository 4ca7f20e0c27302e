use Rattle.std.proofs.Common.{ap, sym, ◌∙◌, ◌||◌}
use Rattle.thread_states.proofs.Tops.{is_in, none_is_in}
use Rattle.thread_states.proofs.open.OpenMethods.is_in_atomic.Goals as goal

pub returns-in-None : goal.returns-in-None
returns-in-None c = none_is_in c.args.self.now.methods c.in-None.ensures.method

pub returns-then-open : goal.returns-then-open
returns-then-open c =
    let o = c.in-Some.open.now in
    c.if-open.true ∙ sym (ap (λ b. b || o.is_inner) c.if-open.true) ∙ is_in o c.args.self.now.methods c.in-Some.ensures.method c.in-Some.ensures.inner

pub returns-else-open : goal.returns-else-open
returns-else-open c =
    let o = c.in-Some.open.now in
    sym (ap (λ b. b || o.is_inner) c.if-open.false) ∙ is_in o c.args.self.now.methods c.in-Some.ensures.method c.in-Some.ensures.inner
