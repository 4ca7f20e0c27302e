use Rattle.std.proofs.lemmas.Result.{err_from_is_err_and}
use Rattle.const_pool.specs.Interning.{pool_of}
use Rattle.pool_entries.proofs.Numbering.{gives_interned, gives_fault, stays_short, stays_proper}
use Rattle.pool_entries.proofs.entries.Entries.constant.Goals as goal

pub returns-in_err-intern-clause-exact : goal.returns-in_err-intern-clause-exact
returns-in_err-intern-clause-exact c =
    let p = err_from_is_err_and c.from_residual.result c.from_residual.ensures.1 in
    rw (p.1, p.2, ← c.self.view_is) (gives_fault c.self.inside.builder c.intern.new.self c.args.entry c.in_err-intern.field-0.0 (pool_of c.intern.new.self) c.in_err-intern.ensures.exact)

pub invariant_of-self-2 : goal.invariant_of-self-2
invariant_of-self-2 c =
    let old = c.self.inside.builder in
    let new = c.intern.new.self in
    let n = c.in_ok-intern.field-0 in
    (stays_short old new c.args.entry n c.requires.short c.self.invariant.0 c.in_ok-intern.ensures.exact, stays_proper old new c.args.entry n c.requires.proper c.self.invariant.1 c.in_ok-intern.ensures.exact)

pub returns-clause-exact : goal.returns-clause-exact
returns-clause-exact c =
    rw (← c.self.view_is) (gives_interned c.self.inside.builder c.intern.new.self c.args.entry c.in_ok-intern.field-0 c.in_ok-intern.ensures.exact)
