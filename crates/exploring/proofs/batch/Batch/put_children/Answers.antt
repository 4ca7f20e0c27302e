use Rattle.std.proofs.Common.{subst, ◌+◌}
use Rattle.std.specs.Prelude.{IfSome}
use Rattle.exploring.proofs.Found.{found_each}
use Rattle.exploring.specs.Batches.{AddsChildrenOf, job_at}
use Rattle.exploring.proofs.batch.Batch.put_children.Goals as goal

pub returns : goal.returns
returns g c =
    let Adds = AddsChildrenOf c.args.self.now.program.now c.args.self.now.plan.now in
    found_each Adds c.args.self.now.jobs.now c.args.self.now.from c.args.self.now.count c.args.found.now c.for_each_mut.new.s c.requires.jobs c.requires.places c.for_each_mut.auto.s
    (λ i o less.
    let at = (c.for_each_mut.ensures i o less).1 in
    subst (λ one. IfSome one (Adds (job_at c.args.self.now.jobs.now (c.args.self.now.from + i)))) at.left at.call)
