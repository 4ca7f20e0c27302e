use Rattle.std.proofs.Common.{ap, arith, length}
use Rattle.exploring.proofs.Split.{level_job, level_within}
use Rattle.exploring.proofs.jobs.Jobs.get.Goals as goal

pub overflow_mul-begin : goal.overflow_mul-begin
overflow_mul-begin c =
    let within = level_within c.args.self.now c.self.inside.count c.self.inside.each c.args.index c.self.inside.departures.items c.self.view_is c.self.invariant c.requires in
    grind (arith, within)

pub overflow_add-result : goal.overflow_add-result
overflow_add-result c =
    let within = level_within c.args.self.now c.self.inside.count c.self.inside.each c.args.index c.self.inside.departures.items c.self.view_is c.self.invariant c.requires in
    grind (arith, within)

pub offset_bounds-deref-begin : goal.offset_bounds-deref-begin
offset_bounds-deref-begin c =
    let within = level_within c.args.self.now c.self.inside.count c.self.inside.each c.args.index c.self.inside.departures.items c.self.view_is c.self.invariant c.requires in
    let same = ap length c.deref.ensures.value in
    grind (arith, within, same, c.deref.type_inv)

pub slice_bounds-result-end : goal.slice_bounds-result-end
slice_bounds-result-end c =
    let within = level_within c.args.self.now c.self.inside.count c.self.inside.each c.args.index c.self.inside.departures.items c.self.view_is c.self.invariant c.requires in
    let same = ap length c.deref.ensures.value in
    grind (arith, within, same, c.deref.type_inv)

pub returns-clause-job : goal.returns-clause-job
returns-clause-job c = level_job c.args.self.now c.self.inside.count c.self.inside.each c.args.index c.self.inside.departures.items c.deref.result.now c.self.view_is c.requires c.deref.ensures.value
