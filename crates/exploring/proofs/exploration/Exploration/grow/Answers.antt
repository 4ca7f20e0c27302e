use Rattle.std.proofs.Common.{Bool, List, [], subst, sym}
use Rattle.explore_jobs.specs.declared.fate.Fate.{Fate}
use Rattle.exploring.proofs.Whole.{next_level_is, next_way}
use Rattle.exploring.specs.Explorations.{Explored, IsNextLevel, IsOnWay}
use Rattle.jvms_program.specs.Program.{IsProgram}
use Rattle.exploring.proofs.exploration.Exploration.grow.Goals as goal

pub invariant_of-self : goal.invariant_of-self
invariant_of-self g c =
    let e = c.args.self.now in
    let growth = c.in_ok-growth.growth in
    let good = c.covers-is_good.result in
    let way = subst IsOnWay c.self.view_is c.self.invariant in
    let is = subst (λ (x : Explored). IsProgram x.program) c.self.view_is c.program_invariant.ensures in
    subst (λ (x : Explored). IsOnWay (record { program = x.program; plan = x.plan; jobs = growth.jobs; count = growth.count; fates = c.new.result.items; is_good_below = good })) (sym c.self.view_is)
    (subst (λ (fates : List Fate). IsOnWay (record { program = e.program; plan = e.plan; jobs = growth.jobs; count = growth.count; fates = fates; is_good_below = good })) (sym c.new.ensures.items)
    (next_way c.departures_make_the_choices_of_a_schedule.ensures e is way c.args.room growth good c.requires.whole c.in_ok-growth.ensures.each c.in_ok-growth.ensures.next c.covers-is_good.ensures.exact))

pub returns-clause-ok : goal.returns-clause-ok
returns-clause-ok g c =
    let e = c.args.self.now in
    let growth = c.in_ok-growth.growth in
    let way = subst IsOnWay c.self.view_is c.self.invariant in
    subst (λ (x : Explored). IsNextLevel c.args.room e (record { program = x.program; plan = x.plan; jobs = growth.jobs; count = growth.count; fates = c.new.result.items; is_good_below = c.covers-is_good.result })) (sym c.self.view_is)
    (subst (λ (fates : List Fate). IsNextLevel c.args.room e (record { program = e.program; plan = e.plan; jobs = growth.jobs; count = growth.count; fates = fates; is_good_below = c.covers-is_good.result })) (sym c.new.ensures.items)
    (subst (λ (good : Bool). IsNextLevel c.args.room e (record { program = e.program; plan = e.plan; jobs = growth.jobs; count = growth.count; fates = []; is_good_below = good })) (sym c.covers-is_good.ensures.exact)
    (next_level_is e way c.args.room growth c.requires.whole c.in_ok-growth.ensures.each c.in_ok-growth.ensures.next)))
