use Rattle.std.proofs.Common.{subst, ◌+◌}
use Rattle.std.specs.Prelude.{IsTrue}
use Rattle.exploring.proofs.Whole.{covered_below, good_to}
use Rattle.exploring.specs.Explorations.{Explored, IsOnWay, level_in}
use Rattle.jvms_program.specs.Program.{IsProgram}
use Rattle.exploring.proofs.exploration.Exploration.covers.Goals as goal

pub returns-clause-covers : goal.returns-clause-covers
returns-clause-covers c =
    λ good start begun.
    let e = c.args.self.now in
    let way = subst IsOnWay c.self.view_is c.self.invariant in
    let is = subst (λ (x : Explored). IsProgram x.program) c.self.view_is c.program_invariant.ensures in
    covered_below c.jobs_speak_for_all_runs.ensures c.jobs_speak_for_reduced_runs.ensures e.program e.plan start (level_in e + 1) is begun
    (good_to c.departures_make_the_choices_of_a_schedule.ensures e start is way begun (subst IsTrue c.is_good.ensures good))
