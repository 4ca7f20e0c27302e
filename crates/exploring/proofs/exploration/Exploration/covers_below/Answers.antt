use Rattle.std.proofs.Common.{subst}
use Rattle.std.specs.Prelude.{IsTrue}
use Rattle.exploring.proofs.Whole.{covered_below}
use Rattle.exploring.specs.Explorations.{Explored, IsOnWay, level_in}
use Rattle.jvms_program.specs.Program.{IsProgram}
use Rattle.exploring.proofs.exploration.Exploration.covers_below.Goals as goal

pub returns-clause-covers : goal.returns-clause-covers
returns-clause-covers c =
    λ good start begun.
    let e = c.args.self.now in
    let way = subst IsOnWay c.self.view_is c.self.invariant in
    let is = subst (λ (x : Explored). IsProgram x.program) c.self.view_is c.program_invariant.ensures in
    let below = subst (λ (x : Explored). IsTrue x.is_good_below) c.self.view_is good in
    covered_below c.jobs_speak_for_all_runs.ensures c.jobs_speak_for_reduced_runs.ensures e.program e.plan start (level_in e) is begun ((way.level start begun).below below)
