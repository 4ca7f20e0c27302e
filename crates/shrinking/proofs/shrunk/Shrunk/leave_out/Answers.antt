-- A chunk that can't be left out was tried. One that can is left out.
use Rattle.std.proofs.Common.{List, ap, arith, false, subst, sym, true, ◌∙◌, ◌≡◌, ◌≤◌}
use Rattle.std.proofs.lemmas.Bool.{false≢true}
use Rattle.departures.specs.declared.departure.Departure.{Departure}
use Rattle.explore_jobs.specs.Fates.{IsFateOf}
use Rattle.shrinking.proofs.Left.{left, through}
use Rattle.shrinking.proofs.Ways.{one_needed}
use Rattle.shrinking.specs.Failures.{fails_by}
use Rattle.shrinking.specs.Parts.{IsPartOf, without}
use Rattle.shrinking.proofs.shrunk.Shrunk.leave_out.Goals as goal

pub returns-then-not-is_of_job-clause-way : goal.returns-then-not-is_of_job-clause-way
returns-then-not-is_of_job-clause-way c = λ given on.
    let program = c.args.program.now in
    let plan = c.args.plan.now in
    let all = c.args.self.now.departures.items in
    let from = c.args.pass.from in
    let count = c.min-count.result in
    let rest : c.as_slice-2.result.now ≡ without from count all =
    c.as_slice-2.ensures.value ∙ (c.in_ok-rest.ensures ∙ ap (without from count) c.as_slice.ensures.value) in
    let is = subst (λ (x : List Departure). IsFateOf program plan x c.in_ok-fate.fate) rest c.in_ok-fate.ensures in
    let avoids : fails_by plan.most c.args.failure c.in_ok-fate.fate ≡ false = sym c.is_of_job.ensures ∙ c.if-not-is_of_job.true in
    let within : count ≤ c.args.pass.size = omega arith in
    c.advance.ensures.way program plan c.args.failure given (record {
      part = on.part;
      fate = on.fate;
      fails = on.fails;
      tried = λ small none. one_needed program plan c.args.failure all from count c.args.pass.size c.in_ok-fate.fate within small (on.tried small none) is avoids;
      least = on.least;
    })

pub returns-clause-way : goal.returns-clause-way
returns-clause-way c = λ given on.
    let program = c.args.program.now in
    let plan = c.args.plan.now in
    let all = c.args.self.now.departures.items in
    let from = c.args.pass.from in
    let count = c.min-count.result in
    let rest : c.in_ok-rest.rest.items ≡ without from count all = c.in_ok-rest.ensures ∙ ap (without from count) c.as_slice.ensures.value in
    let is = subst (λ (x : List Departure). IsFateOf program plan x c.in_ok-fate.fate) c.as_slice-2.ensures.value c.in_ok-fate.ensures in
    let fails : fails_by plan.most c.args.failure c.in_ok-fate.fate ≡ true = sym c.is_of_job.ensures ∙ c.if-not-is_of_job.false in
    c.advance-2.ensures.way program plan c.args.failure given (record {
      part = through _ all given (subst (λ (x : List Departure). IsPartOf x all) (sym rest) (left from count all)) on.part;
      fate = is;
      fails = fails;
      tried = λ small none. absurd (false≢true (sym none));
      least = λ least. absurd (false≢true (sym c.requires.more ∙ least));
    })
