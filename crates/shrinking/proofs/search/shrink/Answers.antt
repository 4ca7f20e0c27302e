-- The search begins with all departures.
use Rattle.std.proofs.Common.{arith, List, ap, length, nat_eq, subst, sym, ◌∙◌, ◌≡◌}
use Rattle.departures.specs.declared.departure.Departure.{Departure}
use Rattle.explore_jobs.specs.Fates.{IsFateOf}
use Rattle.shrinking.proofs.Left.{whole}
use Rattle.shrinking.proofs.Ways.{is_some_left, none_is_least, none_left, none_needed}
use Rattle.shrinking.proofs.search.shrink.Goals as goal

pub returns-then-not-is_of_job-clause-part : goal.returns-then-not-is_of_job-clause-part
returns-then-not-is_of_job-clause-part c = whole c.args.departures.items

pub loop-shrunk-init : goal.loop-shrunk-init
loop-shrunk-init c =
    let program = c.args.program.now in
    let plan = c.args.plan.now in
    let all = c.args.departures.items in
    let count : length all ≡ c.args.departures.len = sym (ap length c.as_slice.ensures.value) ∙ c.as_slice.ensures.len in
    let empty : c.is_empty.result ≡ nat_eq (length all) 0 = c.is_empty.ensures ∙ ap (λ n. nat_eq n 0) (sym count) in
    record {
      way = record {
        part = whole all;
        fate = subst (λ (x : List Departure). IsFateOf program plan x c.in_ok-fate.fate) c.as_slice.ensures.value c.in_ok-fate.ensures;
        fails = sym c.is_of_job.ensures ∙ c.if-not-is_of_job.false;
        tried = λ small none. none_needed program plan c.args.failure all;
        least = λ least. none_is_least program plan c.args.failure all (none_left (length all) (sym empty ∙ least));
      };
      from = λ off. is_some_left (length all) (sym empty ∙ off);
      runs = omega arith;
    }
