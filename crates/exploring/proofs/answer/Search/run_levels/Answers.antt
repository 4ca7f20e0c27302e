use Rattle.std.proofs.Common.{ap, arith, false, length, sym, true, ◌+◌, ◌<◌, ◌≤◌, ◌∙◌, ◌≡◌}
use Rattle.exploring.proofs.Thorough.{ends, goes_on, stops}
use Rattle.exploring.proofs.answer.Search.run_levels.Goals as goal

pub loop-init : goal.loop-init
loop-init g c =
    record {
      after = c.in_ok-run_level.ensures.after c.requires.before;
      alike = c.in_ok-run_level.ensures.alike;
      level = c.in_ok-run_level.ensures.level ∙ c.requires.level;
      thorough = c.in_ok-run_level.ensures.thorough c.args.bounds c.requires.thorough;
    }

pub loop-preserved : goal.loop-preserved
loop-preserved g c =
    let is = c.loop.invariant in
    let on : c.goes_on.result ≡ true = (cc) in
    let few : length c.loop.self.levels.items ≤ c.args.bounds.departures = omega (arith, is.after.counted, is.level) in
    record {
      after = c.in_ok-run_next.ensures.after is.after;
      alike = record {
        program = c.in_ok-run_next.ensures.alike.program ∙ is.alike.program;
        plan = c.in_ok-run_next.ensures.alike.plan ∙ is.alike.plan;
      };
      level = c.in_ok-run_next.ensures.level ∙ ap (λ n. n + 1) is.level;
      thorough = c.in_ok-run_next.ensures.thorough c.args.bounds is.thorough (goes_on c.args.bounds c.loop.self is.thorough few (sym c.goes_on.ensures.exact ∙ on));
    }

pub returns-then-not-goes_on-clause-last : goal.returns-then-not-goes_on-clause-last
returns-then-not-goes_on-clause-last g c =
    let off : c.goes_on.result ≡ false = (cc) in
    stops c.args.bounds c.loop.self c.loop.invariant.thorough (sym c.goes_on.ensures.exact ∙ off)

pub returns-clause-last : goal.returns-clause-last
returns-clause-last g c =
    let is = c.loop.invariant in
    let many : c.args.bounds.departures < length c.loop.self.levels.items = omega (arith, is.after.counted, is.level) in
    ends c.args.bounds c.loop.self is.thorough many
