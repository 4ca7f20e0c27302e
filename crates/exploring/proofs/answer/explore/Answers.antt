use Rattle.std.proofs.Common.{◌∙◌}
use Rattle.exploring.proofs.Searched.{answer_is}
use Rattle.exploring.proofs.Thorough.{thorough_answer}
use Rattle.exploring.proofs.answer.explore.Goals as goal

pub returns : goal.returns
returns g c =
    answer_is c.args.program.now c.args.plan.now c.args.bounds c.run_levels.new.self c.answer.result c.in_ok-run_levels.ensures.after (c.in_ok-run_levels.ensures.alike.program ∙ c.new-search.ensures.program)
    (c.in_ok-run_levels.ensures.alike.plan ∙ c.new-search.ensures.plan) c.answer.ensures.levels c.answer.ensures.failing
    (thorough_answer c.args.bounds c.run_levels.new.self c.answer.result c.in_ok-run_levels.ensures.after c.in_ok-run_levels.ensures.thorough c.in_ok-run_levels.ensures.last c.answer.ensures.levels c.answer.ensures.failing
    c.answer.ensures.exact)
    c.answer.ensures.covered
