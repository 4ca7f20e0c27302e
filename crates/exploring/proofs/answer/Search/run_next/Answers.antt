use Rattle.exploring.proofs.answer.Search.run_next.Goals as goal

pub returns-clause-thorough : goal.returns-clause-thorough
returns-clause-thorough g c = λ bounds after on. c.run_level.ensures.thorough bounds (c.in_ok-grow.ensures.thorough bounds after on)
