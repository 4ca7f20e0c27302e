use Rattle.std.proofs.Common.{refl}
use Rattle.exploring.proofs.Searched.{before_next}
use Rattle.exploring.proofs.Thorough.{thorough_next}
use Rattle.exploring.proofs.answer.Search.grow.Goals as goal

pub returns-clause-before : goal.returns-clause-before
returns-clause-before g c =
    λ after.
    let old = c.args.self.now in
    before_next old (record { alloc = old.alloc; exploration = c.grow.new.self; levels = old.levels; failing = old.failing; left = old.left }) old.left after c.in_ok-grow.ensures.ok refl refl

pub returns-clause-thorough : goal.returns-clause-thorough
returns-clause-thorough g c =
    λ bounds after on.
    let old = c.args.self.now in
    thorough_next bounds old (record { alloc = old.alloc; exploration = c.grow.new.self; levels = old.levels; failing = old.failing; left = old.left }) after on c.in_ok-grow.ensures.ok c.is_on_way.ensures refl refl refl
