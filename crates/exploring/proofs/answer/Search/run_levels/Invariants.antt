use Rattle.std.proofs.Common.{◌≡◌}
use Rattle.exploring.specs.Explorations.{level_in}
use Rattle.exploring.specs.Searches.{AreAlike, IsAfter, IsThoroughAfter}
use Rattle.exploring.proofs.answer.Search.run_levels.Given as goal

abbrev pub invariant-loop : goal.invariant-loop
invariant-loop g l =
    record {
      after : IsAfter l.self;
      alike : AreAlike l.fn.self l.self;
      level : level_in l.self.exploration ≡ l.counter;
      thorough : IsThoroughAfter l.bounds l.self;
    }
