use Rattle.std.proofs.Common.{◌≡◌}
use Rattle.campaign_desk.specs.Desk.{IsSeatOf}
use Rattle.campaign_desk.proofs.tests.draw_all.Given as goal

abbrev pub invariant-loop : goal.invariant-loop
invariant-loop l = IsSeatOf l.desk l.seat × (l.seat.knowledge.draws ≡ l.numbers.items)
