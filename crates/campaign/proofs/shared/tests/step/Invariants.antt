use Rattle.std.proofs.Common.{◌≤◌}
use Rattle.campaign_desk.specs.Desk.{IsSeatOf}
use Rattle.campaign.proofs.shared.tests.step.Given as goal

abbrev pub invariant-loop : goal.invariant-loop
invariant-loop l = IsSeatOf l.desk l.seat × (l.drawn ≤ l.counter)
