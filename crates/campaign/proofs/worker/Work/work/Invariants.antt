-- The seat stays one of the desk.
use Rattle.campaign_desk.specs.Desk.{IsSeatOf}
use Rattle.campaign.proofs.worker.Work.work.Given as goal

abbrev pub invariant-loop : goal.invariant-loop
invariant-loop g l = IsSeatOf l.self.desk.now l.worker.seat
