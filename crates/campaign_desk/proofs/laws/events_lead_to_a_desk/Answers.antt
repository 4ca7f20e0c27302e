use Rattle.campaign_desk.proofs.EventLaws.{each_leads_to_desk}
use Rattle.campaign_desk.proofs.laws.events_lead_to_a_desk.Goals as goal

pub returns : goal.returns
returns c = record { desk = each_leads_to_desk }
