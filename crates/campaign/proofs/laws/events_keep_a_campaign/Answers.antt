-- Each event keeps a state of the campaign.
use Rattle.campaign.proofs.WholeLaws.{events_keep}
use Rattle.campaign.proofs.laws.events_keep_a_campaign.Goals as goal

pub returns : goal.returns
returns c = events_keep
