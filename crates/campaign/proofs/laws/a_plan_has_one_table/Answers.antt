-- A plan has one table.
use Rattle.campaign.proofs.OneTable.{is_one}
use Rattle.campaign.proofs.laws.a_plan_has_one_table.Goals as goal

pub returns : goal.returns
returns c = is_one
