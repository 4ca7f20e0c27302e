use Rattle.source_labels.proofs.Any as any
use Rattle.source_labels.proofs.undefined.code_leads_nowhere.Goals as goal

pub returns : goal.returns
returns c = rw (c.any_item_leads_nowhere.ensures, c.as_slice.ensures) (any.code_leads_nowhere c.args.method.now c.args.labels.now c.requires)
