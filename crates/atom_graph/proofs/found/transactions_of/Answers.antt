use Rattle.std.proofs.Common.{◌∷◌, ◌++◌, [], ap, ◌∙◌}
use Rattle.atom_graph.proofs.Along.{along_transactions}
use Rattle.atom_graph.proofs.found.transactions_of.Goals as goal

pub returns : goal.returns
returns c = c.in_ok-push.ensures.items ∙ ap (λ ts. ts ++ c.args.last ∷ []) c.in_ok-transactions.ensures ∙ along_transactions c.args.trail.now (c.args.last ∷ [])
