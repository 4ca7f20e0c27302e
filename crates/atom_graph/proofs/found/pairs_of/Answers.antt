use Rattle.std.proofs.Common.{◌∷◌, ◌++◌, [], ap, ◌∙◌}
use Rattle.atom_graph.proofs.Along.{along_pairs}
use Rattle.atom_graph.proofs.found.pairs_of.Goals as goal

pub returns : goal.returns
returns c = c.in_ok-push.ensures.items ∙ ap (λ ps. ps ++ c.args.last ∷ []) c.in_ok-all.ensures ∙ along_pairs c.args.trail.now (c.args.last ∷ [])
