use Rattle.text_index.proofs.RemovalLaws.{found_removed}
use Rattle.text_index.proofs.index.Index.remove.Goals as goal

pub returns : goal.returns
returns c =
    found_removed c.self.inside.references.entries c.remove.new.self.entries c.args.units.now c.args.self.now c.remove.ensures.entries c.remove.ensures.updates.1 c.self.view_is
