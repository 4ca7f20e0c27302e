use Rattle.text_index.proofs.IndexLaws.{found_put}
use Rattle.text_index.proofs.index.Index.put_new.Goals as goal

pub returns-clause-ok : goal.returns-clause-ok
returns-clause-ok c =
    found_put c.self.inside.references.entries c.insert.new.self.entries c.in_ok-key.key c.args.units.now c.args.reference c.args.self.now
    c.in_ok-key.ensures.items c.in_ok-insert.ensures.entries c.self.view_is
