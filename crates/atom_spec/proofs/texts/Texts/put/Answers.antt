-- Insertion into the map's entries.
use Rattle.atom_spec.proofs.LookupLaws.{found_put}
use Rattle.atom_spec.proofs.texts.Texts.put.Goals as goal

pub returns : goal.returns
returns g c =
    found_put c.self.inside.values.entries c.insert.new.self.entries c.in_ok-key.key c.args.text.now c.args.value c.args.self.now
    c.in_ok-key.ensures.items c.in_ok-insert.ensures.entries c.self.view_is
