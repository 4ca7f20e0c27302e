-- The first selectable method up the superclasses has the number at which the search for it ends.
use Rattle.classes.proofs.PlaceLaws.{named_up}
use Rattle.classes.proofs.list.Classes.select_named.Goals as goal

pub returns : goal.returns
returns c =
    named_up c.args.self.now c.args.class.now c.args.name.now c.args.descriptor.now _ _ _ c.members_class.ensures c.first_up.ensures c.method_number_at.ensures
