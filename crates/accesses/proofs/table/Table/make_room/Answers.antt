use Rattle.accesses.proofs.table.Table.make_room.Goals as goal

pub invariant_of-self : goal.invariant_of-self
invariant_of-self c = c.make_room_in.ensures.indexed c.self.inside.index c.self.invariant
