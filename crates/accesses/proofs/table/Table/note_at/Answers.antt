use Rattle.accesses.proofs.table.Table.note_at.Goals as goal

pub invariant_of-self : goal.invariant_of-self
invariant_of-self c = c.note_in.ensures.indexed c.self.inside.index c.self.invariant
