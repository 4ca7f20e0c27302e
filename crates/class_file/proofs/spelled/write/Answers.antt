use Rattle.class_file.proofs.Answered.{write_spells}
use Rattle.class_file.proofs.spelled.write.Goals as goal

pub returns-clause-spells : goal.returns-clause-spells
returns-clause-spells c = rw (← c.class.view_is) (write_spells (λ bytes. bytes.items) c.write_class.result c.class.inside.class c.class.invariant c.write_class.ensures.exact)
