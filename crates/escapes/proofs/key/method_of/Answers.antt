-- The text is no member's, so it is no method's.
use Rattle.escapes.proofs.key.method_of.Goals as goal

pub returns-in-None : goal.returns-in-None
returns-in-None c x is e = let h = rw c.in-None.is at c.in_ok-class.ensures in h (x.class, x.name, x.descriptor) is e
