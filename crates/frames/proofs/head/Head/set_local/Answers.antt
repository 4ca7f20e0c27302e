use Rattle.frames.proofs.OpenFrames.{stored_frame, stored_open}
use Rattle.frames.proofs.head.Head.set_local.Goals as goal

pub returns-clause-fits : goal.returns-clause-fits
returns-clause-fits c = rw c.from.ensures (stored_open c.args.self.now c.args.values.now c.requires.fits c.args.n c.args.value)

pub returns-clause-frame : goal.returns-clause-frame
returns-clause-frame c = rw c.from.ensures (stored_frame c.args.self.now c.args.values.now c.requires.fits c.args.n c.args.value c.requires.within)
