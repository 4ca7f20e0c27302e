use Rattle.frames.proofs.OpenFrames.{pushed_frame, pushed_open}
use Rattle.frames.proofs.head.Head.push.Goals as goal

pub returns-clause-fits : goal.returns-clause-fits
returns-clause-fits c = pushed_open c.args.self.now c.args.values.now c.requires.fits c.args.value c.requires.room

pub returns-clause-frame : goal.returns-clause-frame
returns-clause-frame c = pushed_frame c.args.self.now c.args.values.now c.requires.fits c.args.value c.requires.room
