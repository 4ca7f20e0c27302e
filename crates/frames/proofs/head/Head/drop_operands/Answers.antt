use Rattle.frames.proofs.OpenFrames.{dropped_frame, dropped_open}
use Rattle.frames.proofs.head.Head.drop_operands.Goals as goal

pub returns-clause-fits : goal.returns-clause-fits
returns-clause-fits c = dropped_open c.args.self.now c.args.values.now c.requires.fits c.args.count

pub returns-clause-frame : goal.returns-clause-frame
returns-clause-frame c = dropped_frame c.args.self.now c.args.values.now c.requires.fits c.args.count c.requires.there
