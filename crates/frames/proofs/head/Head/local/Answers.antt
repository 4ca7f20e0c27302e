use Rattle.frames.proofs.OpenFrames.{local_at}
use Rattle.frames.proofs.head.Head.local.Goals as goal

pub returns : goal.returns
returns c = rw c.from.ensures (local_at c.args.self.now c.args.values.now c.requires.fits c.args.n _ c.requires.within)
