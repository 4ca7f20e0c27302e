use Rattle.std.specs.Io.KnownBytes.{Keeps}
use Rattle.trace.proofs.bytes.read_some.Given as goal

-- Nothing has been read so far.
abbrev pub invariant-loop : goal.invariant-loop
invariant-loop g l = Keeps (g.R.Read.remaining l.fn.reader) (g.R.Read.remaining l.reader)
