use Rattle.std.proofs.Common.{length}
use Rattle.machine.proofs.start.+has_letters.Given as goal

abbrev pub decreases-has_letters : goal.decreases-has_letters
decreases-has_letters l = length l.text.now
