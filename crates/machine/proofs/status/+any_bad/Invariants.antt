use Rattle.std.proofs.Common.{◌-◌, length}
use Rattle.machine.proofs.status.+any_bad.Given as goal

abbrev pub decreases-any_bad : goal.decreases-any_bad
decreases-any_bad l = length l.parts.now.state.threads - l.t
