use Rattle.std.proofs.Common.{◌-◌, length}
use Rattle.machine.proofs.status.+any_enabled.Given as goal

abbrev pub decreases-any_enabled : goal.decreases-any_enabled
decreases-any_enabled l = length l.parts.now.state.threads - l.t
