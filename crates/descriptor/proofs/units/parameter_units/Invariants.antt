use Rattle.std.proofs.Common.{◌≡◌, ◌*◌, ◌≤◌, take}
use Rattle.std.specs.Prelude.{sum_by}
use Rattle.jvms_file.specs.Descriptors.{units_of}
use Rattle.descriptor.proofs.units.parameter_units.Given as goal

abbrev pub invariant-loop-parameter : goal.invariant-loop-parameter
invariant-loop-parameter l = (l.units ≡ sum_by units_of (take l.parameter-index l.t.parameters)) × (l.units ≤ 2 * l.parameter-index)
