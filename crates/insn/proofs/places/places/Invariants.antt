use Rattle.std.proofs.Common.{◌≡◌, drop}
use Rattle.jvms_file.specs.Results.{results_of}
use Rattle.insn.specs.Places.{place_or_fault}
use Rattle.insn.proofs.Collecting.{with_items}
use Rattle.insn.proofs.places.places.Given as goal

abbrev pub invariant-loop-target : goal.invariant-loop-target
invariant-loop-target l = with_items l.found (results_of (place_or_fault l.starts l.fault) (drop l.target-index l.targets)) ≡ results_of (place_or_fault l.starts l.fault) l.targets
