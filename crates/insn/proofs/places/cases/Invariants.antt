use Rattle.std.proofs.Common.{◌≡◌, drop}
use Rattle.jvms_file.specs.Results.{results_of}
use Rattle.insn.specs.Places.{case_or_fault}
use Rattle.insn.proofs.Collecting.{with_items}
use Rattle.insn.proofs.places.cases.Given as goal

abbrev pub invariant-loop-switch_case : goal.invariant-loop-switch_case
invariant-loop-switch_case l = with_items l.found (results_of (case_or_fault l.starts l.fault) (drop l.switch_case-index l.switch_cases)) ≡ results_of (case_or_fault l.starts l.fault) l.switch_cases
