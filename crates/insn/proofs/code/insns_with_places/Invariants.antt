use Rattle.std.proofs.Common.{◌≡◌, drop}
use Rattle.jvms_file.specs.Code.{insns_with_places}
use Rattle.jvms_file.specs.Results.{results_of}
use Rattle.insn.specs.Locating.{all_placed, resolved_one}
use Rattle.insn.proofs.Collecting.{with_items}
use Rattle.insn.proofs.code.insns_with_places.Given as goal

abbrev pub invariant-loop-one : goal.invariant-loop-one
invariant-loop-one l = with_items l.insns (results_of (resolved_one l.starts) (all_placed (drop l.one-index l.located))) ≡ insns_with_places l.starts (all_placed l.located)
