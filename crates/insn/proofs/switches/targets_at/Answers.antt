use Rattle.std.proofs.Common.{ℕ, List, Result, subst}
use Rattle.jvms_file.specs.declared.fault.ClassFault.{ClassFault}
use Rattle.jvms_file.specs.Reading.{Gives}
use Rattle.insn.proofs.SwitchLists.{counted_targets}
use Rattle.insn.proofs.switches.targets_at.Goals as goal

pub returns : goal.returns
returns c = subst (λ (r : Result (List ℕ × List ℕ) ClassFault). Gives (λ x. (x.0, x.1.now)) c.parts_of.result r) (counted_targets c.args.cut c.args.pc c.args.count c.args.bytes.now) c.parts_of.ensures
