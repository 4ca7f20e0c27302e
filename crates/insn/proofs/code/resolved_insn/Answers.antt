use Rattle.std.proofs.Common.{subst, Result}
use Rattle.jvms_file.specs.declared.fault.ClassFault.{ClassFault}
use Rattle.jvms_file.specs.declared.insn.Insn.{Insn}
use Rattle.jvms_file.specs.Reading.{Gives}
use Rattle.insn.proofs.Collecting.{insn_is}
use Rattle.insn.proofs.code.resolved_insn.Goals as goal

pub returns : goal.returns
returns c = subst (λ (r : Result Insn ClassFault). Gives (λ x. x) c.with_places.result r) (insn_is c.args.starts.now _ c.args.one.now.insn) c.with_places.ensures
