use Rattle.std.proofs.Common.{◌∙◌, sym, subst}
use Rattle.insn.specs.Places.{IsStarts}
use Rattle.insn.proofs.Placing.{pcs_of_all}
use Rattle.insn.proofs.code.starts_of.Goals as goal

pub of-requires : goal.of-requires
of-requires c = subst IsStarts (sym (c.in_ok-pcs.ensures ∙ pcs_of_all c.args.located.now)) c.requires

pub returns : goal.returns
returns c = c.of.ensures ∙ (c.in_ok-pcs.ensures ∙ pcs_of_all c.args.located.now)
