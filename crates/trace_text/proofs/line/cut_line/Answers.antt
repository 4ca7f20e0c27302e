use Rattle.std.proofs.Common.{subst}
use Rattle.memchr.specs.Find.{IsFirstByte, is_byte}
use Rattle.trace_text.proofs.Cuts.{cut_first, cut_none}
use Rattle.trace_text.proofs.line.cut_line.Goals as goal

pub returns-in_err-place-clause-exact : goal.returns-in_err-place-clause-exact
returns-in_err-place-clause-exact c = rw c.from_residual.ensures (cut_none 10 c.args.text.now (subst (IsFirstByte (is_byte 10) c.args.text.now) c.in_err-place.was c.memchr.ensures))

pub returns-clause-exact : goal.returns-clause-exact
returns-clause-exact c = cut_first 10 c.in_ok-place.place c.args.text.now (subst (IsFirstByte (is_byte 10) c.args.text.now) c.in_ok-place.was c.memchr.ensures)
