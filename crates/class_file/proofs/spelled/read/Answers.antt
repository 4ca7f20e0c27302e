use Rattle.std.proofs.Common.{rules, Ok}
use Rattle.class_file.proofs.Answered.{read_found, read_only}
use Rattle.class_file.proofs.spelled.read.Goals as goal

pub returns-in_err-class-clause-only : goal.returns-in_err-class-clause-only
returns-in_err-class-clause-only c = read_only c.args.bytes.now c.from_residual.result (search rules)

pub invariant_of-result : goal.invariant_of-result
invariant_of-result c = (c.args.bytes.now, read_found c.args.bytes.now c.in_ok-class.class c.type_inv.bytes c.in_ok-class.ensures.exact)

pub returns-clause-found : goal.returns-clause-found
returns-clause-found c = read_found c.args.bytes.now c.in_ok-class.class c.type_inv.bytes c.in_ok-class.ensures.exact

pub returns-clause-only : goal.returns-clause-only
returns-clause-only c = read_only c.args.bytes.now (Ok c.in_ok-class.class) c.in_ok-class.ensures.exact
