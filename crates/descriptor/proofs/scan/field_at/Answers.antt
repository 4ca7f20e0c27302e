use Rattle.std.proofs.Common.{◌≡◌, Some, sym, arith}
use Rattle.jvms_file.specs.Descriptors.{field_type_from}
use Rattle.jvms_file.proofs.DescriptorLaws.{rest_is_shorter}
use Rattle.descriptor.specs.Scanning.{element_of, with_dimensions}
use Rattle.descriptor.proofs.Scanning.{front_none, front_many, front_some}
use Rattle.descriptor.proofs.scan.field_at.Goals as goal

pub returns-in_err-innermost-clause-exact : goal.returns-in_err-innermost-clause-exact
returns-in_err-innermost-clause-exact c =
    rw c.from_residual.ensures (front_none c.args.text.now c.dimensions_of-brackets.result c.dimensions_of-brackets.ensures.exact c.in_err-innermost.ensures)

pub returns-clause-exact : goal.returns-clause-exact
returns-clause-exact c =
    front_some c.args.text.now c.dimensions_of-brackets.result (element_of c.in_ok-innermost.innermost, c.in_ok-innermost.rest.now) c.dimensions_of-brackets.ensures.exact (omega arith) c.in_ok-innermost.ensures

pub returns-clause-shorter : goal.returns-clause-shorter
returns-clause-shorter c =
    let read : Some (with_dimensions c.dimensions_of-brackets.result (element_of c.in_ok-innermost.innermost, c.in_ok-innermost.rest.now)) ≡ field_type_from 0 c.args.text.now =
    front_some c.args.text.now c.dimensions_of-brackets.result (element_of c.in_ok-innermost.innermost, c.in_ok-innermost.rest.now) c.dimensions_of-brackets.ensures.exact (omega arith) c.in_ok-innermost.ensures in
    rest_is_shorter c.args.text.now _ c.in_ok-innermost.rest.now (sym read)

pub returns-then-brackets-gt-MOST_DIMENSIONS-clause-exact : goal.returns-then-brackets-gt-MOST_DIMENSIONS-clause-exact
returns-then-brackets-gt-MOST_DIMENSIONS-clause-exact c =
    let many = c.if-brackets-gt-MOST_DIMENSIONS.true in
    front_many c.args.text.now (omega (arith, c.dimensions_of-brackets.ensures.exact))
