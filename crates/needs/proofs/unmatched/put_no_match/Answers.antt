use Rattle.std.proofs.Common.{codes}
use Rattle.atom_spec.specs.Lines.{line_text}
use Rattle.needs.proofs.LineLaws.{three_parts}
use Rattle.needs.proofs.unmatched.put_no_match.Goals as goal

pub returns : goal.returns
returns c =
    three_parts _ _ _ _ (codes "spec ") (line_text c.args.line.now) (codes " matches no method\n")
    c.in_ok-push_str.ensures.bytes c.in_ok-put_line.ensures c.in_ok-push_str-2.ensures.bytes
