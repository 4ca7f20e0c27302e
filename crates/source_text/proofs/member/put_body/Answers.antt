-- The limits, the handlers and the code are written in this order.
use Rattle.std.proofs.Common.{sym}
use Rattle.listing_spec.specs.Printed.{body_lines}
use Rattle.source_text.specs.Lines.{text_of_lines}
use Rattle.source_text.proofs.Appending.{behind, then}
use Rattle.source_text.proofs.Methods.{body_pieces}
use Rattle.source_text.proofs.member.put_body.Goals as goal

pub returns : goal.returns
returns c =
    let m = c.args.method.now in
    let catches = rw c.as_slice.ensures at c.in_ok-put_catches.ensures in
    let code = rw c.as_slice-2.ensures at c.put_code.ensures in
    behind c.put_code.result c.put_code.new.out.items c.put_limits.new.out.items c.args.out.now.items _ _ (text_of_lines (body_lines m)) (sym (body_pieces m c.requires)) c.in_ok-put_limits.ensures
    (then c.put_code.result c.put_code.new.out.items c.put_catches.new.out.items c.put_limits.new.out.items _ _ catches code)
