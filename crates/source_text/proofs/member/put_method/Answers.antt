-- The first line, the thrown exceptions, the body and the last line are written in this order.
use Rattle.std.proofs.Common.{sym}
use Rattle.listing_spec.specs.Printed.{join_words, method_text}
use Rattle.source_text.specs.Lines.{text_of_lines}
use Rattle.source_text.proofs.Appending.{behind, then}
use Rattle.source_text.proofs.Methods.{method_pieces}
use Rattle.source_text.proofs.member.put_method.Goals as goal

pub returns : goal.returns
unfolding join_words
returns c =
    let m = c.args.method.now in
    let out = c.put_line-2.new.out.items in
    let first = rw (c.deref.ensures.value, c.in_ok-words.ensures) at c.in_ok-put_line.ensures in
    let throws = rw c.as_slice.ensures at c.in_ok-put_throws.ensures in
    behind c.put_line-2.result out c.put_line.new.out.items c.args.out.now.items _ _ (text_of_lines (method_text m)) (sym (method_pieces m)) first
    (then c.put_line-2.result out c.put_throws.new.out.items c.put_line.new.out.items _ _ throws
    (then c.put_line-2.result out c.put_body_if_any.new.out.items c.put_throws.new.out.items _ _ c.in_ok-put_body_if_any.ensures c.put_line-2.ensures))
