-- The version, the class, its superclass, its interfaces, its fields and its methods are written in this order.
use Rattle.std.proofs.Common.{sym}
use Rattle.listing_spec.specs.Printed.{join_words, lines_of_source}
use Rattle.source_text.specs.Lines.{text_of_lines}
use Rattle.source_text.proofs.Appending.{behind, then}
use Rattle.source_text.proofs.Classes.{source_pieces}
use Rattle.source_text.proofs.class.put_source.Goals as goal

pub returns : goal.returns
unfolding join_words
returns c =
    let s = c.args.source.now in
    let out = c.put_methods.new.out.items in
    let superclass = rw c.as_slice.ensures at c.in_ok-put_line-2.ensures in
    let interfaces = rw c.as_slice-2.ensures at c.in_ok-put_interfaces.ensures in
    let fields = rw c.as_slice-3.ensures at c.in_ok-put_fields.ensures in
    let methods = rw c.as_slice-4.ensures at c.put_methods.ensures in
    behind c.put_methods.result out c.put_line.new.out.items c.args.out.now.items _ _ (text_of_lines (lines_of_source s)) (sym (source_pieces s)) c.in_ok-put_line.ensures
    (then c.put_methods.result out c.put_class_line.new.out.items c.put_line.new.out.items _ _ c.in_ok-put_class_line.ensures
    (then c.put_methods.result out c.put_line-2.new.out.items c.put_class_line.new.out.items _ _ superclass
    (then c.put_methods.result out c.put_interfaces.new.out.items c.put_line-2.new.out.items _ _ interfaces
    (then c.put_methods.result out c.put_fields.new.out.items c.put_interfaces.new.out.items _ _ fields methods))))
