use Rattle.std.proofs.Common.{◌≡◌, ap, sym, ◌∙◌, Ok}
use Rattle.assembly.specs.Assembled.{class_file_of}
use Rattle.assembler.proofs.Spelled.{has_spelling}
use Rattle.assembler.proofs.assembling.assemble.Goals as goal

-- The tree is that of a text, so the class has a spelling.
pub new-requires : goal.new-requires
new-requires c =
    let made = ap class_file_of (sym c.tree.ensures.same) ∙ c.in_ok-class.ensures.exact in
    record { spelled = has_spelling c.args.source.now c.in_ok-class.class c.tree.ensures.written made c.in_ok-class.ensures.proper }
