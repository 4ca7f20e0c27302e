-- The parts are those of the only line that the text could be.
use Rattle.atom_spec.proofs.SpecLines.{no_word, no_pattern}
use Rattle.atom_spec.proofs.line.line_of.Goals as goal

pub returns-in_default-word_of : goal.returns-in_default-word_of
returns-in_default-word_of c =
    no_word c.args.text.now c.in-Some.word.now c.in-Some.pattern.now c.in-Some.ensures.exact.0 c.in-Some.ensures.exact.1 c.in_default-word_of.ensures
