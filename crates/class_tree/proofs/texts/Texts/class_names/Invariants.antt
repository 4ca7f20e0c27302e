use Rattle.std.proofs.Common.{◌≡◌, take, map}
use Rattle.jvms_program.specs.Meaning.{class_text}
use Rattle.class_tree.proofs.texts.Texts.class_names.Given as goal

abbrev pub invariant-loop-number : goal.invariant-loop-number
invariant-loop-number l = l.names.items ≡ map (class_text l.self) (take l.number-index l.numbers)
