use Rattle.std.proofs.Common.{◌≡◌, take, map}
use Rattle.jvms_file.specs.ConstantPool.{utf8_of}
use Rattle.class_tree.proofs.texts.entry_texts.Given as goal

abbrev pub invariant-loop-constant : goal.invariant-loop-constant
invariant-loop-constant l = l.texts.items ≡ map utf8_of (take l.constant-index l.pool)
