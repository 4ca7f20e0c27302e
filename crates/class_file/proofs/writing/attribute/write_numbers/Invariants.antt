-- The numbers so far have their bytes.
use Rattle.std.proofs.Common.{◌≡◌, ◌++◌, take, flat_map}
use Rattle.jvms_file.specs.Spelling.{u2}
use Rattle.class_file.proofs.writing.attribute.write_numbers.Given as goal

abbrev pub invariant-loop-number : goal.invariant-loop-number
invariant-loop-number l = l.out.items ≡ l.initial.out.items ++ flat_map u2 (take l.number-index l.numbers)
