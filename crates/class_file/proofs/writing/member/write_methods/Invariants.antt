-- The methods so far have their bytes.
use Rattle.std.proofs.Common.{◌≡◌, ◌++◌, take, flat_map}
use Rattle.class_file.specs.Writing.{method_bytes}
use Rattle.class_file.proofs.writing.member.write_methods.Given as goal

abbrev pub invariant-loop-method : goal.invariant-loop-method
invariant-loop-method l = l.out.items ≡ l.initial.out.items ++ flat_map method_bytes (take l.method-index l.methods)
