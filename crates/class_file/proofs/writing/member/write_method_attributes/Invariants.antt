-- The attributes so far have their bytes.
use Rattle.std.proofs.Common.{◌≡◌, ◌++◌, take, flat_map}
use Rattle.class_file.specs.Writing.{method_attribute_bytes}
use Rattle.class_file.proofs.writing.member.write_method_attributes.Given as goal

abbrev pub invariant-loop-attribute : goal.invariant-loop-attribute
invariant-loop-attribute l = l.out.items ≡ l.initial.out.items ++ flat_map method_attribute_bytes (take l.attribute-index l.attributes)
