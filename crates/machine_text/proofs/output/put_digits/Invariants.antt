-- The text is that of the bytes before the index.
use Rattle.std.proofs.Common.{◌≡◌, ◌++◌, take, flat_map}
use Rattle.std.specs.String.{string_bytes}
use Rattle.machine_text.specs.Objects.{byte_text}
use Rattle.machine_text.proofs.output.put_digits.Given as goal

abbrev pub invariant-loop-byte : goal.invariant-loop-byte
invariant-loop-byte l = string_bytes l.out ≡ string_bytes l.initial.out ++ flat_map byte_text (take l.byte-index l.bytes)
