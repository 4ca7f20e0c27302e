-- The bytes of the units so far, and of those that are left.
use Rattle.std.proofs.Common.{◌≡◌, ◌+◌, length, take}
use Rattle.jvms_file.specs.Texts.{bytes_of_text}
use Rattle.pool_entries.proofs.text.is_short.Given as goal

abbrev pub invariant-loop-unit : goal.invariant-loop-unit
invariant-loop-unit l = length (bytes_of_text (take l.unit-index l.text)) + l.left ≡ 65535
