-- The units so far have their bytes.
use Rattle.std.proofs.Common.{◌≡◌, take}
use Rattle.jvms_file.specs.Texts.{bytes_of_text}
use Rattle.mutf8.proofs.encoding.encode.Given as goal

abbrev pub invariant-loop-unit : goal.invariant-loop-unit
invariant-loop-unit l = l.bytes.items ≡ bytes_of_text (take l.unit-index l.units)
