-- The lines so far.
use Rattle.std.proofs.Common.{◌≡◌, take}
use Rattle.std.specs.String.{string_bytes}
use Rattle.report.specs.SerialTexts.{serial_text}
use Rattle.report.proofs.serial.serial_lines.Given as goal

abbrev pub invariant-loop-number : goal.invariant-loop-number
invariant-loop-number l = string_bytes l.lines ≡ serial_text l.items (take l.number-index l.numbers)
