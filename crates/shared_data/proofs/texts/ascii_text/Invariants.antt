use Rattle.std.proofs.Common.{◌≡◌, take}
use Rattle.shared_data.proofs.texts.ascii_text.Given as goal

-- The units are the bytes so far.
abbrev pub invariant-loop-byte : goal.invariant-loop-byte
invariant-loop-byte l = l.units.items ≡ take l.byte-index l.bytes
