use Rattle.std.proofs.Common.{◌≡◌, None, map, take, get_or}
use Rattle.source_lines.proofs.lines.lines_at.Given as goal

abbrev pub invariant-loop-byte : goal.invariant-loop-byte
invariant-loop-byte l = l.at.items ≡ map (λ b. get_or l.lines b None) (take l.byte-index l.bytes)
