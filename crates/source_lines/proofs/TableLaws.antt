-- One entry of a table.
use Rattle.std.proofs.Common.{◌≡◌, ℕ, suc, ◌+◌, ◌-◌, ◌<◌, List, drop, Option, refl, arith}
use Rattle.std.specs.List.{fold}
use Rattle.jvms_file.specs.Bytes.{number}
use Rattle.source_lines.specs.Lines.{with_start}
use Rattle.source_lines.specs.SourceLines.{line_starts}

-- One entry is read, and the others remain.
pub next_start : (count k : ℕ) (lines : List (Option ℕ)) (bytes : List ℕ) → k < count →
    fold with_start (with_start lines (record { start = number 2 bytes; line = number 2 (drop 2 bytes) }))
    (line_starts (count - (k + 1)) (drop 4 bytes))
    ≡ fold with_start lines (line_starts (count - k) bytes)
next_start count k lines bytes below =
    let one_more : count - k ≡ suc (count - (k + 1)) = omega (arith, below) in
    rw one_more refl
