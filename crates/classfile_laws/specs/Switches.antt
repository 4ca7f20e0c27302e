-- The place of a switch's default (JVMS 6.5 tableswitch, lookupswitch).
use Rattle.std.specs.Prelude.{◌≡◌, ℕ, ◌+◌, ◌%◌, ◌≤◌, List, ◌++◌, length}
use Rattle.jvms_file.specs.Spelling.{u4, LeadsTo}

-- The offset of a switch's default is at the first multiple of 4 after the opcode, and `behind` bytes follow it. The
-- switch starts at byte pc of a method.
pub record HasAlignedDefault (pcs : List ℕ) (pc : ℕ) (bytes : List ℕ) (default behind : ℕ) : Type 0 where
  pub front : List ℕ
  pub behind_opcode : 1 ≤ length front
  pub first : length front ≤ 4
  pub aligned : (pc + length front) % 4 ≡ 0
  pub offset : ℕ
  pub leads : LeadsTo pcs pc default offset
  pub rest : List ℕ
  pub parts : bytes ≡ front ++ (u4 offset ++ rest)
  pub count : length rest ≡ behind
