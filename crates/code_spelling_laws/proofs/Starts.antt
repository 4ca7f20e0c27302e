-- Proves where the instructions of code start: from the first byte on, each after the one before, and all before the
-- end.
use Rattle.std.proofs.Common.{◌≡◌, ℕ, suc, ◌+◌, ◌≤◌, List, [], ◌∷◌, length, refl, ap, arith, length-append}
use Rattle.jvms_file.specs.declared.class_file.Constant.{Constant}
use Rattle.jasmin.specs.declared.source.Operation.{Operation}
use Rattle.jasmin.specs.declared.source.CodeItem.{CodeItem}
use Rattle.assembly.specs.Sizes.{size, end_from, starts_from}
use Rattle.assembly.specs.Bytes.{operation_bytes, bytes_from}
use Rattle.assembly.specs.Named.{AreOperands}
use Rattle.classfile_laws.proofs.InsnStarts.{AreStarts}
use Rattle.code_spelling_laws.proofs.Sizes.{size_is, size_takes}

-- The end isn't before the start.
pub end_above : (pc : ℕ) (numbers : List ℕ) (os : List Operation) → pc ≤ end_from pc numbers os
unfolding end_from
end_above pc [] os = omega arith
end_above pc (n ∷ numbers) [] = omega arith
end_above pc (n ∷ numbers) (o ∷ os) = let more = end_above (pc + size n pc o) numbers os in omega arith

-- The starts increase, and are before the end.
pub starts_rise : (low pc : ℕ) (numbers : List ℕ) (os : List Operation) → low ≤ pc → AreStarts low (end_from pc numbers os) (starts_from pc numbers os)
unfolding end_from starts_from
starts_rise low pc [] os above = tt
starts_rise low pc (n ∷ numbers) [] above = tt
starts_rise low pc (n ∷ numbers) (o ∷ os) above =
    let takes = size_takes n pc o in
    let more = end_above (pc + size n pc o) numbers os in
    (above, omega arith, starts_rise (suc pc) (pc + size n pc o) numbers os (omega arith))

-- There is one start for each instruction.
pub starts_count : (pool : List Constant) (pc : ℕ) (numbers : List ℕ) (os : List Operation) → AreOperands pool numbers os → length (starts_from pc numbers os) ≡ length os
unfolding starts_from
starts_count pool pc [] [] named = refl
starts_count pool pc [] (o ∷ os) named = absurd named
starts_count pool pc (n ∷ numbers) [] named = absurd named
starts_count pool pc (n ∷ numbers) (o ∷ os) named = ap suc (starts_count pool (pc + size n pc o) numbers os named.1)

-- The bytes of instructions reach from their start to their end.
pub bytes_length : (starts : List ℕ) (items : List CodeItem) (pc : ℕ) (numbers : List ℕ) (os : List Operation) → pc + length (bytes_from starts items numbers (starts_from pc numbers os) os) ≡ end_from pc numbers os
unfolding end_from starts_from bytes_from
bytes_length starts items pc [] os = omega arith
bytes_length starts items pc (n ∷ numbers) [] = omega arith
bytes_length starts items pc (n ∷ numbers) (o ∷ os) =
    let next = pc + size n pc o in
    let here = size_is starts items n pc o in
    let others = bytes_length starts items next numbers os in
    let all = length-append (operation_bytes starts items n pc o) (bytes_from starts items numbers (starts_from next numbers os) os) in
    omega arith
