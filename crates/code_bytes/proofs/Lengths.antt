-- Proves that each instruction has at least one byte, so code has at most as many instructions and labels as bytes.
use Rattle.std.proofs.Common.{◌≡◌, ℕ, ◌+◌, ◌<◌, ◌≤◌, Bool, true, false, cond, nat_le, List, [], ◌∷◌, length, arith}
use Rattle.jvms_file.specs.declared.insn.Invoke.{Invoke}
use Rattle.jvms_file.specs.declared.insn.Invoke.TheVariants as invoke
use Rattle.jasmin.specs.declared.source.ConstantWidth.TheVariants as constant_width
use Rattle.jasmin.specs.declared.source.BranchWidth.TheVariants as branch_width
use Rattle.jasmin.specs.declared.source.Operation.{Operation}
use Rattle.jasmin.specs.declared.source.Operation.TheVariants as operation
use Rattle.assembly.specs.Sizes.{is_byte_step, invoke_size, size, end_from}
use Rattle.code_bytes.specs.Few.{IsFew, AreFew}

-- ---- One instruction

either_positive : (b : Bool) (m n : ℕ) → 0 < m → 0 < n → 0 < cond b m n
either_positive true m n p q = p
either_positive false m n p q = q

invoke_positive : (how : Invoke) → 0 < invoke_size how
invoke_positive invoke.Virtual = omega arith
invoke_positive invoke.Special = omega arith
invoke_positive invoke.Static = omega arith
invoke_positive invoke.Interface = omega arith

pub size_positive : (n pc : ℕ) (o : Operation) → 0 < size n pc o
unfolding size
size_positive n pc (operation.Alone code) = omega arith
size_positive n pc (operation.PushByte k) = omega arith
size_positive n pc (operation.PushShort k) = omega arith
size_positive n pc (operation.Constant constant_width.AsNeeded c) = either_positive (nat_le n 255) 2 3 (omega arith) (omega arith)
size_positive n pc (operation.Constant constant_width.Wide c) = omega arith
size_positive n pc (operation.ConstantLong k) = omega arith
size_positive n pc (operation.Local how k) = either_positive (nat_le k 255) 2 4 (omega arith) (omega arith)
size_positive n pc (operation.Increment k by) = either_positive (is_byte_step k by) 3 6 (omega arith) (omega arith)
size_positive n pc (operation.Branch branch_width.Short how label) = omega arith
size_positive n pc (operation.Branch branch_width.Wide how label) = omega arith
size_positive n pc (operation.Table lines) = omega arith
size_positive n pc (operation.Lookup lines) = omega arith
size_positive n pc (operation.Field how f) = omega arith
size_positive n pc (operation.Invoke how m) = invoke_positive how
size_positive n pc (operation.Class how name) = omega arith
size_positive n pc (operation.NewArray type) = omega arith
size_positive n pc (operation.MultiNewArray name count) = omega arith

few_from_size : (n pc : ℕ) (o : Operation) → size n pc o ≤ 65535 → IsFew o
unfolding size
few_from_size n pc (operation.Table lines) h = omega arith
few_from_size n pc _ h = tt

-- ---- Consecutive instructions

pub end_not_below : (pc : ℕ) (numbers : List ℕ) (os : List Operation) → pc ≤ end_from pc numbers os
unfolding end_from
end_not_below pc [] os = omega arith
end_not_below pc (n ∷ numbers) [] = omega arith
end_not_below pc (n ∷ numbers) (o ∷ os) =
    let behind : pc + size n pc o ≤ end_from (pc + size n pc o) numbers os = end_not_below (pc + size n pc o) numbers os in
    omega arith

pub count_within : (pc : ℕ) (numbers : List ℕ) (os : List Operation) → length numbers ≡ length os → pc + length os ≤ end_from pc numbers os
unfolding end_from
count_within pc [] [] same = omega arith
count_within pc [] (o ∷ os) same = absurd (omega arith)
count_within pc (n ∷ numbers) [] same = omega arith
count_within pc (n ∷ numbers) (o ∷ os) same =
    let one : 0 < size n pc o = size_positive n pc o in
    let fewer : length numbers ≡ length os = omega arith in
    let behind : pc + size n pc o + length os ≤ end_from (pc + size n pc o) numbers os = count_within (pc + size n pc o) numbers os fewer in
    omega arith

pub few_within : (pc : ℕ) (numbers : List ℕ) (os : List Operation) → length numbers ≡ length os → end_from pc numbers os ≤ 65535 → AreFew os
unfolding end_from
few_within pc [] [] same h = tt
few_within pc [] (o ∷ os) same h = absurd (omega arith)
few_within pc (n ∷ numbers) [] same h = tt
few_within pc (n ∷ numbers) (o ∷ os) same h =
    let behind : pc + size n pc o ≤ end_from (pc + size n pc o) numbers os = end_not_below (pc + size n pc o) numbers os in
    (few_from_size n pc o (omega arith), few_within (pc + size n pc o) numbers os (omega arith) h)
