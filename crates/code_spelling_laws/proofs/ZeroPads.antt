-- Proves that the padding of assembled code is zeros, so that its layout has its bytes.
use Rattle.std.proofs.Common.{◌≡◌, ℕ, zero, suc, ◌+◌, cond, List, [], ◌∷◌, ◌++◌, length, replicate, refl, sym, ap, subst, ◌∙◌, append_assoc, length-append, arith}
use Rattle.std.proofs.Math.Seq.{set-append_seam}
use Rattle.jvms_file.specs.Instructions.{pad_length}
use Rattle.jvms_file.specs.Code.{is_switch, with_zeros, with_zero_pads}
use Rattle.jasmin.specs.declared.source.BranchWidth.TheVariants as branch_width
use Rattle.jasmin.specs.declared.source.Operation.{Operation}
use Rattle.jasmin.specs.declared.source.Operation.TheVariants as operation
use Rattle.jasmin.specs.declared.source.CodeItem.{CodeItem}
use Rattle.assembly.specs.Sizes.{size, starts_from}
use Rattle.assembly.specs.Bytes.{pads, table_bytes, lookup_bytes, operation_bytes, bytes_from}
use Rattle.assembly.specs.CodeOf.{insn_of, insns_from}
use Rattle.code_spelling_laws.proofs.Sizes.{size_is}

-- ---- Bytes that are 0

-- Setting bytes to 0 that are 0 changes nothing.
zeros_stay : (n : ℕ) (front rest : List ℕ) → with_zeros n (length front) (front ++ (replicate n 0 ++ rest)) ≡ front ++ (replicate n 0 ++ rest)
unfolding with_zeros
zeros_stay zero front rest = refl
zeros_stay (suc n) front rest =
    let none : List ℕ = replicate n 0 in
    let one : (front ++ 0 ∷ []) ++ (none ++ rest) ≡ front ++ 0 ∷ (none ++ rest) = append_assoc front (0 ∷ []) (none ++ rest) in
    let more : length (front ++ 0 ∷ []) ≡ suc (length front) = omega (arith, length-append front (0 ∷ [])) in
    let later = zeros_stay n (front ++ 0 ∷ []) rest in
    let moved : with_zeros n (suc (length front)) (front ++ 0 ∷ (none ++ rest)) ≡ front ++ 0 ∷ (none ++ rest) = subst (λ (k : ℕ). with_zeros n k (front ++ 0 ∷ (none ++ rest)) ≡ front ++ 0 ∷ (none ++ rest)) more (subst (λ (bytes : List ℕ). with_zeros n (length (front ++ 0 ∷ [])) bytes ≡ bytes) one later) in
    ap (λ (bytes : List ℕ). with_zeros n (suc (length front)) bytes) (set-append_seam front 0 (none ++ rest) 0) ∙ moved

-- The padding after an opcode at byte pc stays.
pads_stay : (pc code : ℕ) (front operands rest : List ℕ) → length front ≡ pc → with_zeros (pad_length pc) (suc pc) (front ++ ((code ∷ pads pc ++ operands) ++ rest)) ≡ front ++ ((code ∷ pads pc ++ operands) ++ rest)
pads_stay pc code front operands rest at =
    let apart : (front ++ code ∷ []) ++ (pads pc ++ (operands ++ rest)) ≡ front ++ ((code ∷ pads pc ++ operands) ++ rest) = append_assoc front (code ∷ []) (pads pc ++ (operands ++ rest)) ∙ ap (λ (ys : List ℕ). front ++ code ∷ ys) (sym (append_assoc (pads pc) operands rest)) in
    let behind : length (front ++ code ∷ []) ≡ suc pc = omega (arith, length-append front (code ∷ [])) in
    subst (λ (bytes : List ℕ). with_zeros (pad_length pc) (suc pc) bytes ≡ bytes) apart
    (subst (λ (k : ℕ). with_zeros (pad_length pc) k ((front ++ code ∷ []) ++ (pads pc ++ (operands ++ rest))) ≡ (front ++ code ∷ []) ++ (pads pc ++ (operands ++ rest))) behind
    (zeros_stay (pad_length pc) (front ++ code ∷ []) (operands ++ rest)))

-- ---- Instructions

-- The padding of an instruction stays, if it has any.
operation_stays : (starts : List ℕ) (items : List CodeItem) (n pc : ℕ) (o : Operation) (front rest : List ℕ) → length front ≡ pc
    → cond (is_switch (insn_of items n o)) (with_zeros (pad_length pc) (suc pc) (front ++ (operation_bytes starts items n pc o ++ rest))) (front ++ (operation_bytes starts items n pc o ++ rest)) ≡ front ++ (operation_bytes starts items n pc o ++ rest)
unfolding operation_bytes insn_of table_bytes lookup_bytes
operation_stays starts items n pc (operation.Table lines) front rest at = pads_stay pc 170 front _ rest at
operation_stays starts items n pc (operation.Lookup lines) front rest at = pads_stay pc 171 front _ rest at
operation_stays starts items n pc (operation.Alone code) front rest at = refl
operation_stays starts items n pc (operation.PushByte k) front rest at = refl
operation_stays starts items n pc (operation.PushShort k) front rest at = refl
operation_stays starts items n pc (operation.Constant width c) front rest at = refl
operation_stays starts items n pc (operation.ConstantLong k) front rest at = refl
operation_stays starts items n pc (operation.Local how k) front rest at = refl
operation_stays starts items n pc (operation.Increment k by) front rest at = refl
operation_stays starts items n pc (operation.Branch branch_width.Short how label) front rest at = refl
operation_stays starts items n pc (operation.Branch branch_width.Wide how label) front rest at = refl
operation_stays starts items n pc (operation.Field how f) front rest at = refl
operation_stays starts items n pc (operation.Invoke how m) front rest at = refl
operation_stays starts items n pc (operation.Class how name) front rest at = refl
operation_stays starts items n pc (operation.NewArray type) front rest at = refl
operation_stays starts items n pc (operation.MultiNewArray name count) front rest at = refl

-- The padding of all instructions from byte pc on stays.
pub operations_stay : (starts : List ℕ) (items : List CodeItem) (pc : ℕ) (numbers : List ℕ) (os : List Operation) (front : List ℕ) → length front ≡ pc
    → with_zero_pads (starts_from pc numbers os) (insns_from items numbers os) (front ++ bytes_from starts items numbers (starts_from pc numbers os) os) ≡ front ++ bytes_from starts items numbers (starts_from pc numbers os) os
unfolding starts_from insns_from bytes_from with_zero_pads
operations_stay starts items pc [] os front at = refl
operations_stay starts items pc (n ∷ numbers) [] front at = refl
operations_stay starts items pc (n ∷ numbers) (o ∷ os) front at =
    let next = pc + size n pc o in
    let later = starts_from next numbers os in
    let is = insns_from items numbers os in
    let here = operation_bytes starts items n pc o in
    let rest = bytes_from starts items numbers later os in
    let whole : (front ++ here) ++ rest ≡ front ++ (here ++ rest) = append_assoc front here rest in
    let behind : length (front ++ here) ≡ next = omega (arith, length-append front here, size_is starts items n pc o) in
    let others : with_zero_pads later is ((front ++ here) ++ rest) ≡ (front ++ here) ++ rest = operations_stay starts items next numbers os (front ++ here) behind in
    ap (λ (bytes : List ℕ). with_zero_pads later is bytes) (operation_stays starts items n pc o front rest at)
    ∙ subst (λ (bytes : List ℕ). with_zero_pads later is bytes ≡ bytes) whole others
