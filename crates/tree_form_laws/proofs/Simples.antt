-- Proves that instructions without pool entries and labels have their form (JVMS 6.5).
use Rattle.std.proofs.Common.{◌≡◌, ℕ, Bool, List, [], ◌∷◌, ◌++◌, Option, ℤ, refl, sym, subst, arith, inl, inr}
use Rattle.std.specs.Prelude.{slice_get, if◌then◌else◌}
use Rattle.std.specs.Option.{unwrap_or}
use Rattle.std.specs.Int.{w8}
use Rattle.jvms_file.specs.declared.insn.TheConstants.{OPCODES}
use Rattle.jvms_file.specs.declared.insn.Opcode.{Opcode}
use Rattle.jvms_file.specs.declared.insn.Opcode.TheVariants as opcode
use Rattle.jvms_file.specs.declared.insn.Simple.{Simple}
use Rattle.jvms_file.specs.declared.insn.Simple.TheVariants as simple
use Rattle.jvms_file.specs.declared.insn.Push.TheVariants as push
use Rattle.jvms_file.specs.declared.insn.LocalUse.{LocalUse}
use Rattle.jvms_file.specs.declared.insn.ArrayInsn.TheVariants as array_insn
use Rattle.jvms_file.specs.declared.insn.ArrayType.{ArrayType}
use Rattle.jvms_file.specs.Bytes.{signed}
use Rattle.jvms_file.specs.Spelling.{u2, IsU1, IsU2, IsOpcode, SpellsPushInt, SpellsIncrement, SpellsWithOperands, SpellsSimple}
use Rattle.jasmin.specs.declared.source.Operation.TheVariants as operation
use Rattle.source_form_laws.specs.Formed.{IsSigned, IsFormedOperation}
use Rattle.listing_spec.specs.TreeOf.{opcode_at, simple_operation}
use Rattle.tree_form_laws.proofs.Numbers.{signed8, signed16, signed_widened}
use Rattle.tree_form_laws.proofs.Opcodes.{IsAt, own_opcode, widened_opcode}

-- The operation of an instruction has its form, with the opcode at this byte.
abbrev pub IsFormedAt : List ℕ → ℕ → Simple → Type 0
IsFormedAt bytes pc s =
    IsFormedOperation (simple_operation (opcode_at bytes pc) (unwrap_or (slice_get OPCODES (opcode_at bytes pc)) opcode.Reserved) s)

by_opcode : (bytes : List ℕ) (pc code : ℕ) (form : Opcode) (s : Simple) → opcode_at bytes pc ≡ code → IsOpcode code form → IsFormedOperation (simple_operation code form s) → IsFormedAt bytes pc s
by_opcode bytes pc code form s at is formed =
    subst (λ (n : ℕ). IsFormedOperation (simple_operation n (unwrap_or (slice_get OPCODES n) opcode.Reserved) s)) (sym at)
    (subst (λ (o : Option Opcode). IsFormedOperation (simple_operation code (unwrap_or o opcode.Reserved) s)) (sym is) formed)

alone_formed : (code : ℕ) (s : Simple) → IsOpcode code (opcode.Alone s) → IsFormedOperation (simple_operation code (opcode.Alone s) s)
unfolding IsFormedOperation
alone_formed code s is = (s, is)

byte_formed : (code : ℕ) (n : ℤ) → IsSigned 7 n → IsFormedOperation (simple_operation code opcode.PushByte (simple.Push (push.Int n)))
unfolding IsFormedOperation
byte_formed code n is = subst (λ (b : Bool). IsFormedOperation (if b then operation.PushByte n else operation.Alone code)) (sym is) is

push_formed : (bytes : List ℕ) (pc : ℕ) (first : List ℕ) (n : ℤ) → IsAt bytes pc first → SpellsPushInt first n → IsFormedAt bytes pc (simple.Push (push.Int n))
unfolding IsFormedOperation
push_formed bytes pc first n at (inl p) =
    by_opcode bytes pc p.0 opcode.PushByte (simple.Push (push.Int n)) (own_opcode bytes pc first p.0 opcode.PushByte (p.2 ∷ []) at p.1 refl p.5) p.1 (byte_formed p.0 n (rw p.4 (signed8 p.2 p.3)))
push_formed bytes pc first n at (inr p) =
    by_opcode bytes pc p.0 opcode.PushShort (simple.Push (push.Int n)) (own_opcode bytes pc first p.0 opcode.PushShort (u2 p.2) at p.1 refl p.5) p.1 (rw p.4 (signed16 p.2 p.3))

two_bytes : (n : ℕ) → IsU1 n → IsU2 n
two_bytes n small = omega arith

increment_formed : (bytes : List ℕ) (pc : ℕ) (first : List ℕ) (n : ℕ) (by : ℤ) → IsAt bytes pc first → SpellsIncrement first n by → IsFormedAt bytes pc (simple.Increment n by)
unfolding IsFormedOperation
increment_formed bytes pc first n by at (inl p) =
    by_opcode bytes pc p.0 opcode.Increment (simple.Increment n by) (own_opcode bytes pc first p.0 opcode.Increment (n ∷ p.3 ∷ []) at p.1 refl p.6) p.1
    (two_bytes n p.2, rw p.5 (signed_widened (signed w8 p.3) (signed8 p.3 p.4)))
increment_formed bytes pc first n by at (inr p) =
    by_opcode bytes pc p.2 opcode.Increment (simple.Increment n by) (widened_opcode bytes pc first p.0 p.2 (u2 n ++ u2 p.5) at p.1 p.8) p.3
    (p.4, rw p.7 (signed16 p.5 p.6))

abbrev SpellsLocal : List ℕ → LocalUse → ℕ → Type 0
SpellsLocal bytes how n = SpellsWithOperands bytes (simple.Local how n)

local_formed : (bytes : List ℕ) (pc : ℕ) (first : List ℕ) (how : LocalUse) (n : ℕ) → IsAt bytes pc first → SpellsLocal first how n → IsFormedAt bytes pc (simple.Local how n)
unfolding IsFormedOperation
local_formed bytes pc first how n at (inl p) =
    by_opcode bytes pc p.0 (opcode.Local how) (simple.Local how n) (own_opcode bytes pc first p.0 (opcode.Local how) (n ∷ []) at p.1 refl p.3) p.1 (two_bytes n p.2)
local_formed bytes pc first how n at (inr p) =
    by_opcode bytes pc p.2 (opcode.Local how) (simple.Local how n) (widened_opcode bytes pc first p.0 p.2 (u2 n) at p.1 p.5) p.3 p.4

new_array_formed : (bytes : List ℕ) (pc : ℕ) (first : List ℕ) (type : ArrayType) → IsAt bytes pc first → SpellsWithOperands first (simple.Array (array_insn.New type)) → IsFormedAt bytes pc (simple.Array (array_insn.New type))
unfolding IsFormedOperation
new_array_formed bytes pc first type at p =
    by_opcode bytes pc p.0 opcode.NewArray (simple.Array (array_insn.New type)) (own_opcode bytes pc first p.0 opcode.NewArray (p.2 ∷ []) at p.1 refl p.4) p.1 tt

operands_formed : (bytes : List ℕ) (pc : ℕ) (first : List ℕ) (s : Simple) → IsAt bytes pc first → SpellsWithOperands first s → IsFormedAt bytes pc s
operands_formed bytes pc first (simple.Push (push.Int n)) at p = push_formed bytes pc first n at p
operands_formed bytes pc first (simple.Local how n) at p = local_formed bytes pc first how n at p
operands_formed bytes pc first (simple.Increment n by) at p = increment_formed bytes pc first n by at p
operands_formed bytes pc first (simple.Array (array_insn.New type)) at p = new_array_formed bytes pc first type at p
operands_formed bytes pc first _ at p = absurd p

pub simple_formed : (bytes : List ℕ) (pc : ℕ) (first : List ℕ) (s : Simple) → IsAt bytes pc first → SpellsSimple first s → IsFormedAt bytes pc s
simple_formed bytes pc first s at (inl p) =
    by_opcode bytes pc p.0 (opcode.Alone s) s (own_opcode bytes pc first p.0 (opcode.Alone s) [] at p.1 refl p.2) p.1 (alone_formed p.0 s p.1)
simple_formed bytes pc first s at (inr p) = operands_formed bytes pc first s at p
