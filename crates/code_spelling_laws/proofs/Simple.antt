-- Proves that their bytes spell instructions without pool entries and labels (JVMS 6.5).
use Rattle.std.proofs.Common.{◌≡◌, ℕ, Bool, true, false, cond, [], ◌∷◌, ◌++◌, Some, ℤ, refl, sym, subst, inl, inr}
use Rattle.std.specs.Prelude.{nat_le, pos, neg_ℤ}
use Rattle.std.specs.Int.{w8, w16, cast_unsigned}
use Rattle.std.proofs.lemmas.Bool.{and_parts}
use Rattle.jvms_file.specs.declared.insn.Opcode.TheVariants as opcode
use Rattle.jvms_file.specs.declared.insn.Simple.{Simple}
use Rattle.jvms_file.specs.declared.insn.Simple.TheVariants as simple
use Rattle.jvms_file.specs.declared.insn.Push.TheVariants as push
use Rattle.jvms_file.specs.declared.insn.Kind.TheVariants as kind
use Rattle.jvms_file.specs.declared.insn.LocalUse.{LocalUse}
use Rattle.jvms_file.specs.declared.insn.LocalUse.TheVariants as local
use Rattle.jvms_file.specs.declared.insn.ArrayInsn.TheVariants as array_insn
use Rattle.jvms_file.specs.declared.insn.ArrayType.{ArrayType}
use Rattle.jvms_file.specs.declared.insn.ArrayType.TheVariants as array_type
use Rattle.jvms_file.specs.Instructions.{array_type_of}
use Rattle.jvms_file.specs.Spelling.{u2, IsU2, IsOpcode, SpellsIncrement, SpellsSimple}
use Rattle.jasmin.specs.Denote.{simple_of}
use Rattle.source_form_laws.specs.Formed.{IsSigned}
use Rattle.assembly.specs.Sizes.{is_between, is_byte_step}
use Rattle.assembly.specs.Opcodes.{local_opcode, array_type_number}
use Rattle.assembly.specs.Bytes.{s1, s2, local_bytes, increment_bytes}
use Rattle.code_spelling_laws.proofs.Numbers.{one_byte, bits8, bits16}

-- ---- An opcode without operands

-- An opcode without operands has this instruction.
simple_is : (code : ℕ) (s : Simple) → IsOpcode code (opcode.Alone s) → simple_of code ≡ s
simple_is code s is = rw is refl

pub alone_is_spelled : (code : ℕ) (s : Simple) → IsOpcode code (opcode.Alone s) → SpellsSimple (code ∷ []) (simple_of code)
alone_is_spelled code s is = subst (λ (t : Simple). SpellsSimple (code ∷ []) t) (sym (simple_is code s is)) (inl (code, is, refl))

-- ---- Numbers

pub push_byte_is_spelled : (k : ℤ) → IsSigned 7 k → SpellsSimple (16 ∷ s1 k) (simple.Push (push.Int k))
push_byte_is_spelled k fits = let bits = bits8 k fits in inr (inl (16, refl, cast_unsigned w8 k, bits.below, bits.again, refl))

pub push_short_is_spelled : (k : ℤ) → IsSigned 15 k → SpellsSimple (17 ∷ s2 k) (simple.Push (push.Int k))
push_short_is_spelled k fits = let bits = bits16 k fits in inr (inr (17, refl, cast_unsigned w16 k, bits.below, bits.again, refl))

-- ---- Local variables

local_opcode_is : (how : LocalUse) → IsOpcode (local_opcode how) (opcode.Local how)
local_opcode_is (local.Load kind.Int) = refl
local_opcode_is (local.Load kind.Long) = refl
local_opcode_is (local.Load kind.Float) = refl
local_opcode_is (local.Load kind.Double) = refl
local_opcode_is (local.Load kind.Reference) = refl
local_opcode_is (local.Store kind.Int) = refl
local_opcode_is (local.Store kind.Long) = refl
local_opcode_is (local.Store kind.Float) = refl
local_opcode_is (local.Store kind.Double) = refl
local_opcode_is (local.Store kind.Reference) = refl
local_opcode_is local.Return = refl

local_by : (how : LocalUse) (n : ℕ) → IsU2 n → (few : Bool) → nat_le n 255 ≡ few → SpellsSimple (cond few (local_opcode how ∷ n ∷ []) (196 ∷ local_opcode how ∷ u2 n)) (simple.Local how n)
local_by how n fits true few = inr (inl (local_opcode how, local_opcode_is how, one_byte n few, refl))
local_by how n fits false many = inr (inr (196, refl, local_opcode how, local_opcode_is how, fits, refl))

pub local_is_spelled : (how : LocalUse) (n : ℕ) → IsU2 n → SpellsSimple (local_bytes (local_opcode how) n) (simple.Local how n)
local_is_spelled how n fits = local_by how n fits (nat_le n 255) refl

increment_by : (n : ℕ) (by : ℤ) → IsU2 n → IsSigned 15 by → (few : Bool) → is_byte_step n by ≡ few → SpellsIncrement (cond few (132 ∷ n ∷ s1 by) (196 ∷ 132 ∷ u2 n ++ s2 by)) n by
increment_by n by fits step true few =
    let parts = and_parts (nat_le n 255) (is_between (neg_ℤ (pos 128)) (pos 127) by) few in
    let bits = bits8 by parts.1 in
    inl (132, refl, one_byte n parts.0, cast_unsigned w8 by, bits.below, bits.again, refl)
increment_by n by fits step false many =
    let bits = bits16 by step in
    inr (196, refl, 132, refl, fits, cast_unsigned w16 by, bits.below, bits.again, refl)

pub increment_is_spelled : (n : ℕ) (by : ℤ) → IsU2 n → IsSigned 15 by → SpellsSimple (increment_bytes n by) (simple.Increment n by)
increment_is_spelled n by fits step = inr (increment_by n by fits step (is_byte_step n by) refl)

-- ---- newarray

array_type_is : (type : ArrayType) → array_type_of (array_type_number type) ≡ Some type
array_type_is array_type.Boolean = refl
array_type_is array_type.Char = refl
array_type_is array_type.Float = refl
array_type_is array_type.Double = refl
array_type_is array_type.Byte = refl
array_type_is array_type.Short = refl
array_type_is array_type.Int = refl
array_type_is array_type.Long = refl

pub new_array_is_spelled : (type : ArrayType) → SpellsSimple (188 ∷ array_type_number type ∷ []) (simple.Array (array_insn.New type))
new_array_is_spelled type = inr (188, refl, array_type_number type, array_type_is type, refl)
