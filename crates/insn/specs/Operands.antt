-- The operands that only a few instructions have (JVMS 6.5 bipush, sipush, ldc, iload, iinc). `cut` is the fault of an
-- instruction that doesn't accept its operands.
use Rattle.std.specs.Prelude.{ℕ, List, Option, Result, Ok, ℤ}
use Rattle.std.specs.Int.{w8, w16, w32}
use Rattle.jvms_file.specs.declared.class_file.Constant.{Constant}
use Rattle.jvms_file.specs.declared.fault.ClassFault.{ClassFault}
use Rattle.jvms_file.specs.declared.insn.Insn.TheVariants as insn
use Rattle.jvms_file.specs.declared.insn.Simple.TheVariants as simple
use Rattle.jvms_file.specs.declared.insn.Push.TheVariants as push
use Rattle.jvms_file.specs.declared.insn.LocalUse.{LocalUse}
use Rattle.jvms_file.specs.declared.insn.SwitchCase.{SwitchCase}
use Rattle.jvms_file.specs.Results.{◌>>=◌, want}
use Rattle.jvms_file.specs.Bytes.{u1_at, u2_at, u4_at, signed}
use Rattle.jvms_file.specs.ConstantPool.{entry}
use Rattle.jvms_file.specs.Instructions.{Read, constant_insn, passes, is_loadable, is_wide_loadable, target_of, is_above}

-- Reads the instruction bipush (JVMS 6.5 bipush).
abbrev pub push_byte_insn : ClassFault → List ℕ → Read
push_byte_insn cut bytes = do
  n ← u1_at cut bytes
  Ok (insn.Simple (simple.Push (push.Int (signed w8 n.0))), n.1)

-- Reads the instruction sipush (JVMS 6.5 sipush).
abbrev pub push_short_insn : ClassFault → List ℕ → Read
push_short_insn cut bytes = do
  n ← u2_at cut bytes
  Ok (insn.Simple (simple.Push (push.Int (signed w16 n.0))), n.1)

-- Reads the instruction ldc (JVMS 6.5 ldc).
abbrev pub narrow_constant_insn : ClassFault → List Constant → ℕ → List ℕ → Read
narrow_constant_insn cut pool major bytes = do
  n ← u1_at cut bytes
  constant_insn cut (passes (is_loadable major) (entry pool n.0)) n.0 n.1

-- Reads the instruction ldc_w (JVMS 6.5 ldc_w).
abbrev pub wide_constant_insn : ClassFault → List Constant → ℕ → List ℕ → Read
wide_constant_insn cut pool major bytes = do
  n ← u2_at cut bytes
  constant_insn cut (passes (is_loadable major) (entry pool n.0)) n.0 n.1

-- Reads the instruction ldc2_w (JVMS 6.5 ldc2_w).
abbrev pub long_constant_insn : ClassFault → List Constant → List ℕ → Read
long_constant_insn cut pool bytes = do
  n ← u2_at cut bytes
  constant_insn cut (passes is_wide_loadable (entry pool n.0)) n.0 n.1

-- Reads a load, a store or ret with a local's number of one byte (JVMS 6.5 iload, istore, ret).
abbrev pub local_insn : ClassFault → LocalUse → List ℕ → Read
local_insn cut how bytes = do
  n ← u1_at cut bytes
  Ok (insn.Simple (simple.Local how n.0), n.1)

-- Reads the instruction iinc (JVMS 6.5 iinc).
abbrev pub increment_insn : ClassFault → List ℕ → Read
increment_insn cut bytes = do
  n ← u1_at cut bytes
  by ← u1_at cut n.1
  Ok (insn.Simple (simple.Increment n.0 (signed w8 by.0)), by.1)

-- Reads one target of a switch.
unfoldable pub target_at : ClassFault → ℕ → List ℕ → Result (ℕ × List ℕ) ClassFault
target_at cut pc bytes = do
  offset ← u4_at cut bytes
  Ok (target_of pc (signed w32 offset.0), offset.1)

-- Reads one case of a lookupswitch, whose value is above the one before it.
unfoldable pub case_at : ClassFault → ℕ → Option ℤ → List ℕ → Result (SwitchCase × List ℕ) ClassFault
case_at cut pc last bytes = do
  value ← u4_at cut bytes
  offset ← u4_at cut value.1
  _ ← want (is_above last (signed w32 value.0)) cut
  Ok (record { value = signed w32 value.0; target = target_of pc (signed w32 offset.0) }, offset.1)
