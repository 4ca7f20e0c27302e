-- Defines the Code attribute of a method (JVMS 4.7.3) by the method's lines and the pool entries that they name.
use Rattle.std.specs.Prelude.{ℕ, not, List, [], ◌∷◌, map, Result, Ok, ℤ, pos}
use Rattle.jvms_file.specs.declared.class_file.Handler.{Handler}
use Rattle.jvms_file.specs.declared.class_file.Code.{Code}
use Rattle.jvms_file.specs.declared.insn.Insn.{Insn}
use Rattle.jvms_file.specs.declared.insn.Insn.TheVariants as insn
use Rattle.jvms_file.specs.declared.insn.Simple.TheVariants as simple
use Rattle.jvms_file.specs.declared.insn.Push.TheVariants as push
use Rattle.jvms_file.specs.declared.insn.ArrayInsn.TheVariants as array_insn
use Rattle.jvms_file.specs.Members.{is_code_length}
use Rattle.jvms_file.specs.Results.{◌>>=◌, want}
use Rattle.jasmin.specs.declared.source.Operation.{Operation}
use Rattle.jasmin.specs.declared.source.Operation.TheVariants as operation
use Rattle.jasmin.specs.declared.source.CodeItem.{CodeItem}
use Rattle.jasmin.specs.declared.source.CatchLine.{CatchLine}
use Rattle.jasmin.specs.declared.source.MethodLines.{MethodLines}
use Rattle.jasmin.specs.Denote.{target, operations, simple_of, switch_case}
use Rattle.assembly.specs.declared.fault.AsmFault.{AsmFault}
use Rattle.assembly.specs.declared.fault.AsmFault.TheVariants as fault
use Rattle.assembly.specs.Sizes.{code_length, starts_of, any_too_far}
use Rattle.assembly.specs.Bytes.{bytes_from}

-- ---- Instructions

-- Returns the instruction of an operation that names the pool entry `n`. Its targets are numbers of instructions.
unfoldable pub insn_of : List CodeItem → ℕ → Operation → Insn
insn_of items n (operation.Alone code) = insn.Simple (simple_of code)
insn_of items n (operation.PushByte k) = insn.Simple (simple.Push (push.Int k))
insn_of items n (operation.PushShort k) = insn.Simple (simple.Push (push.Int k))
insn_of items n (operation.Constant width c) = insn.Constant n
insn_of items n (operation.ConstantLong k) = insn.Constant n
insn_of items n (operation.Local how k) = insn.Simple (simple.Local how k)
insn_of items n (operation.Increment k by) = insn.Simple (simple.Increment k by)
insn_of items n (operation.Branch width how label) = insn.Branch how (target items label)
insn_of items n (operation.Table lines) =
    insn.Table (record { default = target items lines.default; low = lines.low; targets = map (target items) lines.labels })
insn_of items n (operation.Lookup lines) =
    insn.Lookup (record { default = target items lines.default; cases = map (switch_case items) lines.matches })
insn_of items n (operation.Field how f) = insn.Field how n
insn_of items n (operation.Invoke how m) = insn.Invoke how n
insn_of items n (operation.Class how name) = insn.Class how n
insn_of items n (operation.NewArray type) = insn.Simple (simple.Array (array_insn.New type))
insn_of items n (operation.MultiNewArray name count) = insn.MultiNewArray n count

unfoldable pub insns_from : List CodeItem → List ℕ → List Operation → List Insn
insns_from items (n ∷ numbers) (o ∷ os) = insn_of items n o ∷ insns_from items numbers os
insns_from items _ _ = []

-- ---- Handlers

-- Returns the handler of a catch whose class is the pool entry `n`.
abbrev pub handler_of : List CodeItem → ℕ → CatchLine → Handler
handler_of items n c =
    record { start = target items c.from; end = target items c.to; target = target items c.using; catch_type = n }

unfoldable pub handlers_from : List CodeItem → List ℕ → List CatchLine → List Handler
handlers_from items (n ∷ numbers) (c ∷ cs) = handler_of items n c ∷ handlers_from items numbers cs
handlers_from items _ _ = []

-- ---- The code

-- Returns the code of a method. `operands` and `caught` are the pool entries that its instructions and its catches
-- name.
abbrev pub code_of : List ℕ → List ℕ → MethodLines → Code
code_of operands caught m =
    let starts = starts_of operands m.code in
    record {
      max_stack = m.max_stack;
      max_locals = m.max_locals;
      layout = record { bytes = bytes_from starts m.code operands starts (operations m.code); starts = starts };
      insns = insns_from m.code operands (operations m.code);
      handlers = handlers_from m.code caught m.catches;
      attributes = [];
    }

-- Returns the code of a method if it has from 1 to 65535 bytes and each branch reaches its label, or else the fault.
unfoldable pub code_within : List ℕ → List ℕ → MethodLines → Result Code AsmFault
code_within operands caught m = do
  _ ← want (is_code_length (code_length operands m.code)) fault.CodeLength
  _ ← want (not (any_too_far (starts_of operands m.code) m.code (starts_of operands m.code) (operations m.code))) fault.BranchTooFar
  Ok (code_of operands caught m)
