-- The code of a method (JVMS 4.7.3): its bytes as a list of instructions, whose targets are places in the list.
use Rattle.std.specs.Prelude.{ℕ, zero, suc, ◌+◌, ◌-◌, Bool, true, false, ◌==◌, nat_lt, if◌then◌else◌, List, [], ◌∷◌, length, map, Option, Some, None, position, slice_set, Result, Ok}
use Rattle.std.specs.Option.{option_and_then, option_map}
use Rattle.jvms_file.specs.declared.class_file.Constant.{Constant}
use Rattle.jvms_file.specs.declared.class_file.Handler.{Handler}
use Rattle.jvms_file.specs.declared.class_file.Layout.{Layout}
use Rattle.jvms_file.specs.declared.fault.ClassFault.{ClassFault}
use Rattle.jvms_file.specs.declared.fault.ClassFault.TheVariants as fault
use Rattle.jvms_file.specs.declared.insn.Insn.{Insn}
use Rattle.jvms_file.specs.declared.insn.Insn.TheVariants as insn
use Rattle.jvms_file.specs.declared.insn.SwitchCase.{SwitchCase}
use Rattle.jvms_file.specs.declared.insn.TableSwitch.{TableSwitch}
use Rattle.jvms_file.specs.declared.insn.LookupSwitch.{LookupSwitch}
use Rattle.jvms_file.specs.Results.{◌>>=◌, present, results_of}
use Rattle.jvms_file.specs.Instructions.{insn_at, pad_length}

-- An instruction and the byte at which it starts. Its targets are bytes.
pub record InsnAtByte : Type 0 where
  pub pc : ℕ
  pub insn : Insn

-- Reads the instructions of bytes, of which the first is byte pc of a method. Each takes at least one byte, so `most` =
-- the number of bytes is enough, and the second case never applies.
unfoldable pub insns_at_bytes_from : ℕ → List Constant → ℕ → ℕ → List ℕ → Result (List InsnAtByte) ClassFault
insns_at_bytes_from most pool major pc [] = Ok []
insns_at_bytes_from zero pool major pc (b ∷ bytes) = Ok []
insns_at_bytes_from (suc most) pool major pc (b ∷ bytes) = do
  i ← insn_at pool major pc (b ∷ bytes)
  others ← insns_at_bytes_from most pool major (pc + (length (b ∷ bytes) - length i.1)) i.1
  Ok (record { pc = pc; insn = i.0 } ∷ others)

abbrev pub insns_at_bytes : List Constant → ℕ → List ℕ → Result (List InsnAtByte) ClassFault
insns_at_bytes pool major bytes = insns_at_bytes_from (length bytes) pool major 0 bytes

-- Returns the bytes at which instructions start.
abbrev pub starts : List InsnAtByte → List ℕ
starts is = map (λ i. i.pc) is

-- Returns the place of the instruction that starts at a byte.
abbrev pub place_of : List ℕ → ℕ → Option ℕ
place_of pcs pc = position (λ q. q == pc) pcs

-- Returns the places of targets, if an instruction starts at each (JVMS 4.9.1).
abbrev pub places_of : List ℕ → List ℕ → Option (List ℕ)
places_of pcs [] = Some []
places_of pcs (t ∷ ts) = option_and_then (λ p. option_map (λ ps. p ∷ ps) (places_of pcs ts)) (place_of pcs t)

abbrev pub case_places : List ℕ → List SwitchCase → Option (List SwitchCase)
case_places pcs [] = Some []
case_places pcs (c ∷ cs) =
    option_and_then
    (λ p. option_map (λ others. record { value = c.value; target = p } ∷ others) (case_places pcs cs))
    (place_of pcs c.target)

abbrev pub table_places : List ℕ → TableSwitch → Option TableSwitch
table_places pcs s =
    option_and_then
    (λ d. option_map (λ ts. record { default = d; low = s.low; targets = ts }) (places_of pcs s.targets))
    (place_of pcs s.default)

abbrev pub lookup_places : List ℕ → LookupSwitch → Option LookupSwitch
lookup_places pcs s =
    option_and_then
    (λ d. option_map (λ cs. record { default = d; cases = cs }) (case_places pcs s.cases))
    (place_of pcs s.default)

-- Returns an instruction with places for targets, if an instruction starts at each (JVMS 4.9.1).
unfoldable pub with_places : List ℕ → Insn → Option Insn
with_places pcs (insn.Branch how target) = option_map (λ p. insn.Branch how p) (place_of pcs target)
with_places pcs (insn.Table s) = option_map (λ t. insn.Table t) (table_places pcs s)
with_places pcs (insn.Lookup s) = option_map (λ t. insn.Lookup t) (lookup_places pcs s)
with_places pcs (insn.Simple s) = Some (insn.Simple s)
with_places pcs (insn.Constant n) = Some (insn.Constant n)
with_places pcs (insn.Field how n) = Some (insn.Field how n)
with_places pcs (insn.Invoke how n) = Some (insn.Invoke how n)
with_places pcs (insn.Class how n) = Some (insn.Class how n)
with_places pcs (insn.MultiNewArray n count) = Some (insn.MultiNewArray n count)

-- Returns the instructions with places for targets. The fault is that of the first branching instruction with a target
-- at which no instruction starts.
abbrev pub insns_with_places : List ℕ → List InsnAtByte → Result (List Insn) ClassFault
insns_with_places pcs is = results_of (λ i. present (with_places pcs i.insn) (fault.Target i.pc)) is

-- Returns the instructions of a method's bytes. All opcodes and operands are tested before any target.
unfoldable pub insns_of : List Constant → ℕ → List ℕ → Result (List ℕ × List Insn) ClassFault
insns_of pool major bytes = do
  is ← insns_at_bytes pool major bytes
  insns ← insns_with_places (starts is) is
  Ok (starts is, insns)

-- ---- The layout of code

abbrev pub is_switch : Insn → Bool
is_switch (insn.Table s) = true
is_switch (insn.Lookup s) = true
is_switch _ = false

-- Returns the bytes, with n of them set to 0 from a place on.
unfoldable pub with_zeros : ℕ → ℕ → List ℕ → List ℕ
with_zeros zero place bytes = bytes
with_zeros (suc n) place bytes = with_zeros n (suc place) (slice_set bytes place 0)

-- Returns the bytes of code with all pads set to 0. Pads follow the opcode of a switch (JVMS 6.5 tableswitch).
unfoldable pub with_zero_pads : List ℕ → List Insn → List ℕ → List ℕ
with_zero_pads (pc ∷ pcs) (i ∷ is) bytes =
    with_zero_pads pcs is (if is_switch i then with_zeros (pad_length pc) (suc pc) bytes else bytes)
with_zero_pads _ _ bytes = bytes

abbrev pub layout_of : List ℕ → List Insn → List ℕ → Layout
layout_of pcs is bytes = record { bytes = with_zero_pads pcs is bytes; starts = pcs }

-- Returns the place of a range's end: that of an instruction, or the place after the last (JVMS 4.7.3, end_pc).
abbrev pub end_place_of : List ℕ → ℕ → ℕ → Option ℕ
end_place_of pcs code_length pc = if pc == code_length then Some (length pcs) else place_of pcs pc

-- Returns a handler with places for bytes (JVMS 4.7.3). The range must not be empty, and an instruction must start at
-- its start and at the handler.
abbrev pub handler_places : List ℕ → ℕ → Handler → Option Handler
handler_places pcs code_length h =
    if nat_lt h.start h.end
    then option_and_then
    (λ start. option_and_then
    (λ end. option_map
    (λ target. record { start = start; end = end; target = target; catch_type = h.catch_type })
    (place_of pcs h.target))
    (end_place_of pcs code_length h.end))
    (place_of pcs h.start)
    else None

abbrev pub handlers_of : List ℕ → ℕ → List Handler → Result (List Handler) ClassFault
handlers_of pcs code_length hs = results_of (λ h. present (handler_places pcs code_length h) fault.Handler) hs
