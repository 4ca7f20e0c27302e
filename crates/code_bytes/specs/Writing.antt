-- Defines the bytes of instructions and the test that branches reach their labels, one instruction at a time.
use Rattle.std.specs.Prelude.{◌≡◌, ℕ, Bool, true, false, not, List, ◌∷◌, ◌++◌, Result, Ok, Err}
use Rattle.jvms_file.specs.Results.{◌>>=◌, want}
use Rattle.jasmin.specs.declared.source.MatchLine.{MatchLine}
use Rattle.jasmin.specs.declared.source.Operation.{Operation}
use Rattle.jasmin.specs.declared.source.CodeItem.{CodeItem}
use Rattle.jasmin.specs.Denote.{operations}
use Rattle.assembly.specs.declared.fault.AsmFault.{AsmFault}
use Rattle.assembly.specs.declared.fault.AsmFault.TheVariants as fault
use Rattle.assembly.specs.Sizes.{offset, is_too_far, any_too_far}
use Rattle.assembly.specs.Bytes.{s4, operation_bytes, bytes_from}

-- Returns the bytes of a pair of a lookupswitch: its value and the offset of its label.
unfoldable pub pair_bytes : List ℕ → List CodeItem → ℕ → MatchLine → List ℕ
pair_bytes starts items pc m = s4 m.value ++ s4 (offset starts items pc m.label)

-- The result of appending an instruction: these bytes are appended if its branch isn't too far, or the fault is
-- BranchTooFar. If memory ran out, it states nothing about the definition.
abbrev pub Writes : {A : Type 0} → Bool → List ℕ → Result A AsmFault → List ℕ → List ℕ → Type 0
Writes far bytes (Ok _) old new = (far ≡ false) × (new ≡ old ++ bytes)
Writes far bytes (Err fault.BranchTooFar) old new = far ≡ true
Writes far bytes (Err fault.Memory) old new = Unit {0}
Writes far bytes (Err _) old new = ⊥

-- Appends the bytes of instructions that start at bytes `pcs` to those before.
unfoldable pub bytes_onto : List ℕ → List CodeItem → List ℕ → List ℕ → List ℕ → List Operation → Result (List ℕ) AsmFault
bytes_onto starts items seen (n ∷ numbers) (pc ∷ pcs) (o ∷ os) = do
  _ ← want (not (is_too_far starts items pc o)) fault.BranchTooFar
  bytes_onto starts items (seen ++ operation_bytes starts items n pc o) numbers pcs os
bytes_onto starts items seen _ _ _ = Ok seen

-- Returns the bytes of all instructions, if each branch reaches its label.
abbrev pub bytes_within : List ℕ → List CodeItem → List ℕ → Result (List ℕ) AsmFault
bytes_within starts items operands = do
  _ ← want (not (any_too_far starts items starts (operations items))) fault.BranchTooFar
  Ok (bytes_from starts items operands starts (operations items))
