-- The bytes at which a method's instructions start, and targets as places among them, looked up one after another. The
-- fault is that of the first target at which no instruction starts.
use Rattle.std.specs.Prelude.{ℕ, ◌<◌, ◌≤◌, List, length, Result, Ok, slice_index}
use Rattle.jvms_file.specs.declared.fault.ClassFault.{ClassFault}
use Rattle.jvms_file.specs.declared.insn.Insn.{Insn}
use Rattle.jvms_file.specs.declared.insn.Insn.TheVariants as insn
use Rattle.jvms_file.specs.declared.insn.SwitchCase.{SwitchCase}
use Rattle.jvms_file.specs.declared.insn.TableSwitch.{TableSwitch}
use Rattle.jvms_file.specs.declared.insn.LookupSwitch.{LookupSwitch}
use Rattle.jvms_file.specs.Results.{◌>>=◌, present, results_of}
use Rattle.jvms_file.specs.Code.{place_of}

-- The starts of instructions: at most 65,535, each above the one before it (JVMS 4.7.3).
pub record IsStarts (pcs : List ℕ) : Type 0 where
  pub rising : (i j : ℕ) → i < j → j < length pcs → slice_index pcs i < slice_index pcs j
  pub few : length pcs ≤ 65535

abbrev pub place_or_fault : List ℕ → ClassFault → ℕ → Result ℕ ClassFault
place_or_fault pcs cut target = present (place_of pcs target) cut

abbrev pub case_or_fault : List ℕ → ClassFault → SwitchCase → Result SwitchCase ClassFault
case_or_fault pcs cut c = do
  p ← place_or_fault pcs cut c.target
  Ok (record { value = c.value; target = p })

abbrev pub table_or_fault : List ℕ → ClassFault → TableSwitch → Result TableSwitch ClassFault
table_or_fault pcs cut s = do
  default ← place_or_fault pcs cut s.default
  targets ← results_of (place_or_fault pcs cut) s.targets
  Ok (record { default = default; low = s.low; targets = targets })

abbrev pub lookup_or_fault : List ℕ → ClassFault → LookupSwitch → Result LookupSwitch ClassFault
lookup_or_fault pcs cut s = do
  default ← place_or_fault pcs cut s.default
  cases ← results_of (case_or_fault pcs cut) s.cases
  Ok (record { default = default; cases = cases })

abbrev pub insn_or_fault : List ℕ → ClassFault → Insn → Result Insn ClassFault
insn_or_fault pcs cut (insn.Branch how target) = place_or_fault pcs cut target >>= λ p. Ok (insn.Branch how p)
insn_or_fault pcs cut (insn.Table s) = table_or_fault pcs cut s >>= λ t. Ok (insn.Table t)
insn_or_fault pcs cut (insn.Lookup s) = lookup_or_fault pcs cut s >>= λ t. Ok (insn.Lookup t)
insn_or_fault pcs cut (insn.Simple s) = Ok (insn.Simple s)
insn_or_fault pcs cut (insn.Constant n) = Ok (insn.Constant n)
insn_or_fault pcs cut (insn.Field how n) = Ok (insn.Field how n)
insn_or_fault pcs cut (insn.Invoke how n) = Ok (insn.Invoke how n)
insn_or_fault pcs cut (insn.Class how n) = Ok (insn.Class how n)
insn_or_fault pcs cut (insn.MultiNewArray n count) = Ok (insn.MultiNewArray n count)
