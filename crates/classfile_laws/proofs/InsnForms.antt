-- Instructions by their opcode: the bytes after it, by cases on the opcode's operands. The grammar has cases on the
-- instruction, and reading has cases on the opcode. This connects the two.
use Rattle.std.proofs.Common.{◌≡◌, ℕ, ◌+◌, ◌<◌, List, [], ◌∷◌, ◌++◌, length, Some, None, ℤ, refl, inl, inr}
use Rattle.std.specs.Prelude.{IsTrue, slice_get, ◌^◌, ◌-ℤ◌, int_le, unsigned_abs}
use Rattle.std.specs.Int.{w8, w16, w32}
use Rattle.jvms_file.specs.declared.class_file.Constant.{Constant}
use Rattle.jvms_file.specs.declared.insn.Opcode.{Opcode}
use Rattle.jvms_file.specs.declared.insn.Opcode.TheVariants as opcode
use Rattle.jvms_file.specs.declared.insn.Insn.{Insn}
use Rattle.jvms_file.specs.declared.insn.Insn.TheVariants as insn
use Rattle.jvms_file.specs.declared.insn.Simple.{Simple}
use Rattle.jvms_file.specs.declared.insn.Simple.TheVariants as simple
use Rattle.jvms_file.specs.declared.insn.Push.TheVariants as push
use Rattle.jvms_file.specs.declared.insn.LocalUse.{LocalUse}
use Rattle.jvms_file.specs.declared.insn.Branch.{Branch}
use Rattle.jvms_file.specs.declared.insn.FieldUse.{FieldUse}
use Rattle.jvms_file.specs.declared.insn.Invoke.{Invoke}
use Rattle.jvms_file.specs.declared.insn.ClassUse.{ClassUse}
use Rattle.jvms_file.specs.declared.insn.ArrayInsn.TheVariants as array_insn
use Rattle.jvms_file.specs.declared.insn.ArrayType.{ArrayType}
use Rattle.jvms_file.specs.declared.insn.TableSwitch.{TableSwitch}
use Rattle.jvms_file.specs.declared.insn.LookupSwitch.{LookupSwitch}
use Rattle.jvms_file.specs.Bytes.{signed}
use Rattle.jvms_file.specs.ConstantPool.{entry, class_name_at}
use Rattle.jvms_file.specs.Instructions.{target_of, array_type_of, is_loadable, is_wide_loadable, passes, is_field, invoked_names, is_invocable, names_usable, is_dimensions, pad_length}
use Rattle.jvms_file.specs.Spelling.{IsU1, IsU2, IsU4, u2, u4, IsOpcode, InOrder, LeadsTo, SpellsTarget, SpellsCase, IsRising, SpellsAfterInvoke, SpellsSimple, SpellsWithOperands, SpellsInsn}

-- The bytes after an opcode.
pub data Behind (pool : List Constant) (major : ℕ) (pcs : List ℕ) (pc : ℕ) : Opcode → List ℕ → Insn → Type 0 where
  alone : {s : Simple} → Behind pool major pcs pc (opcode.Alone s) [] (insn.Simple s)
  push_byte : (m : ℕ) → IsU1 m → Behind pool major pcs pc opcode.PushByte (m ∷ []) (insn.Simple (simple.Push (push.Int (signed w8 m))))
  push_short : (m : ℕ) → IsU2 m → Behind pool major pcs pc opcode.PushShort (u2 m) (insn.Simple (simple.Push (push.Int (signed w16 m))))
  load : (n : ℕ) → IsU1 n → IsTrue (passes (is_loadable major) (entry pool n)) → Behind pool major pcs pc opcode.Constant (n ∷ []) (insn.Constant n)
  load_wide : (n : ℕ) → IsU2 n → IsTrue (passes (is_loadable major) (entry pool n)) → Behind pool major pcs pc opcode.ConstantWide (u2 n) (insn.Constant n)
  load_long : (n : ℕ) → IsU2 n → IsTrue (passes is_wide_loadable (entry pool n)) → Behind pool major pcs pc opcode.ConstantLong (u2 n) (insn.Constant n)
  local : {how : LocalUse} (n : ℕ) → IsU1 n → Behind pool major pcs pc (opcode.Local how) (n ∷ []) (insn.Simple (simple.Local how n))
  increment : (n m : ℕ) → IsU1 n → IsU1 m → Behind pool major pcs pc opcode.Increment (n ∷ m ∷ []) (insn.Simple (simple.Increment n (signed w8 m)))
  wide_local : {how : LocalUse} (code n : ℕ) → IsOpcode code (opcode.Local how) → IsU2 n → Behind pool major pcs pc opcode.Wide (code ∷ u2 n) (insn.Simple (simple.Local how n))
  wide_increment : (code n m : ℕ) → IsOpcode code opcode.Increment → IsU2 n → IsU2 m → Behind pool major pcs pc opcode.Wide (code ∷ u2 n ++ u2 m) (insn.Simple (simple.Increment n (signed w16 m)))
  new_array : {type : ArrayType} (m : ℕ) → array_type_of m ≡ Some type → Behind pool major pcs pc opcode.NewArray (m ∷ []) (insn.Simple (simple.Array (array_insn.New type)))
  branch : {how : Branch} {place : ℕ} (m : ℕ) → IsU2 m → slice_get pcs place ≡ Some (target_of pc (signed w16 m)) → Behind pool major pcs pc (opcode.Branch how) (u2 m) (insn.Branch how place)
  branch_wide : {how : Branch} {place : ℕ} (m : ℕ) → LeadsTo pcs pc place m → Behind pool major pcs pc (opcode.BranchWide how) (u4 m) (insn.Branch how place)
  table : {s : TableSwitch} (pads : List ℕ) (default low high : ℕ) (rest : List ℕ) → length pads ≡ pad_length pc → LeadsTo pcs pc s.default default → IsU4 low → s.low ≡ signed w32 low → IsU4 high → IsTrue (int_le s.low (signed w32 high)) → length s.targets ≡ unsigned_abs (signed w32 high -ℤ s.low) + 1 → InOrder (SpellsTarget pcs pc) rest s.targets → Behind pool major pcs pc opcode.TableSwitch (pads ++ (u4 default ++ (u4 low ++ (u4 high ++ rest)))) (insn.Table s)
  lookup : {s : LookupSwitch} (pads : List ℕ) (default : ℕ) (rest : List ℕ) → length pads ≡ pad_length pc → LeadsTo pcs pc s.default default → length s.cases < 2 ^ 31 → IsRising None s.cases → InOrder (SpellsCase pcs pc) rest s.cases → Behind pool major pcs pc opcode.LookupSwitch (pads ++ (u4 default ++ (u4 (length s.cases) ++ rest))) (insn.Lookup s)
  field : {how : FieldUse} (n : ℕ) → IsU2 n → IsTrue (passes is_field (entry pool n)) → Behind pool major pcs pc (opcode.Field how) (u2 n) (insn.Field how n)
  invoke : {how : Invoke} (n : ℕ) (rest : List ℕ) → IsU2 n → IsTrue (is_invocable how (invoked_names pool how n)) → SpellsAfterInvoke how (invoked_names pool how n) rest → Behind pool major pcs pc (opcode.Invoke how) (u2 n ++ rest) (insn.Invoke how n)
  class : {how : ClassUse} (n : ℕ) → IsU2 n → IsTrue (names_usable how (class_name_at pool n)) → Behind pool major pcs pc (opcode.Class how) (u2 n) (insn.Class how n)
  multi_new_array : (n count : ℕ) → IsU2 n → IsU1 count → IsTrue (is_dimensions count (class_name_at pool n)) → Behind pool major pcs pc opcode.MultiNewArray (u2 n ++ count ∷ []) (insn.MultiNewArray n count)

-- An opcode, followed by its operands.
pub record Formed (pool : List Constant) (major : ℕ) (pcs : List ℕ) (pc : ℕ) (bytes : List ℕ) (i : Insn) : Type 0 where
  pub code : ℕ
  pub form : Opcode
  pub operands : List ℕ
  pub opcode_is : IsOpcode code form
  pub bytes_are : bytes ≡ code ∷ operands
  pub behind : Behind pool major pcs pc form operands i

-- ---- The grammar implies an opcode with its operands.

formed_push : (pool : List Constant) (major : ℕ) (pcs : List ℕ) (pc : ℕ) (bytes : List ℕ) (n : ℤ) → SpellsWithOperands bytes (simple.Push (push.Int n)) → Formed pool major pcs pc bytes (insn.Simple (simple.Push (push.Int n)))
formed_push pool major pcs pc bytes n (inl (code, is, m, lt, e, b)) =
    rw e (record { code = code; form = opcode.PushByte; operands = m ∷ []; opcode_is = is; bytes_are = b; behind = push_byte m lt })
formed_push pool major pcs pc bytes n (inr (code, is, m, lt, e, b)) =
    rw e (record { code = code; form = opcode.PushShort; operands = u2 m; opcode_is = is; bytes_are = b; behind = push_short m lt })

formed_local : (pool : List Constant) (major : ℕ) (pcs : List ℕ) (pc : ℕ) (bytes : List ℕ) (how : LocalUse) (n : ℕ) → SpellsWithOperands bytes (simple.Local how n) → Formed pool major pcs pc bytes (insn.Simple (simple.Local how n))
formed_local pool major pcs pc bytes how n (inl (code, is, lt, b)) =
    record { code = code; form = opcode.Local how; operands = n ∷ []; opcode_is = is; bytes_are = b; behind = local n lt }
formed_local pool major pcs pc bytes how n (inr (wide, w, code, is, lt, b)) =
    record { code = wide; form = opcode.Wide; operands = code ∷ u2 n; opcode_is = w; bytes_are = b; behind = wide_local code n is lt }

formed_increment : (pool : List Constant) (major : ℕ) (pcs : List ℕ) (pc : ℕ) (bytes : List ℕ) (n : ℕ) (by : ℤ) → SpellsWithOperands bytes (simple.Increment n by) → Formed pool major pcs pc bytes (insn.Simple (simple.Increment n by))
formed_increment pool major pcs pc bytes n by (inl (code, is, lt, m, mt, e, b)) =
    rw e (record { code = code; form = opcode.Increment; operands = n ∷ m ∷ []; opcode_is = is; bytes_are = b; behind = increment n m lt mt })
formed_increment pool major pcs pc bytes n by (inr (wide, w, code, is, lt, m, mt, e, b)) =
    rw e (record { code = wide; form = opcode.Wide; operands = code ∷ u2 n ++ u2 m; opcode_is = w; bytes_are = b; behind = wide_increment code n m is lt mt })

formed_operands : (pool : List Constant) (major : ℕ) (pcs : List ℕ) (pc : ℕ) (bytes : List ℕ) (s : Simple) → SpellsWithOperands bytes s → Formed pool major pcs pc bytes (insn.Simple s)
formed_operands pool major pcs pc bytes (simple.Push (push.Int n)) h = formed_push pool major pcs pc bytes n h
formed_operands pool major pcs pc bytes (simple.Local how n) h = formed_local pool major pcs pc bytes how n h
formed_operands pool major pcs pc bytes (simple.Increment n by) h = formed_increment pool major pcs pc bytes n by h
formed_operands pool major pcs pc bytes (simple.Array (array_insn.New type)) (code, is, m, e, b) =
    record { code = code; form = opcode.NewArray; operands = m ∷ []; opcode_is = is; bytes_are = b; behind = new_array m e }
formed_operands pool major pcs pc bytes s h = absurd h

formed_simple : (pool : List Constant) (major : ℕ) (pcs : List ℕ) (pc : ℕ) (bytes : List ℕ) (s : Simple) → SpellsSimple bytes s → Formed pool major pcs pc bytes (insn.Simple s)
formed_simple pool major pcs pc bytes s (inl (code, is, b)) =
    record { code = code; form = opcode.Alone s; operands = []; opcode_is = is; bytes_are = b; behind = alone }
formed_simple pool major pcs pc bytes s (inr h) = formed_operands pool major pcs pc bytes s h

pub formed : (pool : List Constant) (major : ℕ) (pcs : List ℕ) (pc : ℕ) (bytes : List ℕ) (i : Insn) → SpellsInsn pool major pcs pc bytes i → Formed pool major pcs pc bytes i
formed pool major pcs pc bytes (insn.Simple s) h = formed_simple pool major pcs pc bytes s h
formed pool major pcs pc bytes (insn.Branch how place) (inl (code, is, m, lt, e, b)) =
    record { code = code; form = opcode.Branch how; operands = u2 m; opcode_is = is; bytes_are = b; behind = branch m lt e }
formed pool major pcs pc bytes (insn.Branch how place) (inr (code, is, m, leads, b)) =
    record { code = code; form = opcode.BranchWide how; operands = u4 m; opcode_is = is; bytes_are = b; behind = branch_wide m leads }
formed pool major pcs pc bytes (insn.Table s) (code, is, pads, padded, default, leads, low, lows, is_low, high, highs, le, count, rest, targets, b) =
    record { code = code; form = opcode.TableSwitch; operands = pads ++ (u4 default ++ (u4 low ++ (u4 high ++ rest))); opcode_is = is; bytes_are = b; behind = table pads default low high rest padded leads lows is_low highs le count targets }
formed pool major pcs pc bytes (insn.Lookup s) (code, is, pads, padded, default, leads, few, rises, rest, cases, b) =
    record { code = code; form = opcode.LookupSwitch; operands = pads ++ (u4 default ++ (u4 (length s.cases) ++ rest)); opcode_is = is; bytes_are = b; behind = lookup pads default rest padded leads few rises cases }
formed pool major pcs pc bytes (insn.Constant n) (inl (test, inl (code, is, lt, b))) =
    record { code = code; form = opcode.Constant; operands = n ∷ []; opcode_is = is; bytes_are = b; behind = load n lt test }
formed pool major pcs pc bytes (insn.Constant n) (inl (test, inr (code, is, lt, b))) =
    record { code = code; form = opcode.ConstantWide; operands = u2 n; opcode_is = is; bytes_are = b; behind = load_wide n lt test }
formed pool major pcs pc bytes (insn.Constant n) (inr (test, code, is, lt, b)) =
    record { code = code; form = opcode.ConstantLong; operands = u2 n; opcode_is = is; bytes_are = b; behind = load_long n lt test }
formed pool major pcs pc bytes (insn.Field how n) (code, is, lt, test, b) =
    record { code = code; form = opcode.Field how; operands = u2 n; opcode_is = is; bytes_are = b; behind = field n lt test }
formed pool major pcs pc bytes (insn.Invoke how n) (code, is, lt, test, rest, spelt, b) =
    record { code = code; form = opcode.Invoke how; operands = u2 n ++ rest; opcode_is = is; bytes_are = b; behind = invoke n rest lt test spelt }
formed pool major pcs pc bytes (insn.Class how n) (code, is, lt, test, b) =
    record { code = code; form = opcode.Class how; operands = u2 n; opcode_is = is; bytes_are = b; behind = class n lt test }
formed pool major pcs pc bytes (insn.MultiNewArray n count) (code, is, lt, ct, test, b) =
    record { code = code; form = opcode.MultiNewArray; operands = u2 n ++ count ∷ []; opcode_is = is; bytes_are = b; behind = multi_new_array n count lt ct test }

-- ---- An opcode with its operands is in the grammar.

pub spelt : (pool : List Constant) (major : ℕ) (pcs : List ℕ) (pc code : ℕ) (form : Opcode) (operands : List ℕ) (i : Insn) → IsOpcode code form → Behind pool major pcs pc form operands i → SpellsInsn pool major pcs pc (code ∷ operands) i
spelt pool major pcs pc code form operands i is alone = inl (code, is, refl)
spelt pool major pcs pc code form operands i is (push_byte m lt) = inr (inl (code, is, m, lt, refl, refl))
spelt pool major pcs pc code form operands i is (push_short m lt) = inr (inr (code, is, m, lt, refl, refl))
spelt pool major pcs pc code form operands i is (load n lt test) = inl (test, inl (code, is, lt, refl))
spelt pool major pcs pc code form operands i is (load_wide n lt test) = inl (test, inr (code, is, lt, refl))
spelt pool major pcs pc code form operands i is (load_long n lt test) = inr (test, code, is, lt, refl)
spelt pool major pcs pc code form operands i is (local n lt) = inr (inl (code, is, lt, refl))
spelt pool major pcs pc code form operands i is (increment n m lt mt) = inr (inl (code, is, lt, m, mt, refl, refl))
spelt pool major pcs pc wide form operands i w (wide_local code n is lt) = inr (inr (wide, w, code, is, lt, refl))
spelt pool major pcs pc wide form operands i w (wide_increment code n m is lt mt) = inr (inr (wide, w, code, is, lt, m, mt, refl, refl))
spelt pool major pcs pc code form operands i is (new_array m e) = inr (code, is, m, e, refl)
spelt pool major pcs pc code form operands i is (branch m lt e) = inl (code, is, m, lt, e, refl)
spelt pool major pcs pc code form operands i is (branch_wide m leads) = inr (code, is, m, leads, refl)
spelt pool major pcs pc code form operands i is (table pads default low high rest padded leads lows is_low highs le count targets) =
    (code, is, pads, padded, default, leads, low, lows, is_low, high, highs, le, count, rest, targets, refl)
spelt pool major pcs pc code form operands i is (lookup pads default rest padded leads few rises cases) =
    (code, is, pads, padded, default, leads, few, rises, rest, cases, refl)
spelt pool major pcs pc code form operands i is (field n lt test) = (code, is, lt, test, refl)
spelt pool major pcs pc code form operands i is (invoke n rest lt test behind) = (code, is, lt, test, rest, behind, refl)
spelt pool major pcs pc code form operands i is (class n lt test) = (code, is, lt, test, refl)
spelt pool major pcs pc code form operands i is (multi_new_array n count lt ct test) = (code, is, lt, ct, test, refl)
