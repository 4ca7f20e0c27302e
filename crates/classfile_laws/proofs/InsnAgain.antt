-- Bytes that spell an instruction are read as that instruction, with bytes for its targets.
use Rattle.std.proofs.Common.{◌≡◌, ℕ, ◌+◌, ◌<◌, true, List, [], ◌∷◌, ◌++◌, length, Option, Some, None, Ok, ℤ, refl, sym, subst, append_assoc, arith}
use Rattle.std.specs.Prelude.{IsTrue, nat_lt, ◌==◌, ◌^◌, ◌-ℤ◌, int_le, unsigned_abs}
use Rattle.std.specs.Int.{w8, w16, w32}
use Rattle.std.proofs.lemmas.Bool.{eq-eqb, lt-ltb}
use Rattle.jvms_file.specs.declared.class_file.Constant.{Constant}
use Rattle.jvms_file.specs.declared.fault.ClassFault.{ClassFault}
use Rattle.jvms_file.specs.declared.fault.ClassFault.TheVariants as fault
use Rattle.jvms_file.specs.declared.insn.Opcode.{Opcode}
use Rattle.jvms_file.specs.declared.insn.Opcode.TheVariants as opcode
use Rattle.jvms_file.specs.declared.insn.Insn.{Insn}
use Rattle.jvms_file.specs.declared.insn.Insn.TheVariants as insn
use Rattle.jvms_file.specs.declared.insn.Simple.TheVariants as simple
use Rattle.jvms_file.specs.declared.insn.Push.TheVariants as push
use Rattle.jvms_file.specs.declared.insn.Invoke.{Invoke}
use Rattle.jvms_file.specs.declared.insn.Invoke.TheVariants as invoke
use Rattle.jvms_file.specs.declared.insn.ArrayInsn.TheVariants as array_insn
use Rattle.jvms_file.specs.declared.insn.SwitchCase.{SwitchCase}
use Rattle.jvms_file.specs.declared.insn.TableSwitch.{TableSwitch}
use Rattle.jvms_file.specs.declared.insn.LookupSwitch.{LookupSwitch}
use Rattle.jvms_file.specs.Bytes.{bytes_at, signed}
use Rattle.jvms_file.specs.Instructions.{target_of, is_above, pad_length, interface_count, interface_operands, after_invoke, targets_at, table_switch_insn, cases_at, lookup_switch_insn, wide_insn, operands_at, insn_at}
use Rattle.jvms_file.specs.Code.{place_of, places_of, case_places, with_places}
use Rattle.jvms_file.specs.Spelling.{IsU4, u2, u4, IsOpcode, InOrder, LeadsTo, SpellsTarget, SpellsCase, IsRising, SpellsAfterInvoke, SpellsInsn}
use Rattle.classfile_laws.proofs.Numbers.{u1_again, u2_again, u4_again, bytes_again}
use Rattle.classfile_laws.proofs.InsnForms.{Behind, alone, push_byte, push_short, load, load_wide, load_long, local, increment, wide_local, wide_increment, new_array, branch, branch_wide, table, lookup, field, invoke, class, multi_new_array, formed}
use Rattle.classfile_laws.proofs.InsnStarts.{AreStarts, place_of_start}

-- Pads of any value are skipped.
pads_again : {E : Type 0} (cut : E) (n : ℕ) (pads rest : List ℕ) → length pads ≡ n → bytes_at cut n (pads ++ rest) ≡ Ok (pads, rest)
pads_again cut n pads rest size = subst (λ (k : ℕ). bytes_at cut k (pads ++ rest) ≡ Ok (pads, rest)) size (bytes_again cut pads rest)

-- ---- Targets and cases

-- The place to which an offset leads is that of the byte.
leads_again : (end : ℕ) (pcs : List ℕ) (pc place m : ℕ) → AreStarts 0 end pcs → LeadsTo pcs pc place m → place_of pcs (target_of pc (signed w32 m)) ≡ Some place
leads_again end pcs pc place m s leads = place_of_start 0 end pcs place (target_of pc (signed w32 m)) s leads.1

record TargetsAgain (pcs : List ℕ) (cut : ClassFault) (pc : ℕ) (bytes rest : List ℕ) (places : List ℕ) : Type 0 where
  targets : List ℕ
  reads : targets_at cut pc (length places) bytes ≡ Ok (targets, rest)
  placed : places_of pcs targets ≡ Some places

targets_again : (end : ℕ) (pcs : List ℕ) (cut : ClassFault) (pc : ℕ) (places front rest : List ℕ) → AreStarts 0 end pcs → InOrder (SpellsTarget pcs pc) front places → TargetsAgain pcs cut pc (front ++ rest) rest places
unfolding targets_at
targets_again end pcs cut pc [] front rest s none = rw none (record { targets = []; reads = refl; placed = refl })
targets_again end pcs cut pc (p ∷ places) front rest s (first, others, whole, (m, leads, b), spelt) =
    let more = targets_again end pcs cut pc places others rest s spelt in
    let bytes : front ++ rest ≡ u4 m ++ (others ++ rest) = rw (whole, b) (simp append_assoc) in
    record {
      targets = target_of pc (signed w32 m) ∷ more.targets;
      reads = rw (bytes, u4_again cut m (others ++ rest) leads.0, more.reads) refl;
      placed = rw (leads_again end pcs pc p m s leads, more.placed) refl;
    }

record CasesAgain (pcs : List ℕ) (cut : ClassFault) (pc : ℕ) (last : Option ℤ) (bytes rest : List ℕ) (places : List SwitchCase) : Type 0 where
  cases : List SwitchCase
  reads : cases_at cut pc (length places) last bytes ≡ Ok (cases, rest)
  placed : case_places pcs cases ≡ Some places

cases_again : (end : ℕ) (pcs : List ℕ) (cut : ClassFault) (pc : ℕ) (last : Option ℤ) (places : List SwitchCase) (front rest : List ℕ) → AreStarts 0 end pcs → IsRising last places → InOrder (SpellsCase pcs pc) front places → CasesAgain pcs cut pc last (front ++ rest) rest places
unfolding cases_at
cases_again end pcs cut pc last [] front rest s rises none = rw none (record { cases = []; reads = refl; placed = refl })
cases_again end pcs cut pc last (c ∷ places) front rest s rises (first, others, whole, (m, lt, value, n, leads, b), spelt) =
    let more = cases_again end pcs cut pc (Some c.value) places others rest s rises.1 spelt in
    let bytes : front ++ rest ≡ u4 m ++ (u4 n ++ (others ++ rest)) = rw (whole, b) (simp append_assoc) in
    let above : is_above last (signed w32 m) ≡ true = rw value at rises.0 in
    let reads : cases_at cut pc (length places) (Some (signed w32 m)) (others ++ rest) ≡ Ok (more.cases, rest) = subst (λ (v : ℤ). cases_at cut pc (length places) (Some v) (others ++ rest) ≡ Ok (more.cases, rest)) value more.reads in
    record {
      cases = record { value = signed w32 m; target = target_of pc (signed w32 n) } ∷ more.cases;
      reads = rw (bytes, u4_again cut m (u4 n ++ (others ++ rest)) lt, u4_again cut n (others ++ rest) leads.0, above, reads) refl;
      placed = rw (leads_again end pcs pc c.target n s leads, more.placed, sym value) refl;
    }

-- ---- Operands

-- An instruction that is read after an opcode is, with places for targets, the one that was spelled.
record Again (pool : List Constant) (major : ℕ) (pcs : List ℕ) (pc : ℕ) (form : Opcode) (bytes rest : List ℕ) (i : Insn) : Type 0 where
  read : Insn
  reads : operands_at pool major pc form bytes ≡ Ok (read, rest)
  placed : with_places pcs read ≡ Some i

table_again : (pool : List Constant) (major : ℕ) (pcs : List ℕ) (pc end : ℕ) (s : TableSwitch) (pads : List ℕ) (default low high : ℕ) (front rest : List ℕ) → AreStarts 0 end pcs → length pads ≡ pad_length pc → LeadsTo pcs pc s.default default → IsU4 low → s.low ≡ signed w32 low → IsU4 high → IsTrue (int_le s.low (signed w32 high)) → length s.targets ≡ unsigned_abs (signed w32 high -ℤ s.low) + 1 → InOrder (SpellsTarget pcs pc) front s.targets
    → Again pool major pcs pc opcode.TableSwitch ((pads ++ (u4 default ++ (u4 low ++ (u4 high ++ front)))) ++ rest) rest (insn.Table s)
unfolding operands_at table_switch_insn with_places
table_again pool major pcs pc end s pads default low high front rest starts padded leads lows is_low highs le count spelt =
    let cut = fault.Operand pc in
    let whole : (pads ++ (u4 default ++ (u4 low ++ (u4 high ++ front)))) ++ rest ≡ pads ++ (u4 default ++ (u4 low ++ (u4 high ++ (front ++ rest)))) = simp append_assoc in
    let more = targets_again end pcs cut pc s.targets front rest starts spelt in
    let test : int_le (signed w32 low) (signed w32 high) ≡ true = rw is_low at le in
    let size : length s.targets ≡ unsigned_abs (signed w32 high -ℤ signed w32 low) + 1 = rw is_low at count in
    let reads : targets_at cut pc (unsigned_abs (signed w32 high -ℤ signed w32 low) + 1) (front ++ rest) ≡ Ok (more.targets, rest) = rw size at more.reads in
    record {
      read = insn.Table (record { default = target_of pc (signed w32 default); low = signed w32 low; targets = more.targets });
      reads = rw (whole, pads_again cut (pad_length pc) pads (u4 default ++ (u4 low ++ (u4 high ++ (front ++ rest)))) padded, u4_again cut default (u4 low ++ (u4 high ++ (front ++ rest))) leads.0, u4_again cut low (u4 high ++ (front ++ rest)) lows, u4_again cut high (front ++ rest) highs, test, reads) refl;
      placed = rw (leads_again end pcs pc s.default default starts leads, more.placed, sym is_low) refl;
    }

lookup_again : (pool : List Constant) (major : ℕ) (pcs : List ℕ) (pc end : ℕ) (s : LookupSwitch) (pads : List ℕ) (default : ℕ) (front rest : List ℕ) → AreStarts 0 end pcs → length pads ≡ pad_length pc → LeadsTo pcs pc s.default default → length s.cases < 2 ^ 31 → IsRising None s.cases → InOrder (SpellsCase pcs pc) front s.cases
    → Again pool major pcs pc opcode.LookupSwitch ((pads ++ (u4 default ++ (u4 (length s.cases) ++ front))) ++ rest) rest (insn.Lookup s)
unfolding operands_at lookup_switch_insn with_places
lookup_again pool major pcs pc end s pads default front rest starts padded leads few rises spelt =
    let cut = fault.Operand pc in
    let whole : (pads ++ (u4 default ++ (u4 (length s.cases) ++ front))) ++ rest ≡ pads ++ (u4 default ++ (u4 (length s.cases) ++ (front ++ rest))) = simp append_assoc in
    let more = cases_again end pcs cut pc None s.cases front rest starts rises spelt in
    let test : nat_lt (length s.cases) (2 ^ 31) ≡ true = lt-ltb (length s.cases) (2 ^ 31) few in
    let counted : IsU4 (length s.cases) = omega arith in
    record {
      read = insn.Lookup (record { default = target_of pc (signed w32 default); cases = more.cases });
      reads = rw (whole, pads_again cut (pad_length pc) pads (u4 default ++ (u4 (length s.cases) ++ (front ++ rest))) padded, u4_again cut default (u4 (length s.cases) ++ (front ++ rest)) leads.0, u4_again cut (length s.cases) (front ++ rest) counted, test, more.reads) refl;
      placed = rw (leads_again end pcs pc s.default default starts leads, more.placed) refl;
    }

-- The operands after the number of a call are skipped.
interface_again : (cut : ClassFault) (count : Option ℕ) (units : ℕ) (rest : List ℕ) → count ≡ Some units → interface_operands cut count (units ∷ 0 ∷ rest) ≡ Ok rest
interface_again cut count units rest is =
    let same : (units == units) ≡ true = eq-eqb units units refl in
    rw (is, u1_again cut units (0 ∷ rest), u1_again cut 0 rest, same) refl

behind_again : (cut : ClassFault) (how : Invoke) (method : Option (List ℕ × List ℕ)) (front rest : List ℕ) → SpellsAfterInvoke how method front → after_invoke cut how method (front ++ rest) ≡ Ok rest
behind_again cut invoke.Interface method front rest (units, lt, is, b) = rw b (interface_again cut (interface_count method) units rest is)
behind_again cut invoke.Virtual method front rest none = rw none refl
behind_again cut invoke.Special method front rest none = rw none refl
behind_again cut invoke.Static method front rest none = rw none refl

again : (pool : List Constant) (major : ℕ) (pcs : List ℕ) (pc end : ℕ) (form : Opcode) (operands rest : List ℕ) (i : Insn) → AreStarts 0 end pcs → Behind pool major pcs pc form operands i → Again pool major pcs pc form (operands ++ rest) rest i
unfolding operands_at wide_insn with_places
again pool major pcs pc end form operands rest i s (alone {s = simple}) = record { read = insn.Simple simple; reads = refl; placed = refl }
again pool major pcs pc end form operands rest i s (push_byte m lt) =
    record { read = insn.Simple (simple.Push (push.Int (signed w8 m))); reads = rw (u1_again (fault.Operand pc) m rest) refl; placed = refl }
again pool major pcs pc end form operands rest i s (push_short m lt) =
    record { read = insn.Simple (simple.Push (push.Int (signed w16 m))); reads = rw (u2_again (fault.Operand pc) m rest lt) refl; placed = refl }
again pool major pcs pc end form operands rest i s (load n lt test) =
    record { read = insn.Constant n; reads = rw (u1_again (fault.Operand pc) n rest, test) refl; placed = refl }
again pool major pcs pc end form operands rest i s (load_wide n lt test) =
    record { read = insn.Constant n; reads = rw (u2_again (fault.Operand pc) n rest lt, test) refl; placed = refl }
again pool major pcs pc end form operands rest i s (load_long n lt test) =
    record { read = insn.Constant n; reads = rw (u2_again (fault.Operand pc) n rest lt, test) refl; placed = refl }
again pool major pcs pc end form operands rest i s (local {how = how} n lt) =
    record { read = insn.Simple (simple.Local how n); reads = rw (u1_again (fault.Operand pc) n rest) refl; placed = refl }
again pool major pcs pc end form operands rest i s (increment n m lt mt) =
    record { read = insn.Simple (simple.Increment n (signed w8 m)); reads = rw (u1_again (fault.Operand pc) n (m ∷ rest), u1_again (fault.Operand pc) m rest) refl; placed = refl }
again pool major pcs pc end form operands rest i s (wide_local {how = how} code n is lt) =
    record { read = insn.Simple (simple.Local how n); reads = rw (u1_again (fault.Operand pc) code (u2 n ++ rest), is, u2_again (fault.Operand pc) n rest lt) refl; placed = refl }
again pool major pcs pc end form operands rest i s (wide_increment code n m is lt mt) =
    let whole : (u2 n ++ u2 m) ++ rest ≡ u2 n ++ (u2 m ++ rest) = append_assoc (u2 n) (u2 m) rest in
    record { read = insn.Simple (simple.Increment n (signed w16 m)); reads = rw (whole, u1_again (fault.Operand pc) code (u2 n ++ (u2 m ++ rest)), is, u2_again (fault.Operand pc) n (u2 m ++ rest) lt, u2_again (fault.Operand pc) m rest mt) refl; placed = refl }
again pool major pcs pc end form operands rest i s (new_array {type = type} m is) =
    record { read = insn.Simple (simple.Array (array_insn.New type)); reads = rw (u1_again (fault.Operand pc) m rest, is) refl; placed = refl }
again pool major pcs pc end form operands rest i s (branch {how = how} {place = place} m lt leads) =
    record { read = insn.Branch how (target_of pc (signed w16 m)); reads = rw (u2_again (fault.Operand pc) m rest lt) refl; placed = rw (place_of_start 0 end pcs place (target_of pc (signed w16 m)) s leads) refl }
again pool major pcs pc end form operands rest i s (branch_wide {how = how} {place = place} m leads) =
    record { read = insn.Branch how (target_of pc (signed w32 m)); reads = rw (u4_again (fault.Operand pc) m rest leads.0) refl; placed = rw (leads_again end pcs pc place m s leads) refl }
again pool major pcs pc end form operands rest i s (table {s = switch} pads default low high front padded leads lows is_low highs le count spelt) =
    table_again pool major pcs pc end switch pads default low high front rest s padded leads lows is_low highs le count spelt
again pool major pcs pc end form operands rest i s (lookup {s = switch} pads default front padded leads few rises spelt) =
    lookup_again pool major pcs pc end switch pads default front rest s padded leads few rises spelt
again pool major pcs pc end form operands rest i s (field {how = how} n lt test) =
    record { read = insn.Field how n; reads = rw (u2_again (fault.Operand pc) n rest lt, test) refl; placed = refl }
again pool major pcs pc end form operands rest i s (invoke {how = how} n front lt test spelt) =
    let whole : (u2 n ++ front) ++ rest ≡ u2 n ++ (front ++ rest) = append_assoc (u2 n) front rest in
    record { read = insn.Invoke how n; reads = rw (whole, u2_again (fault.Operand pc) n (front ++ rest) lt, test, behind_again (fault.Operand pc) how _ front rest spelt) refl; placed = refl }
again pool major pcs pc end form operands rest i s (class {how = how} n lt test) =
    record { read = insn.Class how n; reads = rw (u2_again (fault.Operand pc) n rest lt, test) refl; placed = refl }
again pool major pcs pc end form operands rest i s (multi_new_array n count lt ct test) =
    let whole : (u2 n ++ count ∷ []) ++ rest ≡ u2 n ++ (count ∷ rest) = append_assoc (u2 n) (count ∷ []) rest in
    record { read = insn.MultiNewArray n count; reads = rw (whole, u2_again (fault.Operand pc) n (count ∷ rest) lt, u1_again (fault.Operand pc) count rest, test) refl; placed = refl }

-- ---- An instruction

-- An instruction that is read is, with places for targets, the one that was spelled.
pub record InsnAgain (pool : List Constant) (major : ℕ) (pcs : List ℕ) (pc : ℕ) (bytes rest : List ℕ) (i : Insn) : Type 0 where
  pub read : Insn
  pub reads : insn_at pool major pc bytes ≡ Ok (read, rest)
  pub placed : with_places pcs read ≡ Some i

opcode_again : (pool : List Constant) (major : ℕ) (pcs : List ℕ) (pc code : ℕ) (form : Opcode) (bytes rest : List ℕ) (i : Insn) → IsOpcode code form → Again pool major pcs pc form bytes rest i → InsnAgain pool major pcs pc (code ∷ bytes) rest i
unfolding insn_at
opcode_again pool major pcs pc code form bytes rest i is a =
    record { read = a.read; reads = rw (u1_again (fault.Operand pc) code bytes, is) a.reads; placed = a.placed }

pub insn_again : (pool : List Constant) (major : ℕ) (pcs : List ℕ) (pc end : ℕ) (first rest : List ℕ) (i : Insn) → AreStarts 0 end pcs → SpellsInsn pool major pcs pc first i → InsnAgain pool major pcs pc (first ++ rest) rest i
insn_again pool major pcs pc end first rest i s h =
    let f = formed pool major pcs pc first i h in
    let a = opcode_again pool major pcs pc f.code f.form (f.operands ++ rest) rest i f.opcode_is (again pool major pcs pc end f.form f.operands rest i s f.behind) in
    subst (λ (bytes : List ℕ). InsnAgain pool major pcs pc (bytes ++ rest) rest i) (sym f.bytes_are) a
