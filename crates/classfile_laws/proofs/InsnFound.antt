-- Bytes that are read as an instruction spell that instruction, with places for targets.
use Rattle.std.proofs.Common.{◌≡◌, ℕ, zero, suc, ◌+◌, ◌<◌, Bool, true, false, List, [], ◌∷◌, ◌++◌, length, Option, Some, None, Result, Ok, ℤ, refl, sym, ap, subst, ◌∙◌, append_assoc}
use Rattle.std.specs.Prelude.{IsTrue, slice_get, nat_lt, ◌==◌, ◌&&◌, ◌^◌, ◌-ℤ◌, int_le, unsigned_abs}
use Rattle.std.specs.Int.{w8, w16, w32}
use Rattle.std.proofs.lemmas.Bool.{eqb-true, ltb-true}
use Rattle.std.proofs.lemmas.Option.{same_Some}
use Rattle.jvms_file.specs.declared.class_file.Constant.{Constant}
use Rattle.jvms_file.specs.declared.fault.ClassFault.{ClassFault}
use Rattle.jvms_file.specs.declared.fault.ClassFault.TheVariants as fault
use Rattle.jvms_file.specs.declared.insn.TheConstants.{OPCODES}
use Rattle.jvms_file.specs.declared.insn.Opcode.{Opcode}
use Rattle.jvms_file.specs.declared.insn.Opcode.TheVariants as opcode
use Rattle.jvms_file.specs.declared.insn.Insn.{Insn}
use Rattle.jvms_file.specs.declared.insn.Insn.TheVariants as insn
use Rattle.jvms_file.specs.declared.insn.Simple.TheVariants as simple
use Rattle.jvms_file.specs.declared.insn.Push.TheVariants as push
use Rattle.jvms_file.specs.declared.insn.Branch.{Branch}
use Rattle.jvms_file.specs.declared.insn.Invoke.{Invoke}
use Rattle.jvms_file.specs.declared.insn.Invoke.TheVariants as invoke
use Rattle.jvms_file.specs.declared.insn.ArrayInsn.TheVariants as array_insn
use Rattle.jvms_file.specs.declared.insn.SwitchCase.{SwitchCase}
use Rattle.jvms_file.specs.declared.insn.TableSwitch.{TableSwitch}
use Rattle.jvms_file.specs.declared.insn.LookupSwitch.{LookupSwitch}
use Rattle.jvms_file.specs.Results.{◌>>=◌, want}
use Rattle.jvms_file.specs.Bytes.{u1_at, u2_at, u4_at, bytes_at, signed}
use Rattle.jvms_file.specs.ConstantPool.{entry, class_name_at}
use Rattle.jvms_file.specs.Instructions.{Read, target_of, array_type_of, is_loadable, is_wide_loadable, passes, is_field, invoked_names, is_invocable, names_usable, is_dimensions, invoke_insn, new_array_insn, branch_insn, wide_branch_insn, multi_new_array_insn, is_above, pad_length, interface_count, interface_operands, after_invoke, targets_at, table_switch_insn, cases_at, lookup_switch_insn, wide_form, wide_insn, operands_at, insn_at}
use Rattle.jvms_file.specs.Code.{place_of, places_of, case_places, table_places, lookup_places, with_places}
use Rattle.jvms_file.specs.Spelling.{IsU1, IsU2, IsU4, u2, u4, IsOpcode, InOrder, SpellsTarget, SpellsCase, IsRising, SpellsAfterInvoke, SpellsInsn}
use Rattle.classfile_laws.proofs.Numbers.{IsBytes, u1_found, u2_found, u4_found, bytes_found}
use Rattle.classfile_laws.proofs.InsnSteps.{step, tested, there, read_parts, mapped, chained}
use Rattle.classfile_laws.proofs.InsnForms.{Behind, alone, push_byte, push_short, load, load_wide, load_long, local, increment, wide_local, wide_increment, new_array, branch, branch_wide, table, lookup, field, invoke, class, multi_new_array, spelt}
use Rattle.classfile_laws.proofs.InsnStarts.{start_at_place}

-- ---- A number in one step

-- A number that was read in one step: it is at the front, and reading continued after it.
record NumberStep {B : Type 0} (small : ℕ → Type 0) (spelled : ℕ → List ℕ) (bytes : List ℕ) (f : ℕ × List ℕ → Result B ClassFault) (y : B) : Type 0 where
  n : ℕ
  rest : List ℕ
  fits : small n
  whole : bytes ≡ spelled n ++ rest
  are : IsBytes rest
  goes : f (n, rest) ≡ Ok y

u1_step : {B : Type 0} (cut : ClassFault) (bytes : List ℕ) (f : ℕ × List ℕ → Result B ClassFault) (y : B) → IsBytes bytes → (u1_at cut bytes >>= f) ≡ Ok y → NumberStep (λ n. IsU1 n) (λ n. n ∷ []) bytes f y
u1_step cut bytes f y are h =
    let s = step (u1_at cut bytes) f y h in
    let found = u1_found cut bytes s.value.0 s.value.1 are s.is in
    record { n = s.value.0; rest = s.value.1; fits = found.0; whole = found.1; are = found.2; goes = s.goes }

u2_step : {B : Type 0} (cut : ClassFault) (bytes : List ℕ) (f : ℕ × List ℕ → Result B ClassFault) (y : B) → IsBytes bytes → (u2_at cut bytes >>= f) ≡ Ok y → NumberStep (λ n. IsU2 n) u2 bytes f y
u2_step cut bytes f y are h =
    let s = step (u2_at cut bytes) f y h in
    let found = u2_found cut bytes s.value.0 s.value.1 are s.is in
    record { n = s.value.0; rest = s.value.1; fits = found.0; whole = found.1; are = found.2; goes = s.goes }

u4_step : {B : Type 0} (cut : ClassFault) (bytes : List ℕ) (f : ℕ × List ℕ → Result B ClassFault) (y : B) → IsBytes bytes → (u4_at cut bytes >>= f) ≡ Ok y → NumberStep (λ n. IsU4 n) u4 bytes f y
u4_step cut bytes f y are h =
    let s = step (u4_at cut bytes) f y h in
    let found = u4_found cut bytes s.value.0 s.value.1 are s.is in
    record { n = s.value.0; rest = s.value.1; fits = found.0; whole = found.1; are = found.2; goes = s.goes }

record PadsStep {B : Type 0} (size : ℕ) (bytes : List ℕ) (f : List ℕ × List ℕ → Result B ClassFault) (y : B) : Type 0 where
  pads : List ℕ
  rest : List ℕ
  padded : length pads ≡ size
  whole : bytes ≡ pads ++ rest
  are : IsBytes rest
  goes : f (pads, rest) ≡ Ok y

pads_step : {B : Type 0} (cut : ClassFault) (size : ℕ) (bytes : List ℕ) (f : List ℕ × List ℕ → Result B ClassFault) (y : B) → IsBytes bytes → (bytes_at cut size bytes >>= f) ≡ Ok y → PadsStep size bytes f y
pads_step cut size bytes f y are h =
    let s = step (bytes_at cut size bytes) f y h in
    let found = bytes_found cut size bytes s.value.0 s.value.1 are s.is in
    record { pads = s.value.0; rest = s.value.1; padded = found.0; whole = found.1; are = found.3; goes = s.goes }

-- ---- Targets and cases

record TargetsFound (pcs : List ℕ) (pc count : ℕ) (bytes rest : List ℕ) (places : List ℕ) : Type 0 where
  front : List ℕ
  whole : bytes ≡ front ++ rest
  spells : InOrder (SpellsTarget pcs pc) front places
  counted : length places ≡ count
  are : IsBytes rest

one_target : (pcs : List ℕ) (pc count m place : ℕ) (bytes middle rest : List ℕ) (places : List ℕ) → IsU4 m → bytes ≡ u4 m ++ middle → place_of pcs (target_of pc (signed w32 m)) ≡ Some place → TargetsFound pcs pc count middle rest places → TargetsFound pcs pc (suc count) bytes rest (place ∷ places)
one_target pcs pc count m place bytes middle rest places fits whole leads more = record {
  front = u4 m ++ more.front;
  whole = whole ∙ ap (λ (b : List ℕ). u4 m ++ b) more.whole ∙ sym (append_assoc (u4 m) more.front rest);
  spells = (u4 m, more.front, refl, (m, (fits, start_at_place pcs place (target_of pc (signed w32 m)) leads), refl), more.spells);
  counted = ap suc more.counted;
  are = more.are;
}

targets_moved : (pcs : List ℕ) (pc count : ℕ) (bytes behind rest was places : List ℕ) → behind ≡ rest → was ≡ places → TargetsFound pcs pc count bytes behind was → TargetsFound pcs pc count bytes rest places
targets_moved pcs pc count bytes behind rest was places e f found = rw (sym e, sym f) found

targets_found : (pcs : List ℕ) (cut : ClassFault) (pc count : ℕ) (bytes rest targets places : List ℕ) → IsBytes bytes → targets_at cut pc count bytes ≡ Ok (targets, rest) → places_of pcs targets ≡ Some places → TargetsFound pcs pc count bytes rest places
unfolding targets_at
targets_found pcs cut pc zero bytes rest targets places are h placed =
    let parts = read_parts [] targets bytes rest h in
    let none : places ≡ [] = same_Some places [] (sym placed ∙ ap (λ (ts : List ℕ). places_of pcs ts) (sym parts.0)) in
    rw none (record { front = []; whole = parts.1; spells = refl; counted = refl; are = subst IsBytes parts.1 are })
targets_found pcs cut pc (suc count) bytes rest targets places are h placed =
    let o = u4_step cut bytes _ (targets, rest) are h in
    let others = step (targets_at cut pc count o.rest) _ (targets, rest) o.goes in
    let parts = read_parts (target_of pc (signed w32 o.n) ∷ others.value.0) targets others.value.1 rest others.goes in
    let place = chained _ (place_of pcs (target_of pc (signed w32 o.n))) places (ap (λ (ts : List ℕ). places_of pcs ts) parts.0 ∙ placed) in
    let later = mapped _ (places_of pcs others.value.0) places place.gives in
    let more = targets_found pcs cut pc count o.rest others.value.1 others.value.0 later.value o.are others.is later.is in
    let found = one_target pcs pc count o.n place.value bytes o.rest others.value.1 later.value o.fits o.whole place.is more in
    targets_moved pcs pc (suc count) bytes others.value.1 rest (place.value ∷ later.value) places parts.1 later.gives found

record CasesFound (pcs : List ℕ) (pc count : ℕ) (last : Option ℤ) (bytes rest : List ℕ) (places : List SwitchCase) : Type 0 where
  front : List ℕ
  whole : bytes ≡ front ++ rest
  rises : IsRising last places
  spells : InOrder (SpellsCase pcs pc) front places
  counted : length places ≡ count
  are : IsBytes rest

one_case : (pcs : List ℕ) (pc count : ℕ) (last : Option ℤ) (m n place : ℕ) (bytes between middle rest : List ℕ) (places : List SwitchCase) → IsU4 m → bytes ≡ u4 m ++ between → IsU4 n → between ≡ u4 n ++ middle → is_above last (signed w32 m) ≡ true → place_of pcs (target_of pc (signed w32 n)) ≡ Some place → CasesFound pcs pc count (Some (signed w32 m)) middle rest places
    → CasesFound pcs pc (suc count) last bytes rest (record { value = signed w32 m; target = place } ∷ places)
one_case pcs pc count last m n place bytes between middle rest places fits whole offset_fits behind above leads more =
    let joined : u4 m ++ (u4 n ++ (more.front ++ rest)) ≡ ((u4 m ++ u4 n) ++ more.front) ++ rest = sym (simp append_assoc) in
    record {
      front = (u4 m ++ u4 n) ++ more.front;
      whole = whole ∙ ap (λ (b : List ℕ). u4 m ++ b) (behind ∙ ap (λ (b : List ℕ). u4 n ++ b) more.whole) ∙ joined;
      rises = (above, more.rises);
      spells = (u4 m ++ u4 n, more.front, refl, (m, fits, refl, n, (offset_fits, start_at_place pcs place (target_of pc (signed w32 n)) leads), refl), more.spells);
      counted = ap suc more.counted;
      are = more.are;
    }

cases_moved : (pcs : List ℕ) (pc count : ℕ) (last : Option ℤ) (bytes behind rest : List ℕ) (was places : List SwitchCase) → behind ≡ rest → was ≡ places → CasesFound pcs pc count last bytes behind was → CasesFound pcs pc count last bytes rest places
cases_moved pcs pc count last bytes behind rest was places e f found = rw (sym e, sym f) found

cases_found : (pcs : List ℕ) (cut : ClassFault) (pc count : ℕ) (last : Option ℤ) (bytes rest : List ℕ) (cases places : List SwitchCase) → IsBytes bytes → cases_at cut pc count last bytes ≡ Ok (cases, rest) → case_places pcs cases ≡ Some places → CasesFound pcs pc count last bytes rest places
unfolding cases_at
cases_found pcs cut pc zero last bytes rest cases places are h placed =
    let parts = read_parts [] cases bytes rest h in
    let none : places ≡ [] = same_Some places [] (sym placed ∙ ap (λ (cs : List SwitchCase). case_places pcs cs) (sym parts.0)) in
    rw none (record { front = []; whole = parts.1; rises = tt; spells = refl; counted = refl; are = subst IsBytes parts.1 are })
cases_found pcs cut pc (suc count) last bytes rest cases places are h placed =
    let v = u4_step cut bytes _ (cases, rest) are h in
    let o = u4_step cut v.rest _ (cases, rest) v.are v.goes in
    let test = tested (is_above last (signed w32 v.n)) cut _ (cases, rest) o.goes in
    let others = step (cases_at cut pc count (Some (signed w32 v.n)) o.rest) _ (cases, rest) test.1 in
    let parts = read_parts (record { value = signed w32 v.n; target = target_of pc (signed w32 o.n) } ∷ others.value.0) cases others.value.1 rest others.goes in
    let place = chained _ (place_of pcs (target_of pc (signed w32 o.n))) places (ap (λ (cs : List SwitchCase). case_places pcs cs) parts.0 ∙ placed) in
    let later = mapped _ (case_places pcs others.value.0) places place.gives in
    let more = cases_found pcs cut pc count (Some (signed w32 v.n)) o.rest others.value.1 others.value.0 later.value o.are others.is later.is in
    let found = one_case pcs pc count last v.n o.n place.value bytes v.rest o.rest others.value.1 later.value v.fits v.whole o.fits o.whole test.0 place.is more in
    cases_moved pcs pc (suc count) last bytes others.value.1 rest (record { value = signed w32 v.n; target = place.value } ∷ later.value) places parts.1 later.gives found

-- ---- Operands

-- The operands that were read after an opcode are at the front, and spell the instruction.
record Found (pool : List Constant) (major : ℕ) (pcs : List ℕ) (pc : ℕ) (form : Opcode) (bytes rest : List ℕ) (i : Insn) : Type 0 where
  operands : List ℕ
  whole : bytes ≡ operands ++ rest
  behind : Behind pool major pcs pc form operands i
  are : IsBytes rest

-- The end of a reading: the instruction, and the bytes after it.
ended : (pool : List Constant) (major : ℕ) (pcs : List ℕ) (pc : ℕ) (form : Opcode) (operands middle bytes rest : List ℕ) (read found i : Insn) → IsBytes middle → ◌≡◌ {A = Result (Insn × List ℕ) ClassFault} (Ok (read, middle)) (Ok (found, rest)) → with_places pcs found ≡ Some i
    → bytes ≡ operands ++ middle → ((placed : Insn) → with_places pcs read ≡ Some placed → Behind pool major pcs pc form operands placed) → Found pool major pcs pc form bytes rest i
ended pool major pcs pc form operands middle bytes rest read found i are h placed whole behind =
    let parts = read_parts read found middle rest h in
    record {
      operands = operands;
      whole = subst (λ (r : List ℕ). bytes ≡ operands ++ r) parts.1 whole;
      behind = behind i (ap (with_places pcs) parts.0 ∙ placed);
      are = subst IsBytes parts.1 are;
    }

-- The end of a reading of an instruction without targets.
plain : (pool : List Constant) (major : ℕ) (pcs : List ℕ) (pc : ℕ) (form : Opcode) (operands middle bytes rest : List ℕ) (read found i : Insn) → IsBytes middle → ◌≡◌ {A = Result (Insn × List ℕ) ClassFault} (Ok (read, middle)) (Ok (found, rest)) → with_places pcs found ≡ Some i
    → bytes ≡ operands ++ middle → with_places pcs read ≡ Some read → Behind pool major pcs pc form operands read → Found pool major pcs pc form bytes rest i
plain pool major pcs pc form operands middle bytes rest read found i are h placed whole same behind =
    ended pool major pcs pc form operands middle bytes rest read found i are h placed whole (λ j e. subst (λ (k : Insn). Behind pool major pcs pc form operands k) (same_Some read j (sym same ∙ e)) behind)

-- The end of a reading of a branch.
branch_placed : (pcs : List ℕ) (how : Branch) (target : ℕ) (i : Insn) (P : Insn → Type 0) → with_places pcs (insn.Branch how target) ≡ Some i → ((place : ℕ) → slice_get pcs place ≡ Some target → P (insn.Branch how place)) → P i
unfolding with_places
branch_placed pcs how target i P h each =
    let place = mapped _ (place_of pcs target) i h in
    subst P place.gives (each place.value (start_at_place pcs place.value target place.is))

-- The places of a table's targets.
record TablePlaced (pcs : List ℕ) (default : ℕ) (low : ℤ) (targets : List ℕ) (i : Insn) : Type 0 where
  place : ℕ
  places : List ℕ
  default_at : place_of pcs default ≡ Some place
  targets_at_places : places_of pcs targets ≡ Some places
  gives : insn.Table (record { default = place; low = low; targets = places }) ≡ i

table_placed : (pcs : List ℕ) (default : ℕ) (low : ℤ) (targets : List ℕ) (i : Insn) → with_places pcs (insn.Table (record { default = default; low = low; targets = targets })) ≡ Some i → TablePlaced pcs default low targets i
unfolding with_places
table_placed pcs default low targets i h =
    let all = mapped _ (table_places pcs (record { default = default; low = low; targets = targets })) i h in
    let first = chained _ (place_of pcs default) all.value all.is in
    let others = mapped _ (places_of pcs targets) all.value first.gives in
    record { place = first.value; places = others.value; default_at = first.is; targets_at_places = others.is; gives = ap (λ (s : TableSwitch). insn.Table s) others.gives ∙ all.gives }

five_joined : (a b c d e rest : List ℕ) → a ++ (b ++ (c ++ (d ++ (e ++ rest)))) ≡ (a ++ (b ++ (c ++ (d ++ e)))) ++ rest
five_joined a b c d e rest = sym (simp append_assoc)

five_in_order : (a b c d e rest bytes behind_a behind_b behind_c behind_d middle : List ℕ) → bytes ≡ a ++ behind_a → behind_a ≡ b ++ behind_b → behind_b ≡ c ++ behind_c → behind_c ≡ d ++ behind_d → behind_d ≡ e ++ middle → middle ≡ rest → bytes ≡ (a ++ (b ++ (c ++ (d ++ e)))) ++ rest
five_in_order a b c d e rest bytes behind_a behind_b behind_c behind_d middle p q r s t u = rw (p, q, r, s, t, u) (five_joined a b c d e rest)

table_made : (pool : List Constant) (major : ℕ) (pcs : List ℕ) (pc : ℕ) (pads : List ℕ) (default low high place : ℕ) (places bytes behind_pads behind_default behind_low behind_high middle rest : List ℕ) (i : Insn) → length pads ≡ pad_length pc → bytes ≡ pads ++ behind_pads → IsU4 default → behind_pads ≡ u4 default ++ behind_default → IsU4 low → behind_default ≡ u4 low ++ behind_low → IsU4 high → behind_low ≡ u4 high ++ behind_high
    → int_le (signed w32 low) (signed w32 high) ≡ true → place_of pcs (target_of pc (signed w32 default)) ≡ Some place → TargetsFound pcs pc (unsigned_abs (signed w32 high -ℤ signed w32 low) + 1) behind_high middle places → middle ≡ rest → insn.Table (record { default = place; low = signed w32 low; targets = places }) ≡ i → Found pool major pcs pc opcode.TableSwitch bytes rest i
table_made pool major pcs pc pads default low high place places bytes behind_pads behind_default behind_low behind_high middle rest i padded p fits q low_fits r high_fits s le leads more e gives =
    let operands = pads ++ (u4 default ++ (u4 low ++ (u4 high ++ more.front))) in
    let spelled : Behind pool major pcs pc opcode.TableSwitch operands (insn.Table (record { default = place; low = signed w32 low; targets = places })) =
    table pads default low high more.front padded (fits, start_at_place pcs place (target_of pc (signed w32 default)) leads) low_fits refl high_fits le more.counted more.spells in
    record {
      operands = operands;
      whole = five_in_order pads (u4 default) (u4 low) (u4 high) more.front rest bytes behind_pads behind_default behind_low behind_high middle p q r s more.whole e;
      behind = subst (λ (j : Insn). Behind pool major pcs pc opcode.TableSwitch operands j) gives spelled;
      are = subst IsBytes e more.are;
    }

table_or_fault : (pool : List Constant) (major : ℕ) (pcs : List ℕ) (pc : ℕ) (bytes rest : List ℕ) (found i : Insn) → IsBytes bytes → table_switch_insn (fault.Operand pc) pc bytes ≡ Ok (found, rest) → with_places pcs found ≡ Some i → Found pool major pcs pc opcode.TableSwitch bytes rest i
unfolding table_switch_insn
table_or_fault pool major pcs pc bytes rest found i are h placed =
    let cut = fault.Operand pc in
    let p = pads_step cut (pad_length pc) bytes _ (found, rest) are h in
    let d = u4_step cut p.rest _ (found, rest) p.are p.goes in
    let l = u4_step cut d.rest _ (found, rest) d.are d.goes in
    let u = u4_step cut l.rest _ (found, rest) l.are l.goes in
    let test = tested (int_le (signed w32 l.n) (signed w32 u.n)) cut _ (found, rest) u.goes in
    let count = unsigned_abs (signed w32 u.n -ℤ signed w32 l.n) + 1 in
    let ts = step (targets_at cut pc count u.rest) _ (found, rest) test.1 in
    let parts = read_parts (insn.Table (record { default = target_of pc (signed w32 d.n); low = signed w32 l.n; targets = ts.value.0 })) found ts.value.1 rest ts.goes in
    let at = table_placed pcs (target_of pc (signed w32 d.n)) (signed w32 l.n) ts.value.0 i (ap (with_places pcs) parts.0 ∙ placed) in
    let more = targets_found pcs cut pc count u.rest ts.value.1 ts.value.0 at.places u.are ts.is at.targets_at_places in
    table_made pool major pcs pc p.pads d.n l.n u.n at.place at.places bytes p.rest d.rest l.rest u.rest ts.value.1 rest i p.padded p.whole d.fits d.whole l.fits l.whole u.fits u.whole test.0 at.default_at more parts.1 at.gives

-- The places of a lookup's cases.
record LookupPlaced (pcs : List ℕ) (default : ℕ) (cases : List SwitchCase) (i : Insn) : Type 0 where
  place : ℕ
  places : List SwitchCase
  default_at : place_of pcs default ≡ Some place
  cases_at_places : case_places pcs cases ≡ Some places
  gives : insn.Lookup (record { default = place; cases = places }) ≡ i

lookup_placed : (pcs : List ℕ) (default : ℕ) (cases : List SwitchCase) (i : Insn) → with_places pcs (insn.Lookup (record { default = default; cases = cases })) ≡ Some i → LookupPlaced pcs default cases i
unfolding with_places
lookup_placed pcs default cases i h =
    let all = mapped _ (lookup_places pcs (record { default = default; cases = cases })) i h in
    let first = chained _ (place_of pcs default) all.value all.is in
    let others = mapped _ (case_places pcs cases) all.value first.gives in
    record { place = first.value; places = others.value; default_at = first.is; cases_at_places = others.is; gives = ap (λ (s : LookupSwitch). insn.Lookup s) others.gives ∙ all.gives }

four_joined : (a b c d rest : List ℕ) → a ++ (b ++ (c ++ (d ++ rest))) ≡ (a ++ (b ++ (c ++ d))) ++ rest
four_joined a b c d rest = sym (simp append_assoc)

four_in_order : (a b c d rest bytes behind_a behind_b behind_c middle : List ℕ) → bytes ≡ a ++ behind_a → behind_a ≡ b ++ behind_b → behind_b ≡ c ++ behind_c → behind_c ≡ d ++ middle → middle ≡ rest → bytes ≡ (a ++ (b ++ (c ++ d))) ++ rest
four_in_order a b c d rest bytes behind_a behind_b behind_c middle p q r s t = rw (p, q, r, s, t) (four_joined a b c d rest)

lookup_made : (pool : List Constant) (major : ℕ) (pcs : List ℕ) (pc : ℕ) (pads : List ℕ) (default count place : ℕ) (places : List SwitchCase) (bytes behind_pads behind_default behind_count middle rest : List ℕ) (i : Insn) → length pads ≡ pad_length pc → bytes ≡ pads ++ behind_pads → IsU4 default → behind_pads ≡ u4 default ++ behind_default → count < 2 ^ 31 → behind_default ≡ u4 count ++ behind_count
    → place_of pcs (target_of pc (signed w32 default)) ≡ Some place → CasesFound pcs pc count None behind_count middle places → middle ≡ rest → insn.Lookup (record { default = place; cases = places }) ≡ i → Found pool major pcs pc opcode.LookupSwitch bytes rest i
lookup_made pool major pcs pc pads default count place places bytes behind_pads behind_default behind_count middle rest i padded p fits q few r leads more e gives =
    let operands = pads ++ (u4 default ++ (u4 (length places) ++ more.front)) in
    let fewer : length places < 2 ^ 31 = subst (λ (k : ℕ). k < 2 ^ 31) (sym more.counted) few in
    let counted : behind_default ≡ u4 (length places) ++ behind_count = subst (λ (k : ℕ). behind_default ≡ u4 k ++ behind_count) (sym more.counted) r in
    let spelled : Behind pool major pcs pc opcode.LookupSwitch operands (insn.Lookup (record { default = place; cases = places })) =
    lookup pads default more.front padded (fits, start_at_place pcs place (target_of pc (signed w32 default)) leads) fewer more.rises more.spells in
    record {
      operands = operands;
      whole = four_in_order pads (u4 default) (u4 (length places)) more.front rest bytes behind_pads behind_default behind_count middle p q counted more.whole e;
      behind = subst (λ (j : Insn). Behind pool major pcs pc opcode.LookupSwitch operands j) gives spelled;
      are = subst IsBytes e more.are;
    }

lookup_or_fault : (pool : List Constant) (major : ℕ) (pcs : List ℕ) (pc : ℕ) (bytes rest : List ℕ) (found i : Insn) → IsBytes bytes → lookup_switch_insn (fault.Operand pc) pc bytes ≡ Ok (found, rest) → with_places pcs found ≡ Some i → Found pool major pcs pc opcode.LookupSwitch bytes rest i
unfolding lookup_switch_insn
lookup_or_fault pool major pcs pc bytes rest found i are h placed =
    let cut = fault.Operand pc in
    let p = pads_step cut (pad_length pc) bytes _ (found, rest) are h in
    let d = u4_step cut p.rest _ (found, rest) p.are p.goes in
    let n = u4_step cut d.rest _ (found, rest) d.are d.goes in
    let test = tested (nat_lt n.n (2 ^ 31)) cut _ (found, rest) n.goes in
    let cs = step (cases_at cut pc n.n None n.rest) _ (found, rest) test.1 in
    let parts = read_parts (insn.Lookup (record { default = target_of pc (signed w32 d.n); cases = cs.value.0 })) found cs.value.1 rest cs.goes in
    let at = lookup_placed pcs (target_of pc (signed w32 d.n)) cs.value.0 i (ap (with_places pcs) parts.0 ∙ placed) in
    let more = cases_found pcs cut pc n.n None n.rest cs.value.1 cs.value.0 at.places n.are cs.is at.cases_at_places in
    lookup_made pool major pcs pc p.pads d.n n.n at.place at.places bytes p.rest d.rest n.rest cs.value.1 rest i p.padded p.whole d.fits d.whole (ltb-true n.n (2 ^ 31) test.0) n.whole at.default_at more parts.1 at.gives

-- The operands after the number of a call.
record BehindFound (how : Invoke) (method : Option (List ℕ × List ℕ)) (bytes rest : List ℕ) : Type 0 where
  front : List ℕ
  whole : bytes ≡ front ++ rest
  spells : SpellsAfterInvoke how method front
  are : IsBytes rest

both : (a b : Bool) → (a && b) ≡ true → (a ≡ true) × (b ≡ true)
both true true h = (refl, refl)
both true false h = absurd cc
both false b h = absurd cc

interface_found : (cut : ClassFault) (method : Option (List ℕ × List ℕ)) (count : Option ℕ) (bytes rest : List ℕ) → interface_count method ≡ count → IsBytes bytes → interface_operands cut count bytes ≡ Ok rest → BehindFound invoke.Interface method bytes rest
interface_found cut method None bytes rest is are h = absurd cc
interface_found cut method (Some units) bytes rest is are h =
    let c = u1_step cut bytes _ rest are h in
    let l = u1_step cut c.rest _ rest c.are c.goes in
    let test = tested (c.n == units && l.n == 0) cut _ rest l.goes in
    let parts = both (c.n == units) (l.n == 0) test.0 in
    let same : c.n ≡ units = eqb-true c.n units parts.0 in
    let none : l.n ≡ 0 = eqb-true l.n 0 parts.1 in
    let left : l.rest ≡ rest = cc (test.1) in
    record {
      front = c.n ∷ 0 ∷ [];
      whole = c.whole ∙ ap (λ (b : List ℕ). c.n ∷ b) (l.whole ∙ ap (λ (n : ℕ). n ∷ l.rest) none ∙ ap (λ (r : List ℕ). 0 ∷ r) left);
      spells = (c.n, c.fits, is ∙ ap (λ (n : ℕ). Some n) (sym same), refl);
      are = subst IsBytes left l.are;
    }

none_behind : (bytes rest : List ℕ) → ◌≡◌ {A = Result (List ℕ) ClassFault} (Ok bytes) (Ok rest) → bytes ≡ rest
none_behind bytes rest h = cc

behind_found : (cut : ClassFault) (how : Invoke) (method : Option (List ℕ × List ℕ)) (bytes rest : List ℕ) → IsBytes bytes → after_invoke cut how method bytes ≡ Ok rest → BehindFound how method bytes rest
behind_found cut invoke.Interface method bytes rest are h = interface_found cut method (interface_count method) bytes rest refl are h
behind_found cut invoke.Virtual method bytes rest are h = let e = none_behind bytes rest h in record { front = []; whole = e; spells = refl; are = subst IsBytes e are }
behind_found cut invoke.Special method bytes rest are h = let e = none_behind bytes rest h in record { front = []; whole = e; spells = refl; are = subst IsBytes e are }
behind_found cut invoke.Static method bytes rest are h = let e = none_behind bytes rest h in record { front = []; whole = e; spells = refl; are = subst IsBytes e are }

invoke_found : (pool : List Constant) (major : ℕ) (pcs : List ℕ) (pc : ℕ) (how : Invoke) (bytes rest : List ℕ) (found i : Insn) → IsBytes bytes → invoke_insn (fault.Operand pc) pool how bytes ≡ Ok (found, rest) → with_places pcs found ≡ Some i → Found pool major pcs pc (opcode.Invoke how) bytes rest i
unfolding with_places
invoke_found pool major pcs pc how bytes rest found i are h placed =
    let cut = fault.Operand pc in
    let n = u2_step cut bytes _ (found, rest) are h in
    let test = tested (is_invocable how (invoked_names pool how n.n)) cut _ (found, rest) n.goes in
    let b = step (after_invoke cut how (invoked_names pool how n.n) n.rest) _ (found, rest) test.1 in
    let behind = behind_found cut how (invoked_names pool how n.n) n.rest b.value n.are b.is in
    let whole : bytes ≡ (u2 n.n ++ behind.front) ++ b.value = n.whole ∙ ap (λ (x : List ℕ). u2 n.n ++ x) behind.whole ∙ sym (append_assoc (u2 n.n) behind.front b.value) in
    plain pool major pcs pc (opcode.Invoke how) (u2 n.n ++ behind.front) b.value bytes rest (insn.Invoke how n.n) found i behind.are b.goes placed whole refl (invoke n.n behind.front n.fits test.0 behind.spells)

-- The instruction after `wide`.
wide_behind : (pool : List Constant) (major : ℕ) (pcs : List ℕ) (pc code : ℕ) (form : Option Opcode) (bytes rest : List ℕ) (found i : Insn) → IsBytes bytes → slice_get OPCODES code ≡ form → wide_form (fault.Operand pc) form bytes ≡ Ok (found, rest) → with_places pcs found ≡ Some i → Found pool major pcs pc opcode.Wide (code ∷ bytes) rest i
unfolding with_places
wide_behind pool major pcs pc code (Some (opcode.Local how)) bytes rest found i are is h placed =
    let n = u2_step (fault.Operand pc) bytes _ (found, rest) are h in
    plain pool major pcs pc opcode.Wide (code ∷ u2 n.n) n.rest (code ∷ bytes) rest (insn.Simple (simple.Local how n.n)) found i n.are n.goes placed (ap (λ (x : List ℕ). code ∷ x) n.whole) refl (wide_local code n.n is n.fits)
wide_behind pool major pcs pc code (Some opcode.Increment) bytes rest found i are is h placed =
    let n = u2_step (fault.Operand pc) bytes _ (found, rest) are h in
    let m = u2_step (fault.Operand pc) n.rest _ (found, rest) n.are n.goes in
    let whole : bytes ≡ (u2 n.n ++ u2 m.n) ++ m.rest = n.whole ∙ ap (λ (x : List ℕ). u2 n.n ++ x) m.whole ∙ sym (append_assoc (u2 n.n) (u2 m.n) m.rest) in
    plain pool major pcs pc opcode.Wide (code ∷ u2 n.n ++ u2 m.n) m.rest (code ∷ bytes) rest (insn.Simple (simple.Increment n.n (signed w16 m.n))) found i m.are m.goes placed (ap (λ (x : List ℕ). code ∷ x) whole) refl (wide_increment code n.n m.n is n.fits m.fits)
wide_behind pool major pcs pc code None bytes rest found i are is h placed = absurd cc
wide_behind pool major pcs pc code (Some form) bytes rest found i are is h placed = absurd cc

wide_found : (pool : List Constant) (major : ℕ) (pcs : List ℕ) (pc : ℕ) (bytes rest : List ℕ) (found i : Insn) → IsBytes bytes → wide_insn (fault.Operand pc) bytes ≡ Ok (found, rest) → with_places pcs found ≡ Some i → Found pool major pcs pc opcode.Wide bytes rest i
unfolding wide_insn
wide_found pool major pcs pc bytes rest found i are h placed =
    let c = u1_step (fault.Operand pc) bytes _ (found, rest) are h in
    let behind = wide_behind pool major pcs pc c.n (slice_get OPCODES c.n) c.rest rest found i c.are refl c.goes placed in
    subst (λ (b : List ℕ). Found pool major pcs pc opcode.Wide b rest i) (sym c.whole) behind

new_array_found : (pool : List Constant) (major : ℕ) (pcs : List ℕ) (pc : ℕ) (bytes rest : List ℕ) (found i : Insn) → IsBytes bytes → new_array_insn (fault.Operand pc) bytes ≡ Ok (found, rest) → with_places pcs found ≡ Some i → Found pool major pcs pc opcode.NewArray bytes rest i
unfolding with_places
new_array_found pool major pcs pc bytes rest found i are h placed =
    let m = u1_step (fault.Operand pc) bytes _ (found, rest) are h in
    let type = there (array_type_of m.n) (fault.Operand pc) _ (found, rest) m.goes in
    plain pool major pcs pc opcode.NewArray (m.n ∷ []) m.rest bytes rest (insn.Simple (simple.Array (array_insn.New type.value))) found i m.are type.goes placed m.whole refl (new_array m.n type.is)

branch_found : (pool : List Constant) (major : ℕ) (pcs : List ℕ) (pc : ℕ) (how : Branch) (bytes rest : List ℕ) (found i : Insn) → IsBytes bytes → branch_insn (fault.Operand pc) pc how bytes ≡ Ok (found, rest) → with_places pcs found ≡ Some i → Found pool major pcs pc (opcode.Branch how) bytes rest i
branch_found pool major pcs pc how bytes rest found i are h placed =
    let o = u2_step (fault.Operand pc) bytes _ (found, rest) are h in
    let target = target_of pc (signed w16 o.n) in
    ended pool major pcs pc (opcode.Branch how) (u2 o.n) o.rest bytes rest (insn.Branch how (target_of pc (signed w16 o.n))) found i o.are o.goes placed o.whole
    (λ j e. branch_placed pcs how target j (λ k. Behind pool major pcs pc (opcode.Branch how) (u2 o.n) k) e (λ place leads. branch o.n o.fits leads))

wide_branch_found : (pool : List Constant) (major : ℕ) (pcs : List ℕ) (pc : ℕ) (how : Branch) (bytes rest : List ℕ) (found i : Insn) → IsBytes bytes → wide_branch_insn (fault.Operand pc) pc how bytes ≡ Ok (found, rest) → with_places pcs found ≡ Some i → Found pool major pcs pc (opcode.BranchWide how) bytes rest i
wide_branch_found pool major pcs pc how bytes rest found i are h placed =
    let o = u4_step (fault.Operand pc) bytes _ (found, rest) are h in
    let target = target_of pc (signed w32 o.n) in
    ended pool major pcs pc (opcode.BranchWide how) (u4 o.n) o.rest bytes rest (insn.Branch how (target_of pc (signed w32 o.n))) found i o.are o.goes placed o.whole
    (λ j e. branch_placed pcs how target j (λ k. Behind pool major pcs pc (opcode.BranchWide how) (u4 o.n) k) e (λ place leads. branch_wide o.n (o.fits, leads)))

increment_found : (pool : List Constant) (major : ℕ) (pcs : List ℕ) (pc : ℕ) (bytes rest : List ℕ) (found i : Insn) → IsBytes bytes → operands_at pool major pc opcode.Increment bytes ≡ Ok (found, rest) → with_places pcs found ≡ Some i → Found pool major pcs pc opcode.Increment bytes rest i
unfolding operands_at with_places
increment_found pool major pcs pc bytes rest found i are h placed =
    let n = u1_step (fault.Operand pc) bytes _ (found, rest) are h in
    let m = u1_step (fault.Operand pc) n.rest _ (found, rest) n.are n.goes in
    plain pool major pcs pc opcode.Increment (n.n ∷ m.n ∷ []) m.rest bytes rest (insn.Simple (simple.Increment n.n (signed w8 m.n))) found i m.are m.goes placed (n.whole ∙ ap (λ (x : List ℕ). n.n ∷ x) m.whole) refl (increment n.n m.n n.fits m.fits)

multi_new_array_found : (pool : List Constant) (major : ℕ) (pcs : List ℕ) (pc : ℕ) (bytes rest : List ℕ) (found i : Insn) → IsBytes bytes → multi_new_array_insn (fault.Operand pc) pool bytes ≡ Ok (found, rest) → with_places pcs found ≡ Some i → Found pool major pcs pc opcode.MultiNewArray bytes rest i
unfolding with_places
multi_new_array_found pool major pcs pc bytes rest found i are h placed =
    let n = u2_step (fault.Operand pc) bytes _ (found, rest) are h in
    let c = u1_step (fault.Operand pc) n.rest _ (found, rest) n.are n.goes in
    let test = tested (is_dimensions c.n (class_name_at pool n.n)) (fault.Operand pc) _ (found, rest) c.goes in
    let whole : bytes ≡ (u2 n.n ++ c.n ∷ []) ++ c.rest = n.whole ∙ ap (λ (x : List ℕ). u2 n.n ++ x) c.whole ∙ sym (append_assoc (u2 n.n) (c.n ∷ []) c.rest) in
    plain pool major pcs pc opcode.MultiNewArray (u2 n.n ++ c.n ∷ []) c.rest bytes rest (insn.MultiNewArray n.n c.n) found i c.are test.1 placed whole refl (multi_new_array n.n c.n n.fits c.fits test.0)

-- A number of two bytes that passes a test.
abbrev tested_read : ClassFault → (ℕ → Bool) → (ℕ → Insn) → List ℕ → Read
tested_read cut test read bytes = u2_at cut bytes >>= λ n. (want (test n.0) cut >>= λ _. Ok (read n.0, n.1))

tested_found : (pool : List Constant) (major : ℕ) (pcs : List ℕ) (pc : ℕ) (form : Opcode) (test : ℕ → Bool) (read : ℕ → Insn) (bytes rest : List ℕ) (found i : Insn) → ((n : ℕ) → with_places pcs (read n) ≡ Some (read n)) → ((n : ℕ) → IsU2 n → IsTrue (test n) → Behind pool major pcs pc form (u2 n) (read n)) → IsBytes bytes
    → tested_read (fault.Operand pc) test read bytes ≡ Ok (found, rest) → with_places pcs found ≡ Some i → Found pool major pcs pc form bytes rest i
tested_found pool major pcs pc form test read bytes rest found i same behind are h placed =
    let n = u2_step (fault.Operand pc) bytes _ (found, rest) are h in
    let t = tested (test n.n) (fault.Operand pc) _ (found, rest) n.goes in
    plain pool major pcs pc form (u2 n.n) n.rest bytes rest (read n.n) found i n.are t.1 placed n.whole (same n.n) (behind n.n n.fits t.0)

operands_found : (pool : List Constant) (major : ℕ) (pcs : List ℕ) (pc : ℕ) (form : Opcode) (bytes rest : List ℕ) (found i : Insn) → IsBytes bytes → operands_at pool major pc form bytes ≡ Ok (found, rest) → with_places pcs found ≡ Some i → Found pool major pcs pc form bytes rest i
unfolding operands_at with_places
operands_found pool major pcs pc (opcode.Alone s) bytes rest found i are h placed =
    plain pool major pcs pc (opcode.Alone s) [] bytes bytes rest (insn.Simple s) found i are h placed refl refl alone
operands_found pool major pcs pc opcode.PushByte bytes rest found i are h placed =
    let n = u1_step (fault.Operand pc) bytes _ (found, rest) are h in
    plain pool major pcs pc opcode.PushByte (n.n ∷ []) n.rest bytes rest (insn.Simple (simple.Push (push.Int (signed w8 n.n)))) found i n.are n.goes placed n.whole refl (push_byte n.n n.fits)
operands_found pool major pcs pc opcode.PushShort bytes rest found i are h placed =
    let n = u2_step (fault.Operand pc) bytes _ (found, rest) are h in
    plain pool major pcs pc opcode.PushShort (u2 n.n) n.rest bytes rest (insn.Simple (simple.Push (push.Int (signed w16 n.n)))) found i n.are n.goes placed n.whole refl (push_short n.n n.fits)
operands_found pool major pcs pc opcode.Constant bytes rest found i are h placed =
    let n = u1_step (fault.Operand pc) bytes _ (found, rest) are h in
    let t = tested (passes (is_loadable major) (entry pool n.n)) (fault.Operand pc) _ (found, rest) n.goes in
    plain pool major pcs pc opcode.Constant (n.n ∷ []) n.rest bytes rest (insn.Constant n.n) found i n.are t.1 placed n.whole refl (load n.n n.fits t.0)
operands_found pool major pcs pc opcode.ConstantWide bytes rest found i are h placed =
    tested_found pool major pcs pc opcode.ConstantWide (λ n. passes (is_loadable major) (entry pool n)) (λ n. insn.Constant n) bytes rest found i (λ n. refl) load_wide are h placed
operands_found pool major pcs pc opcode.ConstantLong bytes rest found i are h placed =
    tested_found pool major pcs pc opcode.ConstantLong (λ n. passes is_wide_loadable (entry pool n)) (λ n. insn.Constant n) bytes rest found i (λ n. refl) load_long are h placed
operands_found pool major pcs pc (opcode.Local how) bytes rest found i are h placed =
    let n = u1_step (fault.Operand pc) bytes _ (found, rest) are h in
    plain pool major pcs pc (opcode.Local how) (n.n ∷ []) n.rest bytes rest (insn.Simple (simple.Local how n.n)) found i n.are n.goes placed n.whole refl (local n.n n.fits)
operands_found pool major pcs pc opcode.Increment bytes rest found i are h placed = increment_found pool major pcs pc bytes rest found i are h placed
operands_found pool major pcs pc (opcode.Branch how) bytes rest found i are h placed = branch_found pool major pcs pc how bytes rest found i are h placed
operands_found pool major pcs pc (opcode.BranchWide how) bytes rest found i are h placed = wide_branch_found pool major pcs pc how bytes rest found i are h placed
operands_found pool major pcs pc opcode.TableSwitch bytes rest found i are h placed = table_or_fault pool major pcs pc bytes rest found i are h placed
operands_found pool major pcs pc opcode.LookupSwitch bytes rest found i are h placed = lookup_or_fault pool major pcs pc bytes rest found i are h placed
operands_found pool major pcs pc (opcode.Field how) bytes rest found i are h placed =
    tested_found pool major pcs pc (opcode.Field how) (λ n. passes is_field (entry pool n)) (λ n. insn.Field how n) bytes rest found i (λ n. refl) field are h placed
operands_found pool major pcs pc (opcode.Invoke how) bytes rest found i are h placed = invoke_found pool major pcs pc how bytes rest found i are h placed
operands_found pool major pcs pc (opcode.Class how) bytes rest found i are h placed =
    tested_found pool major pcs pc (opcode.Class how) (λ n. names_usable how (class_name_at pool n)) (λ n. insn.Class how n) bytes rest found i (λ n. refl) class are h placed
operands_found pool major pcs pc opcode.NewArray bytes rest found i are h placed = new_array_found pool major pcs pc bytes rest found i are h placed
operands_found pool major pcs pc opcode.Wide bytes rest found i are h placed = wide_found pool major pcs pc bytes rest found i are h placed
operands_found pool major pcs pc opcode.MultiNewArray bytes rest found i are h placed = multi_new_array_found pool major pcs pc bytes rest found i are h placed
operands_found pool major pcs pc opcode.Reserved bytes rest found i are h placed = absurd cc

-- ---- An instruction

-- The bytes that were read are at the front, and spell the instruction.
pub record InsnFound (pool : List Constant) (major : ℕ) (pcs : List ℕ) (pc : ℕ) (bytes rest : List ℕ) (i : Insn) : Type 0 where
  pub first : List ℕ
  pub whole : bytes ≡ first ++ rest
  pub spells : SpellsInsn pool major pcs pc first i
  pub are : IsBytes rest

opcode_found : (pool : List Constant) (major : ℕ) (pcs : List ℕ) (pc code : ℕ) (form : Opcode) (bytes behind rest : List ℕ) (i : Insn) → IsOpcode code form → bytes ≡ code ∷ behind → Found pool major pcs pc form behind rest i → InsnFound pool major pcs pc bytes rest i
opcode_found pool major pcs pc code form bytes behind rest i is whole found = record {
  first = code ∷ found.operands;
  whole = whole ∙ ap (λ (b : List ℕ). code ∷ b) found.whole;
  spells = spelt pool major pcs pc code form found.operands i is found.behind;
  are = found.are;
}

pub insn_or_fault : (pool : List Constant) (major : ℕ) (pcs : List ℕ) (pc : ℕ) (bytes rest : List ℕ) (read i : Insn) → IsBytes bytes → insn_at pool major pc bytes ≡ Ok (read, rest) → with_places pcs read ≡ Some i → InsnFound pool major pcs pc bytes rest i
unfolding insn_at
insn_or_fault pool major pcs pc bytes rest read i are h placed =
    let c = u1_step (fault.Operand pc) bytes _ (read, rest) are h in
    let f = there (slice_get OPCODES c.n) (fault.Opcode pc) _ (read, rest) c.goes in
    opcode_found pool major pcs pc c.n f.value bytes c.rest rest i f.is c.whole (operands_found pool major pcs pc f.value c.rest rest read i c.are f.goes placed)
