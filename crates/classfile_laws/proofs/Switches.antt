-- The place of a switch's default, and the number of bytes of a switch.
use Rattle.std.proofs.Common.{◌≡◌, ℕ, ◌+◌, ◌*◌, ◌-◌, ◌%◌, ◌≤◌, List, [], ◌∷◌, ◌++◌, length, ap, ◌∙◌, arith, length-append}
use Rattle.jvms_file.specs.declared.insn.SwitchCase.{SwitchCase}
use Rattle.jvms_file.specs.declared.insn.TableSwitch.{TableSwitch}
use Rattle.jvms_file.specs.declared.insn.LookupSwitch.{LookupSwitch}
use Rattle.jvms_file.specs.Spelling.{u4, InOrder, SpellsTarget, SpellsCase, SpellsTable, SpellsLookup}
use Rattle.classfile_laws.specs.Switches.{HasAlignedDefault}
use Rattle.classfile_laws.proofs.Numbers.{length-u4}

targets_size : (pcs : List ℕ) (pc : ℕ) (bytes targets : List ℕ) → InOrder (SpellsTarget pcs pc) bytes targets → length bytes ≡ 4 * length targets
targets_size pcs pc bytes [] none = ap length none
targets_size pcs pc bytes (t ∷ ts) two =
    let others = targets_size pcs pc two.1 ts two.4 in
    let one : length two.0 ≡ 4 = ap length (two.3).2 ∙ length-u4 (two.3).0 in
    let all : length bytes ≡ length two.0 + length two.1 = ap length two.2 ∙ length-append two.0 two.1 in
    omega (arith, others, one, all)

cases_size : (pcs : List ℕ) (pc : ℕ) (bytes : List ℕ) (cases : List SwitchCase) → InOrder (SpellsCase pcs pc) bytes cases → length bytes ≡ 8 * length cases
cases_size pcs pc bytes [] none = ap length none
cases_size pcs pc bytes (c ∷ cs) two =
    let others = cases_size pcs pc two.1 cs two.4 in
    let case = two.3 in
    let one : length two.0 ≡ length (u4 case.0) + length (u4 case.3) = ap length case.5 ∙ length-append (u4 case.0) (u4 case.3) in
    let all : length bytes ≡ length two.0 + length two.1 = ap length two.2 ∙ length-append two.0 two.1 in
    omega (arith, others, one, all, length-u4 case.0, length-u4 case.3)

next_multiple : (pc : ℕ) → (pc + (1 + (3 - pc % 4))) % 4 ≡ 0
next_multiple pc = omega arith

few_pads : (pc : ℕ) → 3 - pc % 4 ≤ 3
few_pads pc = omega arith

pub table_aligned : (pcs : List ℕ) (pc : ℕ) (bytes : List ℕ) (s : TableSwitch) → SpellsTable pcs pc bytes s → HasAlignedDefault pcs pc bytes s.default (8 + 4 * length s.targets)
table_aligned pcs pc bytes s t =
    let front : length (t.0 ∷ t.2) ≡ 1 + (3 - pc % 4) = omega (arith, t.3) in
    record {
      front = t.0 ∷ t.2;
      behind_opcode = omega (arith, front);
      first = omega (arith, front, few_pads pc);
      aligned = ap (λ n. (pc + n) % 4) front ∙ next_multiple pc;
      offset = t.4;
      leads = t.5;
      rest = u4 t.6 ++ (u4 t.9 ++ t.13);
      parts = t.15;
      count = omega (arith, length-append (u4 t.6) (u4 t.9 ++ t.13), length-append (u4 t.9) t.13, length-u4 t.6, length-u4 t.9, targets_size pcs pc t.13 s.targets t.14);
    }

pub lookup_aligned : (pcs : List ℕ) (pc : ℕ) (bytes : List ℕ) (s : LookupSwitch) → SpellsLookup pcs pc bytes s → HasAlignedDefault pcs pc bytes s.default (4 + 8 * length s.cases)
lookup_aligned pcs pc bytes s t =
    let front : length (t.0 ∷ t.2) ≡ 1 + (3 - pc % 4) = omega (arith, t.3) in
    record {
      front = t.0 ∷ t.2;
      behind_opcode = omega (arith, front);
      first = omega (arith, front, few_pads pc);
      aligned = ap (λ n. (pc + n) % 4) front ∙ next_multiple pc;
      offset = t.4;
      leads = t.5;
      rest = u4 (length s.cases) ++ t.8;
      parts = t.10;
      count = omega (arith, length-append (u4 (length s.cases)) t.8, length-u4 (length s.cases), cases_size pcs pc t.8 s.cases t.9);
    }

-- The number of bytes of a switch, by the place of its default.
size : (pcs : List ℕ) (pc : ℕ) (bytes : List ℕ) (default behind : ℕ) → HasAlignedDefault pcs pc bytes default behind → (n : ℕ) → 1 ≤ n → n ≤ 4 → (pc + n) % 4 ≡ 0 → length bytes ≡ n + 4 + behind
size pcs pc bytes default behind a n some few at =
    let all : length bytes ≡ length a.front + length (u4 a.offset ++ a.rest) = ap length a.parts ∙ length-append a.front (u4 a.offset ++ a.rest) in
    let same : length a.front ≡ n = omega (arith, a.behind_opcode, a.first, a.aligned, some, few, at) in
    omega (arith, all, same, length-append (u4 a.offset) a.rest, length-u4 a.offset, a.count)

-- A tableswitch of one target that starts at byte 0, 1, 2 or 3.
pub one_target_size : (pcs : List ℕ) (pc : ℕ) (bytes : List ℕ) (s : TableSwitch) → length s.targets ≡ 1 → SpellsTable pcs pc bytes s → pc ≤ 3 → length bytes ≡ 20 - pc
one_target_size pcs pc bytes s one t few =
    omega (arith, one, few, size pcs pc bytes s.default (8 + 4 * length s.targets) (table_aligned pcs pc bytes s t) (4 - pc) (omega (arith, few)) (omega (arith, few)) (omega (arith, few)))
