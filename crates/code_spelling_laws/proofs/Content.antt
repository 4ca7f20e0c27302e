-- Proves that bytes spell the whole code of a method (JVMS 4.7.3).
use Rattle.std.proofs.Common.{◌≡◌, ℕ, ◌≤◌, true, false, List, [], ◌++◌, length, Ok, refl, sym, ap, subst, arith}
use Rattle.std.specs.Prelude.{not, nat_lt, nat_le}
use Rattle.std.specs.List.{list_any, AllByRecursion}
use Rattle.std.proofs.lemmas.Bool.{and_parts, or_parts, leb-true, ltb-false, not-true}
use Rattle.std.proofs.lemmas.List.{append-nil}
use Rattle.jvms_file.specs.declared.class_file.Constant.{Constant}
use Rattle.jvms_file.specs.declared.class_file.Code.{Code}
use Rattle.jvms_file.specs.declared.class_file.Layout.{Layout}
use Rattle.jvms_file.specs.Members.{is_code_length}
use Rattle.jvms_file.specs.Code.{layout_of}
use Rattle.jvms_file.specs.Spelling.{u2, u4, IsU2, Counted, SpellsHandler, SpellsCode}
use Rattle.jasmin.specs.declared.source.MethodLines.{MethodLines}
use Rattle.jasmin.specs.Denote.{operations}
use Rattle.jasmin.specs.Assembling.{labels_of, marks_no_instruction, has_bad_label, has_undefined_label, has_bad_range, is_too_many}
use Rattle.source_form_laws.specs.Formed.{IsFormedItem}
use Rattle.assembly.specs.declared.fault.AsmFault.TheVariants as fault
use Rattle.assembly.specs.Named.{AreOperands, AreCaught}
use Rattle.assembly.specs.Sizes.{any_too_far, code_length, starts_of}
use Rattle.assembly.specs.Bytes.{bytes_from}
use Rattle.assembly.specs.CodeOf.{insns_from, handlers_from, code_of, code_within}
use Rattle.classfile_laws.proofs.Steps.{want_step}
use Rattle.code_spelling_laws.proofs.Labels.{Begun, formed_operations, labels_lead}
use Rattle.code_spelling_laws.proofs.Starts.{starts_rise, starts_count, bytes_length}
use Rattle.code_spelling_laws.proofs.Operations.{operations_are_spelled}
use Rattle.code_spelling_laws.proofs.ZeroPads.{operations_stay}
use Rattle.code_spelling_laws.proofs.Handlers.{handlers_are_spelled, handlers_count}

-- ---- Parts

-- In code of an allowed length, the starts are known.
begun_of : (pool : List Constant) (m : MethodLines) (operands : List ℕ) → AreOperands pool operands (operations m.code) → is_code_length (code_length operands m.code) ≡ true → Begun (starts_of operands m.code) m.code (code_length operands m.code)
begun_of pool m operands named sized = record {
  count = starts_count pool 0 operands (operations m.code) named;
  rise = starts_rise 0 0 operands (operations m.code) (omega arith);
  few = leb-true (code_length operands m.code) 65535 (and_parts (nat_lt 0 (code_length operands m.code)) (nat_le (code_length operands m.code) 65535) sized).1;
}

-- The layout has the bytes.
layout_is : (m : MethodLines) (operands : List ℕ) → layout_of (starts_of operands m.code) (insns_from m.code operands (operations m.code)) (bytes_from (starts_of operands m.code) m.code operands (starts_of operands m.code) (operations m.code)) ≡ record { bytes = bytes_from (starts_of operands m.code) m.code operands (starts_of operands m.code) (operations m.code); starts = starts_of operands m.code }
layout_is m operands = ap laid (operations_stay (starts_of operands m.code) m.code 0 operands (operations m.code) [] refl)
  where
    laid : List ℕ → Layout
    laid bytes = record { bytes = bytes; starts = starts_of operands m.code }

-- Bytes spell the table of a method's handlers.
table_is_spelled : (pool : List Constant) (m : MethodLines) (starts caught : List ℕ) (n : ℕ) → Begun starts m.code n → AreCaught pool caught m.catches → list_any (has_bad_label m.code) m.catches ≡ false → has_bad_range m ≡ false → is_too_many m.catches ≡ false
    → (table : List ℕ) × Counted (SpellsHandler pool starts n) table (handlers_from m.code caught m.catches)
table_is_spelled pool m starts caught n begun named labels ranges many =
    let handlers = handlers_from m.code caught m.catches in
    let count : length handlers ≡ length m.catches = handlers_count pool m.code caught m.catches named in
    let few : length m.catches ≤ 65535 = ltb-false 65535 (length m.catches) many in
    let spelled = handlers_are_spelled pool starts m.code n begun caught m.catches named labels ranges in
    (u2 (length handlers) ++ spelled.0, (omega arith, (u2 (length handlers), spelled.0, refl, refl, spelled.1)))

-- ---- The whole

made_is_spelled : (pool : List Constant) (m : MethodLines) (operands caught : List ℕ) → AreOperands pool operands (operations m.code) → AreCaught pool caught m.catches → AllByRecursion IsFormedItem m.code → IsU2 m.max_stack → IsU2 m.max_locals → has_undefined_label m ≡ false → has_bad_range m ≡ false → is_too_many m.catches ≡ false
    → is_code_length (code_length operands m.code) ≡ true → any_too_far (starts_of operands m.code) m.code (starts_of operands m.code) (operations m.code) ≡ false → (content : List ℕ) × SpellsCode pool 49 content (code_of operands caught m)
made_is_spelled pool m operands caught named handled formed stack locals labels ranges many sized near =
    let os = operations m.code in
    let starts = starts_of operands m.code in
    let n = code_length operands m.code in
    let bytes = bytes_from starts m.code operands starts os in
    let is = insns_from m.code operands os in
    let begun = begun_of pool m operands named sized in
    let parts = or_parts (list_any (λ o. list_any (marks_no_instruction m.code) (labels_of o)) os) (list_any (has_bad_label m.code) m.catches) labels in
    let to = labels_lead starts m.code n begun os parts.0 in
    let spells = operations_are_spelled pool starts m.code 0 operands os begun.few named (formed_operations m.code formed) to near in
    let size : length bytes ≡ n = omega (arith, bytes_length starts m.code 0 operands os) in
    let table = table_is_spelled pool m starts caught n begun handled parts.1 ranges many in
    let handlers = subst (λ (k : ℕ). Counted (SpellsHandler pool starts k) table.0 (handlers_from m.code caught m.catches)) (sym size) table.1 in
    let long : is_code_length (length bytes) ≡ true = subst (λ (k : ℕ). is_code_length k ≡ true) (sym size) sized in (
      u2 m.max_stack ++ (u2 m.max_locals ++ (u4 (length bytes) ++ (bytes ++ (table.0 ++ u2 0)))),
      (stack, locals, bytes, long, spells, sym (layout_is m operands), table.0, handlers, u2 0, (omega arith, (u2 0, [], sym (append-nil (u2 0)), refl, refl)), refl),
    )

pub code_is_spelled : (pool : List Constant) (m : MethodLines) (operands caught : List ℕ) (code : Code) → AreOperands pool operands (operations m.code) → AreCaught pool caught m.catches → AllByRecursion IsFormedItem m.code → IsU2 m.max_stack → IsU2 m.max_locals → has_undefined_label m ≡ false → has_bad_range m ≡ false → is_too_many m.catches ≡ false
    → code_within operands caught m ≡ Ok code → (content : List ℕ) × SpellsCode pool 49 content code
unfolding code_within
code_is_spelled pool m operands caught code named handled formed stack locals labels ranges many is =
    want_step (is_code_length (code_length operands m.code)) fault.CodeLength _ code is (λ sized next.
    want_step (not (any_too_far (starts_of operands m.code) m.code (starts_of operands m.code) (operations m.code))) fault.BranchTooFar _ code next (λ near last.
    let same : code_of operands caught m ≡ code = cc in
    subst (λ (c : Code). (content : List ℕ) × SpellsCode pool 49 content c) same
    (made_is_spelled pool m operands caught named handled formed stack locals labels ranges many sized (not-true (any_too_far (starts_of operands m.code) m.code (starts_of operands m.code) (operations m.code)) near))))
