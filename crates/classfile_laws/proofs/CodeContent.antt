-- The content of Code (JVMS 4.7.3). Spelled content is read, and read content is spelled so.
use Rattle.std.proofs.Common.{◌≡◌, ℕ, ◌≤◌, true, List, [], ◌++◌, length, Ok, refl, sym, ap, subst, ◌∙◌, arith}
use Rattle.std.specs.Prelude.{nat_lt, nat_le}
use Rattle.std.proofs.lemmas.Bool.{and_parts, leb-true}
use Rattle.std.proofs.lemmas.List.{append-nil}
use Rattle.jvms_file.specs.declared.class_file.Constant.{Constant}
use Rattle.jvms_file.specs.declared.class_file.KeptAttribute.{KeptAttribute}
use Rattle.jvms_file.specs.declared.class_file.Layout.{Layout}
use Rattle.jvms_file.specs.declared.class_file.Code.{Code}
use Rattle.jvms_file.specs.declared.fault.ClassFault.{ClassFault}
use Rattle.jvms_file.specs.declared.fault.ClassFault.TheVariants as fault
use Rattle.jvms_file.specs.Code.{insns_of, layout_of, handlers_of}
use Rattle.jvms_file.specs.Members.{AttributeFrame, handler_at, kept_attributes_at, is_code_length, code_at}
use Rattle.jvms_file.specs.Spelling.{u2, u4, IsU2, IsU4, Counted, SpellsKept, SpellsHandler, SpellsCode}
use Rattle.classfile_laws.proofs.Numbers.{IsBytes, u2_again, u4_again, bytes_again}
use Rattle.classfile_laws.proofs.Steps.{answered, step, want_step, u2_step, u4_step, bytes_step, found_step}
use Rattle.classfile_laws.proofs.Lists.{Any, counted_then, counted_step}
use Rattle.classfile_laws.proofs.Attributes.{kept_attributes_again, kept_attributes_found, whole_frame, want_all_step}
use Rattle.classfile_laws.proofs.InsnStarts.{starts_of}
use Rattle.classfile_laws.proofs.Codes.{spelled_insns_are_read, read_insns_are_spelled}
use Rattle.classfile_laws.proofs.Handlers.{SpellsBounds, bounds_again, bounds_found, handlers_again, handlers_found}

-- The length of code has four bytes.
code_length_fits : (n : ℕ) → is_code_length n ≡ true → IsU4 n
code_length_fits n e = let most : n ≤ 65535 = leb-true n 65535 (and_parts (nat_lt 0 n) (nat_le n 65535) e).1 in omega arith

-- ---- Spelled content is read.

-- Attributes that are all of the remaining bytes.
last_attributes : (pool : List Constant) (cut : ClassFault) (bytes : List ℕ) (attributes : List KeptAttribute) → Counted (SpellsKept pool) bytes attributes → kept_attributes_at pool cut bytes ≡ Ok (attributes, [])
last_attributes pool cut bytes attributes s = ap (kept_attributes_at pool cut) (sym (append-nil bytes)) ∙ kept_attributes_again pool cut attributes bytes [] s

-- Code that is spelled is read in its frame.
pub code_again : (pool : List Constant) (major : ℕ) → (content : List ℕ) (c : Code) (rest : List ℕ) → SpellsCode pool major content c → code_at pool major (whole_frame content rest) ≡ Ok (c, rest)
unfolding code_at
code_again pool major content c rest s =
    let cut = fault.AttributeLength in
    let code = s.2 in
    let table = s.6 in
    let attributes = s.8 in
    let pcs = c.layout.starts in
    let handlers = s.7 in
    let two = handlers.1 in
    let places = handlers_again pool pcs (length code) two.1 c.handlers (starts_of pool major pcs code c.insns s.4) two.4 in
    let bounds : Counted (SpellsBounds pool) table places.bounds =
    (subst IsU2 (sym places.count) handlers.0, (two.0, two.1, two.2, two.3 ∙ ap u2 (sym places.count), places.spells)) in
    rw (
      s.10,
      u2_again cut c.max_stack (u2 c.max_locals ++ (u4 (length code) ++ (code ++ (table ++ attributes)))) s.0,
      u2_again cut c.max_locals (u4 (length code) ++ (code ++ (table ++ attributes))) s.1,
      u4_again cut (length code) (code ++ (table ++ attributes)) (code_length_fits (length code) s.3),
      s.3,
      bytes_again cut code (table ++ attributes),
    )
    (counted_then (SpellsBounds pool) Any (λ seen. handler_at pool cut) (λ seen h after first behind good one. bounds_again pool cut first h behind one) cut places.bounds table attributes _ tt bounds
    ∙ rw (last_attributes pool cut attributes c.attributes s.9, spelled_insns_are_read pool major code c.insns pcs s.4, places.places)
    (ap (λ (l : Layout). Ok (record { max_stack = c.max_stack; max_locals = c.max_locals; layout = l; insns = c.insns; handlers = c.handlers; attributes = c.attributes }, rest)) (sym s.5)))

-- ---- Read content is spelled so.

-- Code that was read in a frame.
pub record FoundCode (pool : List Constant) (major : ℕ) (frame : AttributeFrame) (c : Code) (rest : List ℕ) : Type 0 where
  pub whole : frame.whole ≡ true
  pub spells : SpellsCode pool major frame.content c
  pub behind : frame.after ≡ rest

-- Code that was read in a frame is all of its content.
pub code_found : (pool : List Constant) (major : ℕ) → (frame : AttributeFrame) (c : Code) (rest : List ℕ) → IsBytes frame.content → code_at pool major frame ≡ Ok (c, rest) → FoundCode pool major frame c rest
unfolding code_at
code_found pool major frame c rest are e =
    u2_step frame.cut frame.content _ _ are e (λ max_stack r1 fits1 parts1 left1 e1.
    u2_step frame.cut r1 _ _ left1 e1 (λ max_locals r2 fits2 parts2 left2 e2.
    u4_step frame.cut r2 _ _ left2 e2 (λ n r3 fits3 parts3 left3 e3.
    want_step (is_code_length n) fault.CodeLength _ _ e3 (λ size e4.
    bytes_step frame.cut n r3 _ _ left3 e4 (λ code r4 length_is parts4 coded left4 e5.
    counted_step (SpellsBounds pool) Any (λ seen. handler_at pool frame.cut) (λ seen front h behind good these one. (bounds_found pool frame.cut front h behind these one, tt)) frame.cut r4 _ _ tt left4 e5 (λ bounds table r5 bounded good parts5 left5 e6.
    found_step (Counted (SpellsKept pool)) r5 (kept_attributes_at pool frame.cut r5) _ _ (λ xs behind is. kept_attributes_found pool frame.cut xs r5 behind left5 is) e6 (λ attributes kept r6 kept_are parts6 left6 e7.
    want_all_step frame r6 _ _ e7 (λ none whole e8.
    step (insns_of pool major code) _ _ e8 (λ insns insns_are e9.
    step (handlers_of insns.0 n bounds) _ _ e9 (λ handlers handlers_are last.
    let pcs = insns.0 in
    let made : Code = record { max_stack = max_stack; max_locals = max_locals; layout = layout_of pcs insns.1 code; insns = insns.1; handlers = handlers; attributes = attributes } in
    let same = answered made c frame.after rest last in
    let sized : is_code_length (length code) ≡ true = subst (λ (k : ℕ). is_code_length k ≡ true) (sym length_is) size in
    let two = bounded.1 in
    let placed = handlers_found pool pcs n two.1 bounds handlers two.4 handlers_are in
    let spelled : Counted (SpellsHandler pool pcs (length code)) table handlers =
    subst (λ (k : ℕ). Counted (SpellsHandler pool pcs k) table handlers) (sym length_is) (subst IsU2 placed.size bounded.0, (two.0, two.1, two.2, two.3 ∙ ap u2 placed.size, placed.spells)) in
    let all : frame.content ≡ u2 max_stack ++ (u2 max_locals ++ (u4 (length code) ++ (code ++ (table ++ kept)))) =
    parts1
    ∙ ap (λ (w : List ℕ). u2 max_stack ++ w) (parts2
    ∙ ap (λ (w : List ℕ). u2 max_locals ++ w) (parts3
    ∙ ap (λ (k : ℕ). u4 k ++ r3) (sym length_is)
    ∙ ap (λ (w : List ℕ). u4 (length code) ++ w) (parts4
    ∙ ap (λ (w : List ℕ). code ++ w) (parts5
    ∙ ap (λ (w : List ℕ). table ++ w) (parts6 ∙ ap (λ (w : List ℕ). kept ++ w) none ∙ append-nil kept))))) in
    record {
      whole = whole;
      spells = subst (SpellsCode pool major frame.content) same.0 (fits1, fits2, code, sized, read_insns_are_spelled pool major code insns.1 pcs coded insns_are, refl, table, spelled, kept, kept_are, all);
      behind = same.1;
    }))))))))))
