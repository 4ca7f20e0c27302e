-- Attributes as they are written (JVMS 4.7). All but a method's code have one spelling.
use Rattle.std.proofs.Common.{◌≡◌, ℕ, List, [], ◌∷◌, ◌++◌, length, Some, refl, sym, ap, subst, ◌∙◌}
use Rattle.std.specs.Prelude.{zero, suc, slice_get, unwrap_or, codes, IsTrue}
use Rattle.jvms_file.specs.declared.class_file.Constant.{Constant}
use Rattle.jvms_file.specs.declared.class_file.KeptAttribute.{KeptAttribute}
use Rattle.jvms_file.specs.declared.class_file.FieldAttribute.{FieldAttribute}
use Rattle.jvms_file.specs.declared.class_file.FieldAttribute.TheVariants as field_attribute
use Rattle.jvms_file.specs.declared.class_file.MethodAttribute.{MethodAttribute}
use Rattle.jvms_file.specs.declared.class_file.MethodAttribute.TheVariants as method_attribute
use Rattle.jvms_file.specs.declared.class_file.Handler.{Handler}
use Rattle.jvms_file.specs.declared.class_file.Layout.{Layout}
use Rattle.jvms_file.specs.declared.class_file.Code.{Code}
use Rattle.jvms_file.specs.Code.{with_zero_pads, layout_of}
use Rattle.jvms_file.specs.Members.{is_code_length}
use Rattle.jvms_file.specs.Spelling.{u2, u4, IsU4, Counted, SpellsInsns, SpellsKept, SpellsFramed, SpellsFieldAttribute, SpellsHandler, SpellsCode, SpellsClassNumber, SpellsMethodAttribute}
use Rattle.classfile_laws.proofs.Numbers.{length-u4}
use Rattle.classfile_laws.proofs.InsnPads.{zero_pads_spell, zero_pads_length, zero_pads_again}
use Rattle.class_file.specs.Writing.{counted_bytes, framed_bytes, kept_bytes, field_attribute_bytes, pc_of, handler_bytes, code_bytes, method_attribute_bytes}
use Rattle.class_file.proofs.WrittenLists.{InPlace, one_spelling, joined_size, counted_written}

-- ---- Attributes with names

-- A kept attribute.
pub kept_written : (pool : List Constant) (bytes : List ℕ) (a : KeptAttribute) → SpellsKept pool bytes a → InPlace (λ w. SpellsKept pool w a) bytes (kept_bytes a)
unfolding kept_bytes
kept_written pool bytes a s = one_spelling (λ w. SpellsKept pool w a) bytes (kept_bytes a) s.3 s

-- An attribute whose content is written in place of the one that was read.
framed_written : (pool : List Constant) (name_text : List ℕ) (name : ℕ) (bytes : List ℕ) (Content : List ℕ → Type 0) (now : List ℕ) → ((content : List ℕ) → Content content → InPlace Content content now) → SpellsFramed pool name_text name bytes Content → InPlace (λ w. SpellsFramed pool name_text name w Content) bytes (framed_bytes name now)
framed_written pool name_text name bytes Content now writes s =
    let content = s.2 in
    let inner = writes content s.4 in
    record {
      spells = (s.0, s.1, now, subst IsU4 (sym inner.size) s.3, inner.spells, refl);
      size =
          joined_size (u2 name) (u4 (length now) ++ now) (u2 name) (u4 (length content) ++ content) refl (joined_size (u4 (length now)) now (u4 (length content)) content (length-u4 (length now) ∙ sym (length-u4 (length content))) inner.size)
          ∙ ap length (sym s.5);
    }

-- ---- Fields

-- An attribute of a field.
pub field_attribute_written : (pool : List Constant) (descriptor : ℕ) (bytes : List ℕ) (a : FieldAttribute) → SpellsFieldAttribute pool descriptor bytes a → InPlace (λ w. SpellsFieldAttribute pool descriptor w a) bytes (field_attribute_bytes a)
unfolding field_attribute_bytes
field_attribute_written pool descriptor bytes (field_attribute.ConstantValue name value) s =
    framed_written pool (codes "ConstantValue") name bytes _ (u2 value) (λ content inner. one_spelling _ content (u2 value) inner.2 inner) s
field_attribute_written pool descriptor bytes (field_attribute.Kept a) s =
    let kept = kept_written pool bytes a s.0 in
    record { spells = (kept.spells, s.1); size = kept.size }

-- ---- Code

-- The byte of a place.
pc_is : (layout : Layout) (place pc : ℕ) → slice_get layout.starts place ≡ Some pc → pc_of layout place ≡ pc
pc_is layout place pc e = rw e refl

-- The byte of a range's end.
end_is : (pcs : List ℕ) (n place pc : ℕ) → slice_get (pcs ++ n ∷ []) place ≡ Some pc → unwrap_or (slice_get pcs place) n ≡ pc
end_is [] n zero pc e = cc
end_is [] n (suc place) pc e = absurd cc
end_is (q ∷ pcs) n zero pc e = cc
end_is (q ∷ pcs) n (suc place) pc e = end_is pcs n place pc e

-- An entry of the exception table.
handler_written : (pool : List Constant) (layout : Layout) (bytes : List ℕ) (h : Handler) → SpellsHandler pool layout.starts (length layout.bytes) bytes h → InPlace (λ w. SpellsHandler pool layout.starts (length layout.bytes) w h) bytes (handler_bytes layout h)
unfolding handler_bytes
handler_written pool layout bytes h s =
    let start = pc_is layout h.start s.0 s.8 in
    let end = end_is layout.starts (length layout.bytes) h.end s.1 s.9 in
    let target = pc_is layout h.target s.2 s.10 in
    one_spelling (λ w. SpellsHandler pool layout.starts (length layout.bytes) w h) bytes (handler_bytes layout h) (rw (start, end, target) s.12) s

-- The content of a Code attribute: its bytes are those that were read, with pads set to 0.
code_written : (pool : List Constant) (major : ℕ) (bytes : List ℕ) (c : Code) → SpellsCode pool major bytes c → InPlace (λ w. SpellsCode pool major w c) bytes (code_bytes c)
unfolding code_bytes
code_written pool major bytes c s =
    let code = s.2 in
    let pcs = c.layout.starts in
    let now = c.layout.bytes in
    let zeros : now ≡ with_zero_pads pcs c.insns code = ap (λ (l : Layout). l.bytes) s.5 in
    let size : length now ≡ length code = ap length zeros ∙ zero_pads_length pool major pcs code c.insns s.4 in
    let insns : SpellsInsns pool major pcs now c.insns = subst (λ (w : List ℕ). SpellsInsns pool major pcs w c.insns) (sym zeros) (zero_pads_spell pool major pcs code c.insns s.4) in
    let again : with_zero_pads pcs c.insns code ≡ with_zero_pads pcs c.insns now = sym (zero_pads_again pool major pcs code c.insns s.4) ∙ ap (λ (w : List ℕ). with_zero_pads pcs c.insns w) (sym zeros) in
    let layout : c.layout ≡ layout_of pcs c.insns now = s.5 ∙ ap (λ (w : List ℕ). record { bytes = w; starts = pcs }) again in
    let table = counted_written (SpellsHandler pool pcs (length now)) (handler_bytes c.layout) (handler_written pool c.layout) c.handlers s.6 (subst (λ (n : ℕ). Counted (SpellsHandler pool pcs n) s.6 c.handlers) (sym size) s.7) in
    let attributes = counted_written (SpellsKept pool) kept_bytes (kept_written pool) c.attributes s.8 s.9 in
    let handlers = counted_bytes (handler_bytes c.layout) c.handlers in
    let others = counted_bytes kept_bytes c.attributes in
    record {
      spells = (s.0, s.1, now, subst (λ (n : ℕ). IsTrue (is_code_length n)) (sym size) s.3, insns, layout, handlers, table.spells, others, attributes.spells, refl);
      size =
          joined_size (u2 c.max_stack) _ (u2 c.max_stack) _ refl
          (joined_size (u2 c.max_locals) _ (u2 c.max_locals) _ refl
          (joined_size (u4 (length now)) _ (u4 (length code)) _ (ap (λ (n : ℕ). length (u4 n)) size)
          (joined_size now _ code _ size (joined_size handlers others s.6 s.8 table.size attributes.size))))
          ∙ ap length (sym s.10);
    }

-- ---- Methods

-- The number of a class that a method throws.
class_number_written : (pool : List Constant) (bytes : List ℕ) (n : ℕ) → SpellsClassNumber pool bytes n → InPlace (λ w. SpellsClassNumber pool w n) bytes (u2 n)
class_number_written pool bytes n s = one_spelling (λ w. SpellsClassNumber pool w n) bytes (u2 n) s.2 s

-- An attribute of a method.
pub method_attribute_written : (pool : List Constant) (major : ℕ) (bytes : List ℕ) (a : MethodAttribute) → SpellsMethodAttribute pool major bytes a → InPlace (λ w. SpellsMethodAttribute pool major w a) bytes (method_attribute_bytes a)
unfolding method_attribute_bytes
method_attribute_written pool major bytes (method_attribute.Code name c) s =
    framed_written pool (codes "Code") name bytes (λ w. SpellsCode pool major w c) (code_bytes c) (λ content inner. code_written pool major content c inner) s
method_attribute_written pool major bytes (method_attribute.Exceptions name classes) s =
    framed_written pool (codes "Exceptions") name bytes (λ w. Counted (SpellsClassNumber pool) w classes) (counted_bytes u2 classes) (λ content inner. counted_written (SpellsClassNumber pool) u2 (class_number_written pool) classes content inner) s
method_attribute_written pool major bytes (method_attribute.Kept a) s =
    let kept = kept_written pool bytes a s.0 in
    record { spells = (kept.spells, s.1, s.2); size = kept.size }
