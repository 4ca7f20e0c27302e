-- Fields and their attributes (JVMS 4.5, 4.7.2). Spelled ones are read, and read ones are spelled so.
use Rattle.std.proofs.Common.{◌≡◌, ℕ, Bool, true, false, not, List, [], ◌∷◌, ◌++◌, length, is_some, Ok, refl, sym, ap, subst, ◌∙◌, append_assoc}
use Rattle.std.specs.Prelude.{codes}
use Rattle.std.specs.List.{list_any}
use Rattle.std.proofs.lemmas.Bool.{not-true}
use Rattle.std.proofs.lemmas.List.{append-nil}
use Rattle.jvms_file.specs.declared.class_file.Constant.{Constant}
use Rattle.jvms_file.specs.declared.class_file.FieldAttribute.{FieldAttribute}
use Rattle.jvms_file.specs.declared.class_file.FieldAttribute.TheVariants as field_attribute
use Rattle.jvms_file.specs.declared.class_file.FieldInfo.{FieldInfo}
use Rattle.jvms_file.specs.declared.fault.ClassFault.{ClassFault}
use Rattle.jvms_file.specs.declared.fault.ClassFault.TheVariants as fault
use Rattle.jvms_file.specs.Names.{is_name}
use Rattle.jvms_file.specs.Descriptors.{field_type_of}
use Rattle.jvms_file.specs.ConstantPool.{entry, utf8_at, is_utf8}
use Rattle.jvms_file.specs.Members.{kept_content_at, is_named, is_constant_of, constant_value_at, is_constant_value, field_attribute_at, is_text_with, is_same_field, field_at, fields_at}
use Rattle.jvms_file.specs.Spelling.{u2, u4, IsU2, Counted, AtMostOne, IsDistinctBy, SpellsFieldAttribute, SpellsField}
use Rattle.classfile_laws.proofs.Numbers.{IsBytes, u2_again}
use Rattle.classfile_laws.proofs.Steps.{Found, answered, choose, joined, step, want_step, u2_step}
use Rattle.classfile_laws.proofs.Lists.{ReadsEach, FindsEach, counted_again, counted_then, counted_found, counted_step, none_before, one_more, distinct_before, one_more_distinct}
use Rattle.classfile_laws.proofs.Attributes.{named_is_utf8, text_is_utf8, kept_content_again, kept_content_found, kept_parts, whole_frame, frame_again, frame_step, want_all_step, framed_found}

-- ---- Attributes of a field.

-- A ConstantValue's content is read.
constant_value_again : (pool : List Constant) (descriptor name value : ℕ) (content rest : List ℕ) → IsU2 value → is_constant_of (utf8_at pool descriptor) (entry pool value) ≡ true → content ≡ u2 value
    → constant_value_at pool descriptor name (whole_frame content rest) ≡ Ok (field_attribute.ConstantValue name value, rest)
constant_value_again pool descriptor name value content rest fits takes is =
    let all : content ≡ u2 value ++ [] = is ∙ sym (append-nil (u2 value)) in
    rw (all, u2_again fault.AttributeLength value [] fits, takes) refl

-- An attribute of a field is read from its spelling, if at most one is a ConstantValue.
pub field_attribute_again : (pool : List Constant) (cut : ClassFault) (descriptor : ℕ) → ReadsEach (SpellsFieldAttribute pool descriptor) (AtMostOne is_constant_value) (field_attribute_at pool cut descriptor)
field_attribute_again pool cut descriptor seen (field_attribute.ConstantValue name value) after first rest good s =
    let content = s.2 in
    let none : list_any is_constant_value seen ≡ false = none_before is_constant_value seen (field_attribute.ConstantValue name value) after good refl in
    let inner = s.4 in
    rw (s.5, append_assoc (u2 name) (u4 (length content) ++ content) rest, append_assoc (u4 (length content)) content rest, u2_again cut name (u4 (length content) ++ (content ++ rest)) s.0, named_is_utf8 pool name (codes "ConstantValue") s.1, s.1, none, frame_again cut content rest s.3)
    (constant_value_again pool descriptor name value content rest inner.0 inner.1 inner.2)
field_attribute_again pool cut descriptor seen (field_attribute.Kept a) after first rest good s =
    let kept = s.0 in
    rw (kept.3, append_assoc (u2 a.name) (u4 (length a.bytes) ++ a.bytes) rest, append_assoc (u4 (length a.bytes)) a.bytes rest, u2_again cut a.name (u4 (length a.bytes) ++ (a.bytes ++ rest)) kept.0, kept.1, s.1, kept_content_again cut a rest kept.2) refl

-- An attribute of a field is spelled where it was read, and at most one is a ConstantValue.
pub field_attribute_found : (pool : List Constant) (cut : ClassFault) (descriptor : ℕ) → FindsEach (SpellsFieldAttribute pool descriptor) (AtMostOne is_constant_value) (field_attribute_at pool cut descriptor)
field_attribute_found pool cut descriptor seen bytes x rest good are e =
    u2_step cut bytes _ _ are e (λ name behind fits parts left e1.
    want_step (is_utf8 pool name) fault.Index _ _ e1 (λ text e2.
    choose (is_named pool name (codes "ConstantValue")) _ _ _ e2
    (λ named f. want_step (not (list_any is_constant_value seen)) fault.RepeatedAttribute _ _ f (λ fresh f1.
    frame_step cut behind _ _ left f1 (λ frame framing f2.
    u2_step frame.cut frame.content _ _ framing.content f2 (λ value end small inner left2 f3.
    want_step (is_constant_of (utf8_at pool descriptor) (entry pool value)) fault.Index _ _ f3 (λ takes f4.
    want_all_step frame end _ _ f4 (λ none whole last.
    let same = answered (field_attribute.ConstantValue name value) x frame.after rest last in
    let content : frame.content ≡ u2 value = inner ∙ ap (λ (w : List ℕ). u2 value ++ w) none ∙ append-nil (u2 value) in
    let found = framed_found pool (codes "ConstantValue") name bytes behind frame (λ content. IsU2 value × (is_constant_of (utf8_at pool descriptor) (entry pool value) ≡ true) × (content ≡ u2 value)) rest fits named parts framing whole (small, takes, content) same.1 in
    let one = one_more is_constant_value seen (field_attribute.ConstantValue name value) good (λ _. not-true (list_any is_constant_value seen) fresh) in (
      record { first = found.first; parts = found.parts; spells = subst (SpellsFieldAttribute pool descriptor found.first) same.0 found.spells; left = found.left },
      subst (λ (a : FieldAttribute). AtMostOne is_constant_value (seen ++ a ∷ [])) same.0 one,
    )))))))
    (λ other f. step (kept_content_at cut name behind) _ _ f (λ k is last.
    let same = answered (field_attribute.Kept k.0) x k.1 rest last in
    let found = kept_content_found cut name behind k.0 k.1 left is in
    let spells = kept_parts pool name found.first k.0 fits text found.spells in
    let not_named : is_named pool k.0.name (codes "ConstantValue") ≡ false = subst (λ (n : ℕ). is_named pool n (codes "ConstantValue") ≡ false) found.spells.0 other in
    let one = one_more is_constant_value seen (field_attribute.Kept k.0) good (λ passes. absurd cc) in (
      record { first = u2 name ++ found.first; parts = joined (u2 name) found.first rest bytes behind k.1 parts found.parts same.1; spells = subst (SpellsFieldAttribute pool descriptor (u2 name ++ found.first)) same.0 (spells, not_named); left = subst IsBytes same.1 found.left },
      subst (λ (a : FieldAttribute). AtMostOne is_constant_value (seen ++ a ∷ [])) same.0 one,
    )))))

-- ---- Fields.

-- The second field has the name and the descriptor of the first.
abbrev pub same_field : List Constant → FieldInfo → FieldInfo → Bool
same_field pool f g = is_same_field pool g.name g.descriptor f

-- A field is read from its spelling, if no two are the same.
pub field_again : (pool : List Constant) (cut : ClassFault) → ReadsEach (SpellsField pool) (IsDistinctBy (same_field pool)) (field_at pool cut)
unfolding field_at
field_again pool cut seen f after first rest good s =
    let two = s.3 in
    let attributes = two.1 in
    let member = two.3 in
    let fresh : list_any (is_same_field pool f.name f.descriptor) seen ≡ false = distinct_before (same_field pool) seen f after good in
    rw (
      two.2,
      append_assoc two.0 attributes rest,
      member.3,
      append_assoc (u2 f.access) (u2 f.name ++ u2 f.descriptor) (attributes ++ rest),
      append_assoc (u2 f.name) (u2 f.descriptor) (attributes ++ rest),
      u2_again cut f.access (u2 f.name ++ (u2 f.descriptor ++ (attributes ++ rest))) member.0,
      u2_again cut f.name (u2 f.descriptor ++ (attributes ++ rest)) member.1,
      text_is_utf8 pool f.name is_name s.0,
      s.0,
      u2_again cut f.descriptor (attributes ++ rest) member.2,
      text_is_utf8 pool f.descriptor (λ text. is_some (field_type_of text)) s.1,
      s.1,
      fresh,
    )
    (counted_then (SpellsFieldAttribute pool f.descriptor) (AtMostOne is_constant_value) (field_attribute_at pool cut f.descriptor) (field_attribute_again pool cut f.descriptor) cut f.attributes attributes rest _ s.2 two.4)

-- A field is spelled where it was read, and no two are the same.
pub field_found : (pool : List Constant) (cut : ClassFault) → FindsEach (SpellsField pool) (IsDistinctBy (same_field pool)) (field_at pool cut)
unfolding field_at
field_found pool cut seen bytes x rest good are e =
    u2_step cut bytes _ _ are e (λ access r1 fits1 parts1 left1 e1.
    u2_step cut r1 _ _ left1 e1 (λ name r2 fits2 parts2 left2 e2.
    want_step (is_utf8 pool name) fault.Index _ _ e2 (λ _ e3.
    want_step (is_text_with is_name (utf8_at pool name)) fault.Descriptor _ _ e3 (λ named e4.
    u2_step cut r2 _ _ left2 e4 (λ descriptor r3 fits3 parts3 left3 e5.
    want_step (is_utf8 pool descriptor) fault.Index _ _ e5 (λ _ e6.
    want_step (is_text_with (λ text. is_some (field_type_of text)) (utf8_at pool descriptor)) fault.Descriptor _ _ e6 (λ typed e7.
    want_step (not (list_any (is_same_field pool name descriptor) seen)) fault.RepeatedMember _ _ e7 (λ fresh e8.
    counted_step (SpellsFieldAttribute pool descriptor) (AtMostOne is_constant_value) (field_attribute_at pool cut descriptor) (field_attribute_found pool cut descriptor) cut r3 _ _ tt left3 e8 (λ attributes spelled r4 counted one parts4 left4 last.
    let f : FieldInfo = record { access = access; name = name; descriptor = descriptor; attributes = attributes } in
    let same = answered f x r4 rest last in
    let member : bytes ≡ (u2 access ++ (u2 name ++ u2 descriptor)) ++ r3 = joined (u2 access) (u2 name ++ u2 descriptor) r3 bytes r1 r3 parts1 (joined (u2 name) (u2 descriptor) r3 r1 r2 r3 parts2 parts3 refl) refl in (
      record {
        first = (u2 access ++ (u2 name ++ u2 descriptor)) ++ spelled;
        parts = joined (u2 access ++ (u2 name ++ u2 descriptor)) spelled rest bytes r3 r4 member parts4 same.1;
        spells = subst (SpellsField pool ((u2 access ++ (u2 name ++ u2 descriptor)) ++ spelled)) same.0 (named, typed, one, (u2 access ++ (u2 name ++ u2 descriptor), spelled, refl, (fits1, fits2, fits3, refl), counted));
        left = subst IsBytes same.1 left4;
      },
      subst (λ (g : FieldInfo). IsDistinctBy (same_field pool) (seen ++ g ∷ [])) same.0 (one_more_distinct (same_field pool) seen f good (not-true (list_any (is_same_field pool name descriptor) seen) fresh)),
    ))))))))))

-- Fields are read from their spelling.
pub fields_again : (pool : List Constant) (cut : ClassFault) (fields : List FieldInfo) (bytes rest : List ℕ) → IsDistinctBy (same_field pool) fields → Counted (SpellsField pool) bytes fields → fields_at pool cut (bytes ++ rest) ≡ Ok (fields, rest)
fields_again pool cut fields bytes rest distinct s = counted_again (SpellsField pool) (IsDistinctBy (same_field pool)) (field_at pool cut) (field_again pool cut) cut fields bytes rest distinct s

-- Fields are spelled where they were read.
pub fields_found : (pool : List Constant) (cut : ClassFault) (fields : List FieldInfo) (bytes rest : List ℕ) → IsBytes bytes → fields_at pool cut bytes ≡ Ok (fields, rest) → Found (Counted (SpellsField pool)) bytes fields rest × IsDistinctBy (same_field pool) fields
fields_found pool cut fields bytes rest are e = counted_found (SpellsField pool) (IsDistinctBy (same_field pool)) (field_at pool cut) (field_found pool cut) cut fields bytes rest tt are e
