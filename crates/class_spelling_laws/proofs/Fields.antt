-- Proves that bytes spell the fields of an assembled class (JVMS 4.5).
use Rattle.std.proofs.Common.{◌≡◌, ℕ, true, List, [], ◌∷◌, ◌++◌, length, Option, Some, None, is_some, Ok, refl, sym, ap, ◌∙◌, subst, arith}
use Rattle.std.specs.Prelude.{codes}
use Rattle.std.specs.List.{AllByRecursion, AllZip}
use Rattle.jvms_file.specs.declared.class_file.Constant.{Constant}
use Rattle.jvms_file.specs.declared.class_file.Constant.TheVariants as constant
use Rattle.jvms_file.specs.declared.class_file.FieldAttribute.{FieldAttribute}
use Rattle.jvms_file.specs.declared.class_file.FieldAttribute.TheVariants as field_attribute
use Rattle.jvms_file.specs.declared.class_file.FieldInfo.{FieldInfo}
use Rattle.jvms_file.specs.Names.{same_text, is_name}
use Rattle.jvms_file.specs.Descriptors.{field_type_of}
use Rattle.jvms_file.specs.ConstantPool.{entry, utf8_at}
use Rattle.jvms_file.specs.Members.{is_constant_of, is_constant_value, is_text_with, is_same_field}
use Rattle.jvms_file.specs.Spelling.{u2, u4, IsU2, IsU4, AtMostOne, Counted, IsDistinctBy, SpellsFieldAttribute, SpellsField}
use Rattle.jasmin.specs.declared.source.FieldConstant.{FieldConstant}
use Rattle.jasmin.specs.declared.source.FieldConstant.TheVariants as field_constant
use Rattle.jasmin.specs.declared.source.FieldLine.{FieldLine}
use Rattle.jasmin.specs.Reading.{is_field_like}
use Rattle.pool_entries.specs.Entries.{text_entry}
use Rattle.pool_entries.specs.Kept.{IsKept}
use Rattle.pool_entries.specs.Named.{IsString}
use Rattle.pool_entries.proofs.Lookups.{IsKept-reflexive, IsKept-transitive, IsString-kept}
use Rattle.assembly.specs.Assembled.{value_entry, field_attributes, field_info, fields_onto}
use Rattle.source_form_laws.specs.Formed.{IsFormedValue, IsFormedFieldLine}
use Rattle.classfile_laws.proofs.Numbers.{length-u2}
use Rattle.classfile_laws.proofs.Steps.{step}
use Rattle.assembled_entry_laws.proofs.Entries.{string_is_entered, integer_is_entered, long_is_entered}
use Rattle.class_spelling_laws.proofs.Steps.{same_Ok}
use Rattle.class_spelling_laws.proofs.Lists.{IsSpelled, counted, distinct_as, IsOwn, own_none, own_more}
use Rattle.class_spelling_laws.proofs.Names.{same_turned, regrouped}
use Rattle.class_spelling_laws.proofs.Pools.{IsGood}
use Rattle.class_spelling_laws.proofs.Operands.{number_fits, string_good, integer_good, long_good}
use Rattle.class_spelling_laws.proofs.Made.{Made, NamesText, text-kept, text_is_named, text_made}

-- ---- The parts of a field

-- An index is that of a field's constant.
abbrev pub NamesValue : List Constant → ℕ → FieldConstant → Type 0
NamesValue pool n (field_constant.Integer k) = IsU2 n × (entry pool n ≡ Some (constant.Integer k))
NamesValue pool n (field_constant.Long k) = IsU2 n × (entry pool n ≡ Some (constant.Long k))
NamesValue pool n (field_constant.String text) = IsU2 n × IsString pool n text

-- A field that has a constant has a ConstantValue attribute, any other has no attribute.
abbrev pub AreValues : List Constant → List FieldAttribute → Option FieldConstant → Type 0
AreValues pool attributes None = attributes ≡ []
AreValues pool attributes (Some c) =
    (name : ℕ) × (value : ℕ) × (attributes ≡ field_attribute.ConstantValue name value ∷ []) × NamesText pool name (codes "ConstantValue") × NamesValue pool value c

pub record IsFieldOf (pool : List Constant) (info : FieldInfo) (f : FieldLine) : Type 0 where
  pub access : info.access ≡ f.access
  pub name : NamesText pool info.name f.name
  pub descriptor : NamesText pool info.descriptor f.descriptor
  pub values : AreValues pool info.attributes f.constant

-- ---- A growing pool

value-kept : (old new : List Constant) (n : ℕ) (c : FieldConstant) → IsKept old new → NamesValue old n c → NamesValue new n c
value-kept old new n (field_constant.Integer k) kept is = (is.0, kept.stays n _ is.1)
value-kept old new n (field_constant.Long k) kept is = (is.0, kept.stays n _ is.1)
value-kept old new n (field_constant.String text) kept is = (is.0, IsString-kept old new n text kept is.1)

values-kept : (old new : List Constant) (attributes : List FieldAttribute) (c : Option FieldConstant) → IsKept old new → AreValues old attributes c → AreValues new attributes c
values-kept old new attributes None kept is = is
values-kept old new attributes (Some c) kept is =
    (is.0, is.1, is.2, text-kept old new is.0 (codes "ConstantValue") kept is.3, value-kept old new is.1 c kept is.4)

pub field-kept : (old new : List Constant) (info : FieldInfo) (f : FieldLine) → IsKept old new → IsFieldOf old info f → IsFieldOf new info f
field-kept old new info f kept is = record {
  access = is.access;
  name = text-kept old new info.name f.name kept is.name;
  descriptor = text-kept old new info.descriptor f.descriptor kept is.descriptor;
  values = values-kept old new info.attributes f.constant kept is.values;
}

-- ---- Each field has these parts

value_made : (pool new : List Constant) (descriptor : List ℕ) (c : FieldConstant) (n : ℕ) → IsGood pool → IsFormedValue descriptor (Some c) → value_entry pool c ≡ Ok (n, new) → Made pool new (NamesValue new n c)
value_made pool new descriptor (field_constant.Integer k) n good form gives =
    let is = integer_is_entered pool new k n good.few gives in
    record { good = integer_good pool new k n good form.1 gives; kept = is.0.kept; fact = (number_fits pool new n is.0, is.1) }
value_made pool new descriptor (field_constant.Long k) n good form gives =
    let is = long_is_entered pool new k n good.few gives in
    record { good = long_good pool new k n good form.1 gives; kept = is.0.kept; fact = (number_fits pool new n is.0, is.1) }
value_made pool new descriptor (field_constant.String text) n good form gives =
    let is = string_is_entered pool new text n good.few gives in
    record { good = string_good pool new text n good gives; kept = is.0.kept; fact = (number_fits pool new n is.0, is.1) }

-- The result is a list of attributes and a pool.
abbrev ValuesMade : List Constant → Option FieldConstant → List FieldAttribute × List Constant → Type 0
ValuesMade pool c r = Made pool r.1 (AreValues r.1 r.0 c)

values_made : (pool : List Constant) (descriptor : List ℕ) (c : Option FieldConstant) (r : List FieldAttribute × List Constant) → IsGood pool → IsFormedValue descriptor c → field_attributes pool c ≡ Ok r → ValuesMade pool c r
unfolding field_attributes
values_made pool descriptor None r good form gives =
    subst (ValuesMade pool None) (same_Ok ([], pool) r gives) (record { good = good; kept = IsKept-reflexive pool; fact = refl })
values_made pool descriptor (Some c) r good form gives =
    step (text_entry pool (codes "ConstantValue")) _ _ gives λ name named more.
    step (value_entry name.1 c) _ _ more λ value valued made.
    let one = text_made pool name.1 (codes "ConstantValue") name.0 good named in
    let two = value_made name.1 value.1 descriptor c value.0 one.good form valued in
    subst (ValuesMade pool (Some c)) (same_Ok (field_attribute.ConstantValue name.0 value.0 ∷ [], value.1) r made) (record {
      good = two.good;
      kept = IsKept-transitive pool name.1 value.1 one.kept two.kept;
      fact = (name.0, value.0, refl, text-kept name.1 value.1 name.0 (codes "ConstantValue") two.kept one.fact, two.fact);
    })

abbrev FieldMade : List Constant → FieldLine → FieldInfo × List Constant → Type 0
FieldMade pool f r = Made pool r.1 (IsFieldOf r.1 r.0 f)

field_made : (pool : List Constant) (f : FieldLine) (r : FieldInfo × List Constant) → IsGood pool → IsFormedFieldLine f → field_info pool f ≡ Ok r → FieldMade pool f r
unfolding field_info
field_made pool f r good form gives =
    step (text_entry pool f.name) _ _ gives λ name named more.
    step (text_entry name.1 f.descriptor) _ _ more λ descriptor described more2.
    step (field_attributes descriptor.1 f.constant) _ _ more2 λ attributes valued made.
    let one = text_made pool name.1 f.name name.0 good named in
    let two = text_made name.1 descriptor.1 f.descriptor descriptor.0 one.good described in
    let three = values_made descriptor.1 f.descriptor f.constant attributes two.good form.value valued in
    let kept = IsKept-transitive name.1 descriptor.1 attributes.1 two.kept three.kept in
    let info : FieldInfo = record { access = f.access; name = name.0; descriptor = descriptor.0; attributes = attributes.0 } in
    subst (FieldMade pool f) (same_Ok (info, attributes.1) r made) (record {
      good = three.good;
      kept = IsKept-transitive pool name.1 attributes.1 one.kept kept;
      fact = record {
        access = refl;
        name = text-kept name.1 attributes.1 name.0 f.name kept one.fact;
        descriptor = text-kept descriptor.1 attributes.1 descriptor.0 f.descriptor three.kept two.fact;
        values = three.fact;
      };
    })

abbrev FieldsMade : List FieldInfo → List Constant → List FieldLine → List FieldInfo × List Constant → Type 0
FieldsMade seen pool fs r = Made pool r.1 (IsOwn (IsFieldOf r.1) seen r.0 fs)

pub fields_made : (seen : List FieldInfo) (pool : List Constant) (fs : List FieldLine) (r : List FieldInfo × List Constant) → IsGood pool → AllByRecursion IsFormedFieldLine fs
    → fields_onto seen pool fs ≡ Ok r → FieldsMade seen pool fs r
unfolding fields_onto
fields_made seen pool [] r good form gives =
    subst (FieldsMade seen pool []) (same_Ok (seen, pool) r gives) (record { good = good; kept = IsKept-reflexive pool; fact = own_none (IsFieldOf pool) seen })
fields_made seen pool (f ∷ fs) r good form gives =
    step (field_info pool f) _ _ gives λ info first more.
    let one = field_made pool f info good form.0 first in
    let rest = fields_made (seen ++ info.0 ∷ []) info.1 fs r one.good form.1 more in
    record {
      good = rest.good;
      kept = IsKept-transitive pool info.1 r.1 one.kept rest.kept;
      fact = own_more (IsFieldOf r.1) seen r.0 info.0 f fs (field-kept info.1 r.1 info.0 f rest.kept one.fact) rest.fact;
    }

-- ---- The spelling

-- A field's constant is one of its type.
value_is_of : (pool : List Constant) (descriptor value : ℕ) (text : List ℕ) (c : FieldConstant) → utf8_at pool descriptor ≡ Some text → IsFormedValue text (Some c) → NamesValue pool value c
    → is_constant_of (utf8_at pool descriptor) (entry pool value) ≡ true
value_is_of pool descriptor value text (field_constant.Integer k) described form is =
    rw (described, is.1) (regrouped (same_text text (codes "I")) (same_text text (codes "B")) (same_text text (codes "C")) (same_text text (codes "S")) (same_text text (codes "Z")) form.0)
value_is_of pool descriptor value text (field_constant.Long k) described form is = rw (described, is.1) form.0
value_is_of pool descriptor value text (field_constant.String s) described form is = let string = is.1 in rw (described, string.here) form

value_fits : (pool : List Constant) (n : ℕ) (c : FieldConstant) → NamesValue pool n c → IsU2 n
value_fits pool n (field_constant.Integer k) is = is.0
value_fits pool n (field_constant.Long k) is = is.0
value_fits pool n (field_constant.String text) is = is.0

-- The length of an attribute's content of two bytes fits four bytes.
pub small_content : (n : ℕ) → IsU4 (length (u2 n))
small_content n = let two = length-u2 n in omega arith

value_spelled : (pool : List Constant) (descriptor : ℕ) (text : List ℕ) (c : FieldConstant) (name value : ℕ) → utf8_at pool descriptor ≡ Some text → IsFormedValue text (Some c)
    → NamesText pool name (codes "ConstantValue") → NamesValue pool value c → IsSpelled (SpellsFieldAttribute pool descriptor) (field_attribute.ConstantValue name value)
value_spelled pool descriptor text c name value described form named is =
    let content = u2 value in
    (u2 name ++ (u4 (length content) ++ content), (named.0, text_is_named pool name (codes "ConstantValue") named, content, small_content value, (value_fits pool value c is, value_is_of pool descriptor value text c described form is, refl), refl))

-- A field has at most one ConstantValue attribute, and bytes spell its attributes.
abbrev AreSpelledValues : List Constant → ℕ → List FieldAttribute → Type 0
AreSpelledValues pool descriptor attributes = AtMostOne is_constant_value attributes × IsSpelled (Counted (SpellsFieldAttribute pool descriptor)) attributes

values_spelled : (pool : List Constant) (descriptor : ℕ) (text : List ℕ) (attributes : List FieldAttribute) (c : Option FieldConstant) → utf8_at pool descriptor ≡ Some text → IsFormedValue text c
    → AreValues pool attributes c → AreSpelledValues pool descriptor attributes
values_spelled pool descriptor text attributes None described form is =
    subst (AreSpelledValues pool descriptor) (sym is) (tt, counted (SpellsFieldAttribute pool descriptor) [] (omega arith) tt)
values_spelled pool descriptor text attributes (Some c) described form is =
    let value : FieldAttribute = field_attribute.ConstantValue is.0 is.1 in
    subst (AreSpelledValues pool descriptor) (sym is.2)
    (((λ _. refl), tt), counted (SpellsFieldAttribute pool descriptor) (value ∷ []) (omega arith) (value_spelled pool descriptor text c is.0 is.1 described form is.3 is.4, tt))

pub field_spelled : (pool : List Constant) (info : FieldInfo) (f : FieldLine) → IsFieldOf pool info f → IsFormedFieldLine f → IsSpelled (SpellsField pool) info
field_spelled pool info f is form =
    let name = is.name in
    let descriptor = is.descriptor in
    let attributes = values_spelled pool info.descriptor f.descriptor info.attributes f.constant descriptor.1 form.value is.values in
    let named : is_text_with is_name (utf8_at pool info.name) ≡ true = ap (is_text_with is_name) name.1 ∙ form.name in
    let typed : is_text_with (λ text. is_some (field_type_of text)) (utf8_at pool info.descriptor) ≡ true = ap (is_text_with (λ text. is_some (field_type_of text))) descriptor.1 ∙ form.descriptor in
    let member = u2 info.access ++ (u2 info.name ++ u2 info.descriptor) in
    let all = attributes.1 in
    (member ++ all.0, (named, typed, attributes.0, (member, all.0, refl, (subst IsU2 (sym is.access) form.access, name.0, descriptor.0, refl), all.1)))

-- ---- No two are one

one_field : (pool : List Constant) (a b : FieldInfo) (f g : FieldLine) → IsFieldOf pool a f → IsFieldOf pool b g → is_same_field pool b.name b.descriptor a ≡ is_field_like g.name g.descriptor f
one_field pool a b f g is other =
    let a_name = is.name in
    let b_name = other.name in
    let a_descriptor = is.descriptor in
    let b_descriptor = other.descriptor in
    rw (a_name.1, b_name.1, a_descriptor.1, b_descriptor.1) (rw (same_turned f.name g.name, same_turned f.descriptor g.descriptor) refl)

pub fields_distinct : (pool : List Constant) (infos : List FieldInfo) (fs : List FieldLine) → AllZip (IsFieldOf pool) infos fs → IsDistinctBy (λ (f g : FieldLine). is_field_like g.name g.descriptor f) fs
    → IsDistinctBy (λ (f g : FieldInfo). is_same_field pool g.name g.descriptor f) infos
fields_distinct pool infos fs are distinct =
    distinct_as (IsFieldOf pool) (λ f g. is_same_field pool g.name g.descriptor f) (λ f g. is_field_like g.name g.descriptor f) (one_field pool) infos fs are distinct
