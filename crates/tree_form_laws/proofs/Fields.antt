-- Proves that the lines of fields have the form that a class file requires (JVMS 4.5).
use Rattle.std.proofs.Common.{◌≡◌, ℕ, Bool, true, List, [], ◌∷◌, Option, Some, None, is_some, Ok, refl, sym, subst}
use Rattle.std.specs.Prelude.{codes}
use Rattle.jvms_file.specs.declared.class_file.Constant.{Constant}
use Rattle.jvms_file.specs.declared.class_file.Constant.TheVariants as constant
use Rattle.jvms_file.specs.declared.class_file.FieldAttribute.{FieldAttribute}
use Rattle.jvms_file.specs.declared.class_file.FieldAttribute.TheVariants as field_attribute
use Rattle.jvms_file.specs.declared.class_file.FieldInfo.{FieldInfo}
use Rattle.jvms_file.specs.Names.{same_text, is_name}
use Rattle.jvms_file.specs.Descriptors.{field_type_of}
use Rattle.jvms_file.specs.ConstantPool.{entry, utf8_at}
use Rattle.jvms_file.specs.Members.{is_constant_of, is_same_field}
use Rattle.jvms_file.specs.Spelling.{InOrder, SpellsFieldAttribute, SpellsField}
use Rattle.jvms_program.specs.Meaning.{text_of}
use Rattle.jasmin.specs.declared.source.FieldConstant.{FieldConstant}
use Rattle.jasmin.specs.declared.source.FieldConstant.TheVariants as field_constant
use Rattle.jasmin.specs.declared.source.FieldLine.{FieldLine}
use Rattle.jasmin.specs.Reading.{is_field_like}
use Rattle.source_form_laws.specs.Formed.{IsSigned, IsFormedValue, IsFormedFieldLine}
use Rattle.listing_spec.specs.declared.fault.ListFault.TheVariants as fault
use Rattle.listing_spec.specs.TreeOf.{value_of, field_value, field_line}
use Rattle.classfile_laws.proofs.Steps.{step}
use Rattle.tree_form_laws.proofs.Steps.{same_Ok, no_answer}
use Rattle.tree_form_laws.proofs.Numbers.{signed32, signed64}
use Rattle.tree_form_laws.proofs.Flags.{field_flags_small}
use Rattle.tree_form_laws.proofs.Pools.{IsSound, entry_spelled}
use Rattle.tree_form_laws.proofs.Texts.{text_named, text_passes, same_texts, regrouped}

-- ---- Constants

-- A constant is one that the line of a field may have.
abbrev IsValue : List ℕ → FieldConstant → Type 0
IsValue text v = IsFormedValue text (Some v)

value_formed : (pool : List Constant) → IsSound pool → (text : List ℕ) (n : ℕ) (o : Option Constant) (v : FieldConstant) → entry pool n ≡ o
    → is_constant_of (Some text) o ≡ true → value_of pool o ≡ Ok v → IsValue text v
value_formed pool are text n (Some (constant.Integer k)) v is takes e =
    let spelled = entry_spelled pool are n (constant.Integer k) is in
    let int = regrouped (same_text text (codes "I")) (same_text text (codes "B")) (same_text text (codes "C")) (same_text text (codes "S")) (same_text text (codes "Z")) takes in
    subst (IsValue text) (same_Ok (field_constant.Integer k) v e) (int, subst (IsSigned 31) (sym spelled.1.2) (signed32 spelled.1.0 spelled.1.1))
value_formed pool are text n (Some (constant.Long k)) v is takes e =
    let spelled = entry_spelled pool are n (constant.Long k) is in
    subst (IsValue text) (same_Ok (field_constant.Long k) v e) (takes, subst (IsSigned 63) (sym spelled.1.2) (signed64 spelled.1.0 spelled.1.1))
value_formed pool are text n (Some (constant.String s)) v is takes e = subst (IsValue text) (same_Ok (field_constant.String (text_of pool s)) v e) takes
value_formed pool are text n (Some other) v is takes e = no_answer fault.Float v e
value_formed pool are text n None v is takes e = no_answer fault.Float v e

values_formed : (pool : List Constant) → IsSound pool → (descriptor : ℕ) → utf8_at pool descriptor ≡ Some (text_of pool descriptor) → (bytes : List ℕ) (attributes : List FieldAttribute) (v : Option FieldConstant)
    → InOrder (SpellsFieldAttribute pool descriptor) bytes attributes → field_value pool attributes ≡ Ok v → IsFormedValue (text_of pool descriptor) v
unfolding field_value
values_formed pool are descriptor named bytes [] v spelled e = subst (IsFormedValue (text_of pool descriptor)) (same_Ok None v e) tt
values_formed pool are descriptor named bytes (field_attribute.ConstantValue name n ∷ others) v spelled e =
    step (value_of pool (entry pool n)) _ v e λ x value last.
    let content = spelled.3.4 in
    let takes : is_constant_of (Some (text_of pool descriptor)) (entry pool n) ≡ true = subst (λ (u : Option (List ℕ)). is_constant_of u (entry pool n) ≡ true) named content.1 in
    subst (IsFormedValue (text_of pool descriptor)) (same_Ok (Some x) v last) (value_formed pool are (text_of pool descriptor) n (entry pool n) x refl takes value)
values_formed pool are descriptor named bytes (field_attribute.Kept a ∷ others) v spelled e = values_formed pool are descriptor named spelled.1 others v spelled.4 e

-- ---- Lines

-- A line is made of this field.
pub record IsFieldOf (pool : List Constant) (f : FieldInfo) (line : FieldLine) : Type 0 where
  pub name : utf8_at pool f.name ≡ Some line.name
  pub descriptor : utf8_at pool f.descriptor ≡ Some line.descriptor
  pub formed : IsFormedFieldLine line

pub field_formed : (pool : List Constant) → IsSound pool → (bytes : List ℕ) (f : FieldInfo) (line : FieldLine) → SpellsField pool bytes f → field_line pool f ≡ Ok line → IsFieldOf pool f line
unfolding field_line
field_formed pool are bytes f line spelled e =
    step (field_value pool f.attributes) _ line e λ v value last.
    let is_type : List ℕ → Bool = λ text. is_some (field_type_of text) in
    let named = text_named pool is_name f.name spelled.0 in
    let described = text_named pool is_type f.descriptor spelled.1 in
    subst (IsFieldOf pool f) (same_Ok _ line last) (record {
      name = named;
      descriptor = described;
      formed = record {
        access = field_flags_small f.access;
        name = text_passes pool is_name f.name spelled.0;
        descriptor = text_passes pool is_type f.descriptor spelled.1;
        value = values_formed pool are f.descriptor described spelled.3.4.1.1 f.attributes v spelled.3.4.1.4 value;
      };
    })

-- Two fields are equal exactly if their lines are alike.
pub fields_agree : (pool : List Constant) (f g : FieldInfo) (x y : FieldLine) → IsFieldOf pool f x → IsFieldOf pool g y → is_same_field pool g.name g.descriptor f ≡ is_field_like y.name y.descriptor x
fields_agree pool f g x y first second =
    rw (same_texts pool f.name g.name x.name y.name first.name second.name, same_texts pool f.descriptor g.descriptor x.descriptor y.descriptor first.descriptor second.descriptor) refl
