-- Proves that an assembled field means what its line denotes.
use Rattle.std.proofs.Common.{◌≡◌, ◌≤◌, ℕ, Bool, ◌||◌, List, [], ◌∷◌, ◌++◌, length, Option, None, Some, Ok, refl, ap, ◌∙◌, subst}
use Rattle.std.specs.Prelude.{codes}
use Rattle.std.specs.Option.{option_map, unwrap_or}
use Rattle.jvms_file.specs.declared.class_file.Constant.{Constant}
use Rattle.jvms_file.specs.declared.class_file.Constant.TheVariants as pool_constant
use Rattle.jvms_file.specs.declared.class_file.FieldAttribute.{FieldAttribute}
use Rattle.jvms_file.specs.declared.class_file.FieldAttribute.TheVariants as field_attribute
use Rattle.jvms_file.specs.declared.class_file.FieldInfo.{FieldInfo}
use Rattle.jvms_file.specs.Descriptors.{field_type}
use Rattle.jvms_file.specs.ConstantPool.{entry, utf8_at}
use Rattle.jvms_file.specs.Members.{is_static, is_private}
use Rattle.jvms_program.specs.declared.program.Loadable.{Loadable}
use Rattle.jvms_program.specs.declared.program.Loadable.TheVariants as loadable
use Rattle.jvms_program.specs.declared.program.Field.{Field}
use Rattle.jvms_program.specs.Meaning.{loadable_of, constant_of, field_of}
use Rattle.jasmin.specs.declared.source.FieldConstant.{FieldConstant}
use Rattle.jasmin.specs.declared.source.FieldConstant.TheVariants as constant
use Rattle.jasmin.specs.declared.source.FieldLine.{FieldLine}
use Rattle.jasmin.specs.Denote.{constant_of as denoted_constant, field_of as denoted_field}
use Rattle.pool_entries.specs.Entries.{text_entry}
use Rattle.pool_entries.proofs.Lookups.{IsKept-reflexive, IsKept-transitive, utf8_at-kept, IsString-kept}
use Rattle.assembly.specs.Assembled.{value_entry, field_attributes, field_info, fields_onto}
use Rattle.assembled_entry_laws.proofs.Steps.{step, same_Ok}
use Rattle.assembled_entry_laws.proofs.Entries.{text_is_entered, integer_is_entered, long_is_entered, string_is_entered}
use Rattle.class_meaning_laws.proofs.Names.{text_is}
use Rattle.class_meaning_laws.proofs.Kept.{Means, AllMean, none_mean, one_more_means}

-- ---- Values

-- Returns the constant of a pool entry.
abbrev value_at : List Constant → ℕ → Loadable
value_at pool n = loadable_of pool (entry pool n)

value_means : (pool : List Constant) (c : FieldConstant) (r : ℕ × List Constant) → length pool ≤ 65534 → value_entry pool c ≡ Ok r → Means value_at pool (denoted_constant c) r
value_means pool (constant.Integer k) r few gives =
    let is = integer_is_entered pool r.1 k r.0 few gives in
    record { kept = is.0.kept; few = is.0.few; is = λ final kept. ap (loadable_of final) (kept.stays r.0 (pool_constant.Integer k) is.1) }
value_means pool (constant.Long k) r few gives =
    let is = long_is_entered pool r.1 k r.0 few gives in
    record { kept = is.0.kept; few = is.0.few; is = λ final kept. ap (loadable_of final) (kept.stays r.0 (pool_constant.Long k) is.1) }
value_means pool (constant.String text) r few gives =
    let is = string_is_entered pool r.1 text r.0 few gives in
    record {
      kept = is.0.kept;
      few = is.0.few;
      is = λ final kept. let there = IsString-kept r.1 final r.0 text kept is.1 in ap (loadable_of final) there.here ∙ ap (λ t. loadable.String t) (text_is final there.number text there.names);
    }

attributes_mean : (pool : List Constant) (c : Option FieldConstant) (r : List FieldAttribute × List Constant) → length pool ≤ 65534 → field_attributes pool c ≡ Ok r
    → Means constant_of pool (option_map denoted_constant c) r
unfolding field_attributes
attributes_mean pool None r few gives =
    subst (Means constant_of pool None) (same_Ok ([], pool) r gives) (record { kept = IsKept-reflexive pool; few = few; is = λ final kept. refl })
attributes_mean pool (Some c) r few gives =
    step (text_entry pool (codes "ConstantValue")) _ _ gives λ name named e.
    step (value_entry name.1 c) _ _ e λ value valued last.
    let first = text_is_entered pool name.1 (codes "ConstantValue") name.0 few named in
    let second = value_means name.1 c value first.0.few valued in
    subst (Means constant_of pool (Some (denoted_constant c))) (same_Ok (field_attribute.ConstantValue name.0 value.0 ∷ [], value.1) r last)
    (record { kept = IsKept-transitive pool name.1 value.1 first.0.kept second.kept; few = second.few; is = λ final kept. ap (λ l. Some l) (second.is final kept) })

-- ---- Fields

-- Returns a field with the texts that its indices name.
abbrev field_by : Bool → ℕ → Option (List ℕ) → Option (List ℕ) → Option Loadable → Field
field_by interface access name descriptor value =
    record {
      name = unwrap_or name [];
      descriptor = unwrap_or descriptor [];
      field_type = field_type (unwrap_or descriptor []);
      is_static = interface || is_static access;
      is_private = is_private access;
      constant = value;
    }

field_is : (interface : Bool) (f : FieldLine) (info : FieldInfo) (final : List Constant) → info.access ≡ f.access → utf8_at final info.name ≡ Some f.name → utf8_at final info.descriptor ≡ Some f.descriptor
    → constant_of final info.attributes ≡ option_map denoted_constant f.constant → field_of final interface info ≡ denoted_field interface f
field_is interface f info final access name descriptor value =
    ap (λ a. field_by interface a (utf8_at final info.name) (utf8_at final info.descriptor) (constant_of final info.attributes)) access
    ∙ ap (λ t. field_by interface f.access t (utf8_at final info.descriptor) (constant_of final info.attributes)) name
    ∙ ap (λ t. field_by interface f.access (Some f.name) t (constant_of final info.attributes)) descriptor
    ∙ ap (field_by interface f.access (Some f.name) (Some f.descriptor)) value

field_means : (interface : Bool) (pool : List Constant) (f : FieldLine) (r : FieldInfo × List Constant) → length pool ≤ 65534 → field_info pool f ≡ Ok r
    → Means (λ p. field_of p interface) pool (denoted_field interface f) r
unfolding field_info
field_means interface pool f r few gives =
    step (text_entry pool f.name) _ _ gives λ name named e.
    step (text_entry name.1 f.descriptor) _ _ e λ descriptor described e'.
    step (field_attributes descriptor.1 f.constant) _ _ e' λ attributes valued last.
    let first = text_is_entered pool name.1 f.name name.0 few named in
    let second = text_is_entered name.1 descriptor.1 f.descriptor descriptor.0 first.0.few described in
    let third = attributes_mean descriptor.1 f.constant attributes second.0.few valued in
    let info : FieldInfo = record { access = f.access; name = name.0; descriptor = descriptor.0; attributes = attributes.0 } in
    let behind = IsKept-transitive name.1 descriptor.1 attributes.1 second.0.kept third.kept in
    subst (Means (λ p. field_of p interface) pool (denoted_field interface f)) (same_Ok (info, attributes.1) r last)
    (record {
      kept = IsKept-transitive pool name.1 attributes.1 first.0.kept behind;
      few = third.few;
      is = λ final kept.
          field_is interface f info final refl
          (utf8_at-kept name.1 final name.0 f.name (IsKept-transitive name.1 attributes.1 final behind kept) first.1)
          (utf8_at-kept descriptor.1 final descriptor.0 f.descriptor (IsKept-transitive descriptor.1 attributes.1 final third.kept kept) second.1)
          (third.is final kept);
    })

pub fields_mean : (interface : Bool) (seen : List FieldInfo) (pool : List Constant) (fs : List FieldLine) (r : List FieldInfo × List Constant) → length pool ≤ 65534 → fields_onto seen pool fs ≡ Ok r
    → AllMean (λ p. field_of p interface) (denoted_field interface) seen pool fs r
unfolding fields_onto
fields_mean interface seen pool [] r few gives = none_mean (λ p. field_of p interface) (denoted_field interface) seen pool r few gives
fields_mean interface seen pool (f ∷ fs) r few gives =
    step (field_info pool f) _ _ gives λ info is more.
    let first = field_means interface pool f info few is in
    one_more_means (λ p. field_of p interface) (denoted_field interface) seen pool f fs info r first (fields_mean interface (seen ++ info.0 ∷ []) info.1 fs r first.few more)
