-- Proves that the line that a field is listed as means the field.
use Rattle.std.proofs.Common.{◌≡◌, Bool, ◌||◌, List, [], ◌∷◌, Option, None, Some, Ok, sym, ap, ◌∙◌}
use Rattle.std.specs.Option.{option_map}
use Rattle.jvms_file.specs.declared.class_file.Constant.{Constant}
use Rattle.jvms_file.specs.declared.class_file.Constant.TheVariants as pool_constant
use Rattle.jvms_file.specs.declared.class_file.FieldAttribute.{FieldAttribute}
use Rattle.jvms_file.specs.declared.class_file.FieldAttribute.TheVariants as field_attribute
use Rattle.jvms_file.specs.declared.class_file.FieldInfo.{FieldInfo}
use Rattle.jvms_file.specs.Descriptors.{field_type}
use Rattle.jvms_file.specs.ConstantPool.{entry}
use Rattle.jvms_file.specs.Members.{is_static, is_private}
use Rattle.jvms_program.specs.declared.program.Loadable.{Loadable}
use Rattle.jvms_program.specs.declared.program.Field.{Field}
use Rattle.jvms_program.specs.Meaning.{text_of, loadable_of, constant_of, field_of}
use Rattle.jasmin.specs.declared.source.FieldConstant.{FieldConstant}
use Rattle.jasmin.specs.declared.source.FieldLine.{FieldLine}
use Rattle.jasmin.specs.Denote.{constant_of as denoted_constant, field_of as denoted_field}
use Rattle.classfile_laws.proofs.Steps.{step}
use Rattle.listing_spec.specs.TreeOf.{value_of, field_value, field_flags, field_line}
use Rattle.tree_meaning_laws.proofs.Lists.{same_Ok}
use Rattle.tree_meaning_laws.proofs.Flags.{field_static, field_private}

value_means : (pool : List Constant) (e : Option Constant) (v : FieldConstant) → value_of pool e ≡ Ok v → denoted_constant v ≡ loadable_of pool e
value_means pool (Some (pool_constant.Integer n)) v gives = ap denoted_constant (sym (same_Ok _ v gives))
value_means pool (Some (pool_constant.Long n)) v gives = ap denoted_constant (sym (same_Ok _ v gives))
value_means pool (Some (pool_constant.String text)) v gives = ap denoted_constant (sym (same_Ok _ v gives))
value_means pool e v gives = absurd cc

constant_means : (pool : List Constant) (attributes : List FieldAttribute) (v : Option FieldConstant) → field_value pool attributes ≡ Ok v → option_map denoted_constant v ≡ constant_of pool attributes
unfolding field_value
constant_means pool [] v gives = ap (option_map denoted_constant) (sym (same_Ok None v gives))
constant_means pool (field_attribute.ConstantValue name value ∷ others) v gives =
    step (value_of pool (entry pool value)) _ _ gives λ c is last.
    ap (option_map denoted_constant) (sym (same_Ok (Some c) v last)) ∙ ap (λ l. Some l) (value_means pool (entry pool value) c is)
constant_means pool (field_attribute.Kept a ∷ others) v gives = constant_means pool others v gives

-- Returns a field with these flags and this constant.
abbrev field_by : List Constant → FieldInfo → Bool → Bool → Option Loadable → Field
field_by pool f static private value =
    record {
      name = text_of pool f.name;
      descriptor = text_of pool f.descriptor;
      field_type = field_type (text_of pool f.descriptor);
      is_static = static;
      is_private = private;
      constant = value;
    }

-- Returns the line of a field with this constant.
abbrev line_with : List Constant → FieldInfo → Option FieldConstant → FieldLine
line_with pool f value = record { access = field_flags f.access; name = text_of pool f.name; descriptor = text_of pool f.descriptor; constant = value }

line_is : (pool : List Constant) (interface : Bool) (f : FieldInfo) (value : Option FieldConstant) → option_map denoted_constant value ≡ constant_of pool f.attributes
    → denoted_field interface (line_with pool f value) ≡ field_of pool interface f
line_is pool interface f value means =
    ap (λ b. field_by pool f (interface || b) (is_private (field_flags f.access)) (option_map denoted_constant value)) (field_static f.access)
    ∙ ap (λ b. field_by pool f (interface || is_static f.access) b (option_map denoted_constant value)) (field_private f.access)
    ∙ ap (field_by pool f (interface || is_static f.access) (is_private f.access)) means

pub field_means : (pool : List Constant) (interface : Bool) (f : FieldInfo) (line : FieldLine) → field_line pool f ≡ Ok line → denoted_field interface line ≡ field_of pool interface f
unfolding field_line
field_means pool interface f line gives =
    step (field_value pool f.attributes) _ _ gives λ value is last.
    ap (denoted_field interface) (sym (same_Ok (line_with pool f value) line last)) ∙ line_is pool interface f value (constant_means pool f.attributes value is)
