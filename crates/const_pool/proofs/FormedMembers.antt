-- The forms of a name and a descriptor decide whether they are a member's.
use Rattle.std.proofs.Common.{◌≡◌, ℕ, cond, ◌&&◌, List, Option, None, Some, refl, ap}
use Rattle.std.specs.Option.{option_map}
use Rattle.std.specs.Prelude.{is_some}
use Rattle.jvms_file.specs.Names.{is_name, is_method_name}
use Rattle.jvms_file.specs.Descriptors.{field_type_of, method_type_of, parameter_units}
use Rattle.jvms_file.specs.ConstantPool.{begins_as_method, is_member}
use Rattle.const_pool.specs.Texts.{forms_of, is_formed_member}

some_units : {A B : Type 0} (f : A → B) (x : Option A) → is_some (option_map f x) ≡ is_some x
some_units f None = refl
some_units f (Some x) = refl

pub formed_member : (name descriptor : List ℕ) → is_formed_member (forms_of name) (forms_of descriptor) ≡ is_member name descriptor
formed_member name descriptor =
    ap (λ b. cond (begins_as_method descriptor) (is_method_name name && b) (is_name name && is_some (field_type_of descriptor)))
    (some_units parameter_units (method_type_of descriptor))
