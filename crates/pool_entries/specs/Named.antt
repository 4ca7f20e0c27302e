-- The items that a number of a pool names, through the numbers of other entries.
use Rattle.std.specs.Prelude.{◌≡◌, ℕ, List, Some}
use Rattle.jvms_file.specs.declared.class_file.Constant.{Constant}
use Rattle.jvms_file.specs.declared.class_file.Constant.TheVariants as constant
use Rattle.jvms_file.specs.ConstantPool.{entry, utf8_at, class_name_at, name_and_type_at}

-- A number is a String entry's of this text (JVMS 4.4.3).
pub record IsString (pool : List Constant) (n : ℕ) (text : List ℕ) : Type 0 where
  pub number : ℕ
  pub here : entry pool n ≡ Some (constant.String number)
  pub names : utf8_at pool number ≡ Some text

-- A number is that of the entry of a member of this class, with this name and descriptor. `make` is the kind of the
-- entry (JVMS 4.4.2).
pub record IsMember (make : ℕ → ℕ → Constant) (pool : List Constant) (n : ℕ) (class name descriptor : List ℕ) : Type 0 where
  pub class_number : ℕ
  pub member_number : ℕ
  pub here : entry pool n ≡ Some (make class_number member_number)
  pub names_class : class_name_at pool class_number ≡ Some class
  pub names_member : name_and_type_at pool member_number ≡ Some (name, descriptor)
