-- Class files (JVMS 4.1): the class that bytes spell when they are read from the front, or their first fault.
use Rattle.std.specs.Prelude.{ℕ, Bool, true, false, not, ◌==◌, ◌&&◌, ◌||◌, nat_le, List, [], ◌∷◌, length, Option, Some, None, Result, Ok}
use Rattle.jvms_file.specs.declared.class_file.Constant.{Constant}
use Rattle.jvms_file.specs.declared.class_file.ClassFile.{ClassFile}
use Rattle.jvms_file.specs.declared.fault.ClassFault.{ClassFault}
use Rattle.jvms_file.specs.declared.fault.ClassFault.TheVariants as fault
use Rattle.jvms_file.specs.Results.{◌>>=◌, want, part_list}
use Rattle.jvms_file.specs.Bytes.{u2_at, u4_at}
use Rattle.jvms_file.specs.Descriptors.{is_array_name}
use Rattle.jvms_file.specs.ConstantPool.{pool_at, entries_fault, class_name_at}
use Rattle.jvms_file.specs.Members.{fields_at, methods_at, kept_attributes_at}

-- Decides whether a number is that of a class entry that names no array. this_class, super_class and each interface
-- have to name one.
abbrev pub is_proper_class : List Constant → ℕ → Bool
is_proper_class pool n = is_proper (class_name_at pool n)
  where
    is_proper : Option (List ℕ) → Bool
    is_proper None = false
    is_proper (Some name) = not (is_array_name name)

-- Decides whether a major version is 45 to 50, with any minor version (JVMS 4.1).
abbrev pub is_version : ℕ → Bool
is_version major = nat_le 45 major && nat_le major 50

-- Reads the number of an interface's class entry (JVMS 4.1).
abbrev pub interface_at : List Constant → ClassFault → List ℕ → Result (ℕ × List ℕ) ClassFault
interface_at pool cut bytes = do
  n ← u2_at cut bytes
  _ ← want (is_proper_class pool n.0) fault.Index
  Ok (n.0, n.1)

-- Reads interfaces_count and the interfaces (JVMS 4.1).
abbrev pub interfaces_at : List Constant → ClassFault → List ℕ → Result (List ℕ × List ℕ) ClassFault
interfaces_at pool cut bytes = do
  count ← u2_at cut bytes
  part_list (interface_at pool cut) count.0 count.1

abbrev pub is_empty : List ℕ → Bool
is_empty [] = true
is_empty (b ∷ bytes) = false

-- Returns the class that bytes spell, or their first fault. `cut` is the fault of missing bytes.
unfoldable pub class_at : ClassFault → List ℕ → Result ClassFile ClassFault
class_at cut bytes = do
  magic ← u4_at cut bytes
  _ ← want (magic.0 == 0xcafebabe) fault.Magic
  minor ← u2_at cut magic.1
  major ← u2_at cut minor.1
  _ ← want (is_version major.0) fault.Version
  pool ← pool_at cut major.1
  _ ← entries_fault pool.0 pool.0
  access ← u2_at cut pool.1
  this_class ← u2_at cut access.1
  _ ← want (is_proper_class pool.0 this_class.0) fault.Index
  super_class ← u2_at cut this_class.1
  _ ← want (super_class.0 == 0 || is_proper_class pool.0 super_class.0) fault.Index
  interfaces ← interfaces_at pool.0 cut super_class.1
  fields ← fields_at pool.0 cut interfaces.1
  methods ← methods_at pool.0 major.0 cut access.0 fields.1
  attributes ← kept_attributes_at pool.0 cut methods.1
  _ ← want (is_empty attributes.1) fault.Trailing
  Ok (record { minor = minor.0; major = major.0; pool = pool.0; access = access.0; this_class = this_class.0; super_class = super_class.0; interfaces = interfaces.0; fields = fields.0; methods = methods.0; attributes = attributes.0 })

-- Returns the class that bytes spell, or their first fault. Truncated bytes have their length as the place of the
-- fault.
abbrev pub read : List ℕ → Result ClassFile ClassFault
read bytes = class_at (fault.Truncated (length bytes)) bytes
