-- Parts of a class (JVMS 4.1) that have functions of their own.
use Rattle.std.specs.Prelude.{ℕ, ◌==◌, ◌||◌, List, Result, Ok}
use Rattle.jvms_file.specs.declared.class_file.ClassFile.{ClassFile}
use Rattle.jvms_file.specs.declared.class_file.Constant.{Constant}
use Rattle.jvms_file.specs.declared.fault.ClassFault.{ClassFault}
use Rattle.jvms_file.specs.declared.fault.ClassFault.TheVariants as fault
use Rattle.jvms_file.specs.Results.{◌>>=◌, want}
use Rattle.jvms_file.specs.Bytes.{u2_at}
use Rattle.jvms_file.specs.ConstantPool.{pool_at, entries_fault}
use Rattle.jvms_file.specs.Members.{fields_at, methods_at, kept_attributes_at}
use Rattle.jvms_file.specs.ClassFile.{is_proper_class, is_empty, interfaces_at}
use Rattle.class_file.specs.declared.class.Head.{Head}

-- Reads the class from the bytes after the superclass.
abbrev pub members_after_superclass : ClassFault → List Constant → Head → List ℕ → Result ClassFile ClassFault
members_after_superclass cut pool head bytes = do
  interfaces ← interfaces_at pool cut bytes
  fields ← fields_at pool cut interfaces.1
  methods ← methods_at pool head.major cut head.access fields.1
  attributes ← kept_attributes_at pool cut methods.1
  _ ← want (is_empty attributes.1) fault.Trailing
  Ok (record { minor = head.minor; major = head.major; pool = pool; access = head.access; this_class = head.this_class; super_class = head.super_class; interfaces = interfaces.0; fields = fields.0; methods = methods.0; attributes = attributes.0 })

-- Reads the class from the bytes after the constant pool.
abbrev pub class_after_pool : ClassFault → ℕ → ℕ → List Constant → List ℕ → Result ClassFile ClassFault
class_after_pool cut minor major pool bytes = do
  access ← u2_at cut bytes
  this_class ← u2_at cut access.1
  _ ← want (is_proper_class pool this_class.0) fault.Index
  super_class ← u2_at cut this_class.1
  _ ← want (super_class.0 == 0 || is_proper_class pool super_class.0) fault.Index
  members_after_superclass cut pool (record { minor = minor; major = major; access = access.0; this_class = this_class.0; super_class = super_class.0 }) super_class.1

-- Reads the class from the bytes after the versions.
abbrev pub class_after_versions : ClassFault → ℕ → ℕ → List ℕ → Result ClassFile ClassFault
class_after_versions cut minor major bytes = do
  pool ← pool_at cut bytes
  _ ← entries_fault pool.0 pool.0
  class_after_pool cut minor major pool.0 pool.1
