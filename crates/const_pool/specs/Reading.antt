-- A constant pool from bytes (JVMS 4.4).
use Rattle.std.specs.Prelude.{ℕ, List, Result, Ok}
use Rattle.jvms_file.specs.declared.class_file.Constant.{Constant}
use Rattle.jvms_file.specs.declared.fault.ClassFault.{ClassFault}
use Rattle.jvms_file.specs.Results.{◌>>=◌}
use Rattle.jvms_file.specs.ConstantPool.{pool_at, entries_fault}

-- Reads the entries. Returns them and the bytes after them. All entries are read before it is tested that each names
-- what it may (JVMS 4.4.1 to 4.4.6).
abbrev pub checked_pool_at : ClassFault → List ℕ → Result (List Constant × List ℕ) ClassFault
checked_pool_at cut bytes = do
  pool ← pool_at cut bytes
  _ ← entries_fault pool.0 pool.0
  Ok pool
