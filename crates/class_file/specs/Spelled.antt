-- Class files that bytes spell (JVMS 4.1).
use Rattle.std.specs.Prelude.{ℕ, List}
use Rattle.jvms_file.specs.declared.class_file.ClassFile.{ClassFile}
use Rattle.jvms_file.specs.Spelling.{Spells}

-- Some bytes spell the class.
abbrev pub HasSpelling : ClassFile → Type 0
HasSpelling c = (bytes : List ℕ) × Spells bytes c
