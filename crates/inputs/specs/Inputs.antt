-- Defines the class of a FILE: the one that its bytes spell, or that its text is assembled to.
use Rattle.std.specs.Prelude.{◌≡◌, ℕ, Bool, true, false, List, Result, Ok, Err, string_bytes}
use Rattle.jvms_file.specs.declared.class_file.ClassFile.{ClassFile}
use Rattle.jvms_file.specs.declared.fault.ClassFault.{ClassFault}
use Rattle.jvms_file.specs.declared.fault.ReadError.TheVariants as read_error
use Rattle.jvms_file.specs.ClassFile.{read}
use Rattle.jvms_file.specs.Results.{◌>>=◌}
use Rattle.jasmin.specs.declared.statement.Flaw.{Flaw}
use Rattle.jasmin.specs.Reading.{source_of}
use Rattle.jasmin_reader.specs.declared.fault.SourceFault.TheVariants as source_fault
use Rattle.assembly.specs.declared.fault.AsmFault.{AsmFault}
use Rattle.assembly.specs.declared.fault.AsmFault.TheVariants as asm_fault
use Rattle.assembly.specs.Assembled.{class_file_of}
use Rattle.inputs.specs.declared.input.Input.{Input}
use Rattle.inputs.specs.declared.input.Input.TheVariants as input
use Rattle.inputs.specs.declared.fault.InputFault.{InputFault}
use Rattle.inputs.specs.declared.fault.InputFault.TheVariants as fault

-- A fault of a FILE that is no class. Its bytes spell none, a line of its text has a flaw, or its source can't be
-- assembled.
pub data NoClass : Type 0 where
  not_spelled : (fault : ClassFault) → NoClass
  flawed : (place : ℕ × Flaw) → NoClass
  not_assembled : (fault : AsmFault) → NoClass

abbrev pub because : {A E : Type 0} → (E → NoClass) → Result A E → Result A NoClass
because why (Ok x) = Ok x
because why (Err fault) = Err (why fault)

abbrev pub class_of_bytes : List ℕ → Result ClassFile NoClass
class_of_bytes bytes = because not_spelled (read bytes)

unfoldable pub class_of_text : List ℕ → Result ClassFile NoClass
class_of_text text = do
  source ← because flawed (source_of text)
  because not_assembled (class_file_of source)

abbrev pub class_in : Input → Result ClassFile NoClass
class_in (input.ClassFile bytes) = class_of_bytes bytes.items
class_in (input.Source text) = class_of_text (string_bytes text)

-- ---- Results

-- The fault is that of the definition, mapped to the caller's faults. If memory ran out, it states nothing about the
-- definition.
abbrev pub IsFault : {A E : Type 0} → (NoClass → E) → InputFault → Result A E → Type 0
IsFault why (fault.Class read_error.Memory) said = Unit {0}
IsFault why (fault.Class (read_error.Fault f)) said = said ≡ Err (why (not_spelled f))
IsFault why (fault.Source source_fault.Memory) said = Unit {0}
IsFault why (fault.Source (source_fault.Flawed f line)) said = said ≡ Err (why (flawed (line, f)))
IsFault why (fault.Assembly asm_fault.Memory) said = Unit {0}
IsFault why (fault.Assembly f) said = said ≡ Err (why (not_assembled f))

abbrev pub Becomes : Result ClassFile InputFault → Result ClassFile NoClass → Type 0
Becomes (Ok c) said = said ≡ Ok c
Becomes (Err f) said = IsFault (λ why. why) f said

-- The fault is one of the bytes of a class file. It may be that of memory.
abbrev pub IsOfBytes : InputFault → Type 0
IsOfBytes (fault.Class error) = Unit {0}
IsOfBytes _ = ⊥

-- The fault is one of a text or of its assembly. It may be that of memory.
abbrev pub IsOfText : InputFault → Type 0
IsOfText (fault.Class error) = ⊥
IsOfText _ = Unit {0}

-- The fault is one of this sort of FILE.
abbrev pub IsOfSort : Input → InputFault → Type 0
IsOfSort (input.ClassFile bytes) = IsOfBytes
IsOfSort (input.Source text) = IsOfText

-- Decides whether the fault is that memory ran out.
abbrev pub is_memory : InputFault → Bool
is_memory (fault.Class read_error.Memory) = true
is_memory (fault.Source source_fault.Memory) = true
is_memory (fault.Assembly asm_fault.Memory) = true
is_memory _ = false
