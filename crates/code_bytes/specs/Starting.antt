-- Defines the starts of instructions and the test of the code's length, one instruction at a time.
use Rattle.std.specs.Prelude.{ℕ, ◌+◌, nat_lt, nat_le, if◌then◌else◌, List, [], ◌∷◌, ◌++◌, Option, Some, None, Result, Ok, Err}
use Rattle.jvms_file.specs.Members.{is_code_length}
use Rattle.jvms_file.specs.Results.{◌>>=◌, want, present}
use Rattle.jasmin.specs.declared.source.Operation.{Operation}
use Rattle.jasmin.specs.declared.source.CodeItem.{CodeItem}
use Rattle.assembly.specs.declared.fault.AsmFault.{AsmFault}
use Rattle.assembly.specs.declared.fault.AsmFault.TheVariants as fault
use Rattle.assembly.specs.Sizes.{size, code_length, starts_of}

-- Returns the end of an instruction, if code may be this long.
abbrev pub end_within : ℕ → Option ℕ
end_within end = if nat_le end 65535 then Some end else None

-- Returns the starts of code that ends at byte `pc`, or the fault CodeLength if it has no bytes.
abbrev pub some_starts : List ℕ → ℕ → Result (List ℕ) AsmFault
some_starts starts pc = if nat_lt 0 pc then Ok starts else Err fault.CodeLength

-- Appends the starts of instructions from byte `pc` on to those before.
unfoldable pub starts_onto : List ℕ → ℕ → List ℕ → List Operation → Result (List ℕ) AsmFault
starts_onto seen pc (n ∷ numbers) (o ∷ os) = do
  end ← present (end_within (pc + size n pc o)) fault.CodeLength
  starts_onto (seen ++ pc ∷ []) end numbers os
starts_onto seen pc _ _ = some_starts seen pc

-- Returns the starts of all instructions, if the code's length is allowed.
abbrev pub starts_within : List ℕ → List CodeItem → Result (List ℕ) AsmFault
starts_within operands items = do
  _ ← want (is_code_length (code_length operands items)) fault.CodeLength
  Ok (starts_of operands items)
