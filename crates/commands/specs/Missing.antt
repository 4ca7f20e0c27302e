-- Defines what the program of inputs lacks.
use Rattle.std.specs.Prelude.{◌≡◌, ◌-◌, ℕ, Bool, ◌==◌, cond, List, length, Option, Result, Ok}
use Rattle.std.specs.Io.KnownBytes.{Appends}
use Rattle.jvms_file.specs.declared.class_file.ClassFile.{ClassFile}
use Rattle.jvms_file.specs.Results.{◌>>=◌}
use Rattle.velodrome.specs.Specification.{Specification}
use Rattle.inputs.specs.declared.input.Input.{Input}
use Rattle.judge.specs.Programs.{NotRun, classes_from, program_in}
use Rattle.needs.specs.Supers.{missing_supers}
use Rattle.needs.specs.Unmatched.{missing_text}

-- Returns the text of what the program of inputs lacks, and of the lines of a specification that match no method, or
-- why there is no program. The classes of the inputs are given.
abbrev pub missing_in_program : Specification → List ClassFile → List Input → Result (List ℕ) NotRun
missing_in_program lines files inputs = do
  program ← program_in inputs
  Ok (missing_text program (length program - length files) files lines)

-- Returns this text if it isn't empty, else the rest.
abbrev pub text_or : List ℕ → Result (List ℕ) NotRun → Result (List ℕ) NotRun
text_or text rest = cond (length text == 0) rest (Ok text)

-- Returns the text of missing superclasses, or else of what the program lacks.
unfoldable pub missing_in : Specification → List Input → Result (List ℕ) NotRun
missing_in lines inputs = do
  files ← classes_from 0 inputs
  text_or (missing_supers files) (missing_in_program lines files inputs)

-- This text was written whole, and the result is whether it is empty.
abbrev pub HasWritten : Result (List ℕ) NotRun → Option (List ℕ) → Option (List ℕ) → Bool → Type 0
HasWritten said old new is_whole =
    (text : List ℕ) × (said ≡ Ok text) × Appends old new text × (is_whole ≡ (length text == 0))
