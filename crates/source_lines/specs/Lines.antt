-- Defines the lines of a method's instructions, found for all of them at once.
use Rattle.std.specs.Prelude.{ℕ, ◌<◌, List, [], ◌∷◌, map, replicate, Option, Some, None, EachIndex, slice_get, slice_index, slice_set}
use Rattle.std.specs.List.{flat_map, fold}
use Rattle.std.specs.Option.{option_and_then, option_map, option_or, unwrap_or}
use Rattle.jvms_file.specs.declared.class_file.ClassFile.{ClassFile}
use Rattle.jvms_file.specs.declared.class_file.Code.{Code}
use Rattle.jvms_file.specs.declared.class_file.Constant.{Constant}
use Rattle.jvms_program.specs.Meaning.{code_of}
use Rattle.source_lines.specs.SourceLines.{line_of_byte, source_name, starts_in}
use Rattle.source_lines.specs.declared.table.LineStart.{LineStart}

-- ---- By bytes

-- Marks the byte of a start with its line. A start after the last byte is ignored.
abbrev pub with_start : List (Option ℕ) → LineStart → List (Option ℕ)
with_start lines s = slice_set lines s.start (Some s.line)

-- Gives each byte that isn't marked the line of the byte before it. Before the first is `last`.
abbrev pub filled : Option ℕ → List (Option ℕ) → List (Option ℕ)
filled last [] = []
filled last (line ∷ lines) = option_or line last ∷ filled (option_or line last) lines

-- Returns the lines of the first `count` bytes.
abbrev pub lines_of_bytes : ℕ → List LineStart → List (Option ℕ)
lines_of_bytes count starts = filled None (fold with_start (replicate count None) starts)

abbrev pub AreBelow : ℕ → List ℕ → Type 0
AreBelow count bytes = EachIndex bytes (λ k. slice_index bytes k < count)

-- ---- By instructions

-- Returns the lines of the instructions of code.
abbrev pub code_lines : List Constant → Code → List (Option ℕ)
code_lines pool code = map (λ byte. line_of_byte byte (flat_map (starts_in pool) code.attributes)) code.layout.starts

-- Returns the lines of the instructions of a method of a class file.
abbrev pub file_lines : ClassFile → ℕ → List (Option ℕ)
file_lines file method =
    unwrap_or (option_map (code_lines file.pool) (option_and_then (λ m. code_of m.attributes) (slice_get file.methods method))) []

-- ---- By classes that may have a file

abbrev pub file_name : Option ClassFile → Option (List ℕ)
file_name file = option_and_then (λ f. source_name f.pool f.attributes) file

abbrev pub lines_of : Option ClassFile → ℕ → List (Option ℕ)
lines_of file method = unwrap_or (option_map (λ f. file_lines f method) file) []
