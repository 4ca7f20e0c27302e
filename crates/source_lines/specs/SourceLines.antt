-- Defines source lines of instructions (JVMS 4.7.10, 4.7.12).
use Rattle.std.specs.Prelude.{ℕ, Bool, zero, suc, ◌+◌, ◌-◌, ◌*◌, ◌==◌, ◌&&◌, nat_le, nat_lt, if◌then◌else◌, List, [], ◌∷◌, ◌++◌, drop, length, Option, Some, None, slice_get, codes}
use Rattle.std.specs.Fmt.{decimal}
use Rattle.std.specs.List.{flat_map, fold}
use Rattle.std.specs.Option.{option_and_then, option_map, unwrap_or}
use Rattle.escapes.specs.Escapes.{name_text}
use Rattle.jvms_file.specs.declared.class_file.ClassFile.{ClassFile}
use Rattle.jvms_file.specs.declared.class_file.Code.{Code}
use Rattle.jvms_file.specs.declared.class_file.Constant.{Constant}
use Rattle.jvms_file.specs.declared.class_file.KeptAttribute.{KeptAttribute}
use Rattle.jvms_file.specs.Bytes.{number}
use Rattle.jvms_file.specs.ConstantPool.{utf8_at}
use Rattle.jvms_file.specs.Names.{same_text}
use Rattle.jvms_program.specs.declared.number.MethodNumber.{MethodNumber}
use Rattle.jvms_program.specs.Meaning.{code_of, text_of}
use Rattle.source_lines.specs.declared.table.LineStart.{LineStart}

-- ---- The line of a byte of code

-- Returns the first `count` entries.
abbrev pub line_starts : ℕ → List ℕ → List LineStart
line_starts zero bytes = []
line_starts (suc count) bytes =
    record { start = number 2 bytes; line = number 2 (drop 2 bytes) } ∷ line_starts count (drop 4 bytes)

-- Decides whether the length of a table's content matches its count.
abbrev pub is_whole : List ℕ → Bool
is_whole content = length content == 2 + 4 * number 2 content

-- Returns the entries of a table. Content whose length doesn't match its count has none.
abbrev pub table_starts : List ℕ → List LineStart
table_starts content = if is_whole content then line_starts (number 2 content) (drop 2 content) else []

abbrev pub is_named : List Constant → List ℕ → KeptAttribute → Bool
is_named pool name a = same_text (text_of pool a.name) name

abbrev pub starts_in : List Constant → KeptAttribute → List LineStart
starts_in pool a = if is_named pool (codes "LineNumberTable") a then table_starts a.bytes else []

-- Returns the later of two starts that aren't after a byte. If both are at the same byte, it is the second.
abbrev pub later_start : ℕ → Option LineStart → LineStart → Option LineStart
later_start byte None next = if nat_le next.start byte then Some next else None
later_start byte (Some last) next =
    if nat_le next.start byte && nat_le last.start next.start then Some next else Some last

-- Returns the line of a byte: that of the latest start that isn't after it, in whatever order the entries are. A method
-- may have several tables.
abbrev pub line_of_byte : ℕ → List LineStart → Option ℕ
line_of_byte byte starts = option_map (λ s. s.line) (fold (later_start byte) None starts)

-- Returns the line of the instruction at this place of a method's code.
abbrev pub line_in : List Constant → ℕ → Code → Option ℕ
line_in pool place code =
    option_and_then (λ byte. line_of_byte byte (flat_map (starts_in pool) code.attributes)) (slice_get code.layout.starts place)

-- ---- The file

-- Returns the name whose number is the content of a SourceFile attribute.
abbrev pub name_in : List Constant → List ℕ → Option (List ℕ)
name_in pool content = if length content == 2 then utf8_at pool (number 2 content) else None

-- Returns the name in the first SourceFile attribute (JVMS 4.7.10).
abbrev pub source_name : List Constant → List KeptAttribute → Option (List ℕ)
source_name pool [] = None
source_name pool (a ∷ others) =
    if is_named pool (codes "SourceFile") a then name_in pool a.bytes else source_name pool others

-- Returns the class file of a class. The files are those of a program's last classes, the first of which has number
-- `first`.
abbrev pub file_of : ℕ → List ClassFile → ℕ → Option ClassFile
file_of first files class = if nat_lt class first then None else slice_get files (class - first)

-- Returns ` (F.java:12)` if the class file has both parts.
abbrev pub source_text : Option (List ℕ) → Option ℕ → List ℕ
source_text (Some name) (Some line) = codes " (" ++ name_text name ++ codes ":" ++ decimal line ++ codes ")"
source_text name line = []

-- Returns the line of an instruction of a method of a class file.
abbrev pub line_of : ClassFile → ℕ → ℕ → Option ℕ
line_of file method place =
    option_and_then (λ m. option_and_then (line_in file.pool place) (code_of m.attributes)) (slice_get file.methods method)

abbrev pub place_in_file : ClassFile → ℕ → ℕ → List ℕ
place_in_file file method place = source_text (source_name file.pool file.attributes) (line_of file method place)

-- Returns the source place of a method's instruction, if its class has a file.
abbrev pub place_in : Option ClassFile → ℕ → ℕ → List ℕ
place_in file method place = unwrap_or (option_map (λ f. place_in_file f method place) file) []

-- Returns the source place of a method's instruction.
abbrev pub source_place : ℕ → List ClassFile → MethodNumber → ℕ → List ℕ
source_place first files method place = place_in (file_of first files method.class) method.method place
