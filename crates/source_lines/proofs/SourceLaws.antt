-- The place in the source by the lines of all instructions.
use Rattle.std.proofs.Common.{◌≡◌, ℕ, List, [], Option, Some, None, refl, ap, ◌∙◌}
use Rattle.std.proofs.lemmas.Option.{slice_get-map}
use Rattle.std.specs.List.{flat_map, slice_get}
use Rattle.std.specs.Option.{option_and_then, option_map, unwrap_or}
use Rattle.jvms_file.specs.declared.class_file.ClassFile.{ClassFile}
use Rattle.jvms_file.specs.declared.class_file.Code.{Code}
use Rattle.jvms_file.specs.declared.class_file.Constant.{Constant}
use Rattle.jvms_file.specs.declared.class_file.MethodInfo.{MethodInfo}
use Rattle.jvms_program.specs.Meaning.{code_of}
use Rattle.source_lines.specs.Lines.{code_lines, file_name, lines_of}
use Rattle.source_lines.specs.SourceLines.{line_in, line_of_byte, place_in, source_name, source_text, starts_in}

mapped : (f : ℕ → Option ℕ) (at : Option ℕ) → option_and_then (λ l. l) (option_map f at) ≡ option_and_then f at
mapped f None = refl
mapped f (Some byte) = refl

line_of_code : (pool : List Constant) (code : Code) (place : ℕ) →
    option_and_then (λ l. l) (slice_get (code_lines pool code) place) ≡ line_in pool place code
line_of_code pool code place =
    let f = λ (byte : ℕ). line_of_byte byte (flat_map (starts_in pool) code.attributes) in
    ap (λ at. option_and_then (λ l. l) at) (slice_get-map f code.layout.starts place) ∙ mapped f (slice_get code.layout.starts place)

line_of_any : (pool : List Constant) (code : Option Code) (place : ℕ) →
    option_and_then (λ l. l) (slice_get (unwrap_or (option_map (code_lines pool) code) []) place)
    ≡ option_and_then (line_in pool place) code
line_of_any pool None place = refl
line_of_any pool (Some code) place = line_of_code pool code place

line_of_method : (pool : List Constant) (method : Option MethodInfo) (place : ℕ) →
    option_and_then (line_in pool place) (option_and_then (λ (m : MethodInfo). code_of m.attributes) method)
    ≡ option_and_then (λ (m : MethodInfo). option_and_then (line_in pool place) (code_of m.attributes)) method
line_of_method pool None place = refl
line_of_method pool (Some method) place = refl

pub place_by_lines : (file : Option ClassFile) (method place : ℕ) →
    source_text (file_name file) (option_and_then (λ l. l) (slice_get (lines_of file method) place))
    ≡ place_in file method place
place_by_lines None method place = refl
place_by_lines (Some file) method place =
    ap (source_text (source_name file.pool file.attributes)) (
    line_of_any file.pool (option_and_then (λ m. code_of m.attributes) (slice_get file.methods method)) place
    ∙ line_of_method file.pool (slice_get file.methods method) place
    )
