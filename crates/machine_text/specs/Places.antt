-- Classes, and positions in methods, as the debugger writes them (own).
use Rattle.std.specs.Prelude.{ℕ, List, [], ◌++◌, codes, slice_get, unwrap_or}
use Rattle.std.specs.Fmt.{decimal}
use Rattle.std.specs.Option.{option_map}
use Rattle.jvms_program.specs.declared.number.MethodNumber.{MethodNumber}
use Rattle.jvms_program.specs.declared.program.Class.{Class}
use Rattle.jvms_program.specs.Program.{key_of}
use Rattle.escapes.specs.Escapes.{name_text}
use Rattle.escapes.specs.Keys.{method_text}

-- Returns the name of the class of a number.
abbrev pub class_name_text : List Class → ℕ → List ℕ
class_name_text program c = unwrap_or (option_map (λ class. name_text class.name) (slice_get program c)) []

-- Returns the text `C.m.D @i` of an instruction of a method.
abbrev pub place_text : List Class → MethodNumber → ℕ → List ℕ
place_text program n i = unwrap_or (option_map method_text (key_of program n)) [] ++ codes " @" ++ decimal i
