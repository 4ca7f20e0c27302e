-- Defines the lines of the instructions that can't run (own). They follow the order of the classes that aren't
-- built in, of their methods, and of the instructions. The class files of the last classes have the places in sources.
-- The class of the first file has number `first`.
use Rattle.std.specs.Prelude.{ℕ, List, [], ◌++◌, Option, Some, None, codes, if◌then◌else◌}
use Rattle.std.specs.Fmt.{decimal}
use Rattle.std.specs.List.{enumerate_from, flat_map}
use Rattle.escapes.specs.Escapes.{name_text}
use Rattle.escapes.specs.Keys.{member_text, method_text}
use Rattle.jvms_file.specs.declared.class_file.ClassFile.{ClassFile}
use Rattle.jvms_program.specs.declared.key.MethodKey.{MethodKey}
use Rattle.jvms_program.specs.declared.program.Body.{Body}
use Rattle.jvms_program.specs.declared.program.Class.{Class}
use Rattle.jvms_program.specs.declared.program.Instruction.{Instruction}
use Rattle.jvms_program.specs.declared.program.Method.{Method}
use Rattle.jvms_program.specs.declared.thrown.Thrown.{Thrown}
use Rattle.jvms_program.specs.declared.thrown.Thrown.TheVariants as thrown
use Rattle.jvms_program.specs.BuiltIn.{is_built_in}
use Rattle.jvms_program.specs.Program.{key_in}
use Rattle.source_lines.specs.SourceLines.{file_of, place_in}
use Rattle.needs.specs.declared.lack.Lack.{Lack}
use Rattle.needs.specs.declared.lack.Lack.TheVariants as lack
use Rattle.needs.specs.Hints.{hint_of, is_absence, unnamed_hint}
use Rattle.needs.specs.Lacks.{lack_of}
use Rattle.needs.specs.Named.{class_named, member_named}

-- Returns the name of an error. Resolution throws no others.
abbrev pub error_text : Thrown → List ℕ
error_text thrown.NoClassDefFoundError = codes "NoClassDefFoundError"
error_text thrown.NoSuchFieldError = codes "NoSuchFieldError"
error_text thrown.NoSuchMethodError = codes "NoSuchMethodError"
error_text thrown.IncompatibleClassChangeError = codes "IncompatibleClassChangeError"
error_text _ = codes "LinkageError"

abbrev pub lack_text : Lack → List ℕ
lack_text (lack.Unresolved error) = error_text error
lack_text lack.OutOfProfile = codes "OutOfProfile"

-- Returns what is named, after a space: the class if it is missing, else the member, if there is one.
abbrev pub named_text : Lack → Option (List ℕ) → Option (List ℕ × List ℕ) → List ℕ
named_text lack None member = []
named_text lack (Some class) None = codes " " ++ name_text class
named_text lack (Some class) (Some member) =
    codes " " ++ (if is_absence lack then name_text class else member_text class member.0 member.1)

abbrev pub hint_text : Lack → Option (List ℕ) → Option (List ℕ × List ℕ) → List ℕ
hint_text lack None member = unnamed_hint lack
hint_text lack (Some class) None = hint_of lack class []
hint_text lack (Some class) (Some member) = hint_of lack class member.0

-- Returns the reason with a class and a member, as `NoSuchMethodError C.m.D`.
abbrev pub reason_of : Lack → Option (List ℕ) → Option (List ℕ × List ℕ) → List ℕ
reason_of lack class member = lack_text lack ++ named_text lack class member ++ hint_text lack class member

-- Returns the reason why an instruction can't run.
abbrev pub reason_text : Lack → Instruction → List ℕ
reason_text lack i = reason_of lack (class_named i) (member_named i)

abbrev pub need_if : Instruction → Option Lack → List ℕ
need_if i None = []
need_if i (Some lack) = codes " " ++ reason_text lack i

-- Returns the reason why an instruction can't run, as ` NoSuchMethodError C.m.D`. It is empty if it can run.
abbrev pub need_text : List Class → Instruction → List ℕ
need_text program i = need_if i (lack_of program i)

-- Returns `C.m.D @i` for a method's instruction. Instructions count from 0.
abbrev pub instruction_text : MethodKey → ℕ → List ℕ
instruction_text method place = method_text method ++ codes " @" ++ decimal place

-- Returns `C.m.D @i (F.java:12) `, with the place in the source, which the class file has. `number` is the method's.
abbrev pub place_text : Option ClassFile → ℕ → MethodKey → ℕ → List ℕ
place_text file number method place = instruction_text method place ++ place_in file number place ++ codes " "

abbrev pub need_line : List ℕ → Instruction → Lack → List ℕ
need_line place i lack = place ++ reason_text lack i ++ codes "\n"

-- Returns the line of the instruction at a place, if it can't run.
abbrev pub line_if : List ℕ → Instruction → Option Lack → List ℕ
line_if place i None = []
line_if place i (Some lack) = need_line place i lack

-- Instructions, methods and classes come with their numbers, from 0.

-- Returns the line of an instruction. `text_of` is the text of each place.
abbrev pub instruction_line : List Class → (ℕ → List ℕ) → ℕ × Instruction → List ℕ
instruction_line program text_of i = line_if (text_of i.0) i.1 (lack_of program i.1)

abbrev pub body_lines : List Class → (ℕ → List ℕ) → Option Body → List ℕ
body_lines program text_of None = []
body_lines program text_of (Some body) = flat_map (instruction_line program text_of) (enumerate_from 0 body.instructions)

-- Returns the lines of a method of a class.
abbrev pub method_lines : List Class → Option ClassFile → Class → ℕ × Method → List ℕ
method_lines program file c m = body_lines program (place_text file m.0 (key_in c m.1)) m.1.body

abbrev pub class_lines : List Class → ℕ → List ClassFile → ℕ × Class → List ℕ
class_lines program first files c =
    if is_built_in c.1.name then [] else flat_map (method_lines program (file_of first files c.0) c.1) (enumerate_from 0 c.1.methods)

abbrev pub needs_text : List Class → ℕ → List ClassFile → List ℕ
needs_text program first files = flat_map (class_lines program first files) (enumerate_from 0 program)
