-- Defines the lines of missing superclasses and superinterfaces of class files (own). They follow the order of the
-- files, and in each the superclass precedes the superinterfaces. There are none if and only if linking finds none that
-- is missing (JVMS 5.3.5).
use Rattle.std.specs.Prelude.{ℕ, List, [], ◌++◌, None, Some, codes, if◌then◌else◌, is_some, map}
use Rattle.std.specs.List.{flat_map}
use Rattle.std.specs.Option.{option_to_list}
use Rattle.escapes.specs.Escapes.{name_text}
use Rattle.jvms_file.specs.declared.class_file.ClassFile.{ClassFile}
use Rattle.jvms_program.specs.declared.program.Class.{Class}
use Rattle.jvms_program.specs.declared.thrown.Thrown.TheVariants as thrown
use Rattle.jvms_program.specs.Meaning.{meaning}
use Rattle.jvms_program.specs.Program.{class_named, program_of}
use Rattle.needs.specs.declared.lack.Lack.TheVariants as lack
use Rattle.needs.specs.Lines.{reason_of}

-- Returns `C NoClassDefFoundError D`, with a hint why a compiler may have put D there.
abbrev pub super_line : List ℕ → List ℕ → List ℕ
super_line class name =
    name_text class ++ codes " " ++ reason_of (lack.Unresolved thrown.NoClassDefFoundError) (Some name) None ++ codes "\n"

-- Returns the line of a superclass or superinterface of this name, if it is missing.
abbrev pub line_of_super : List Class → List ℕ → List ℕ → List ℕ
line_of_super program class name = if is_some (class_named program name) then [] else super_line class name

-- Returns the names of the superclass and of the superinterfaces, in this order.
abbrev pub named_supers : Class → List (List ℕ)
named_supers c = option_to_list c.superclass ++ c.interfaces

abbrev pub lines_of_supers : List Class → Class → List ℕ
lines_of_supers program c = flat_map (line_of_super program c.name) (named_supers c)

abbrev pub missing_supers : List ClassFile → List ℕ
missing_supers files = flat_map (lines_of_supers (program_of files)) (map meaning files)
