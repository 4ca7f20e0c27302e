-- Programs (JVMS 5.3): a map from class name to class, as the list of its classes. No two have the same name.
use Rattle.std.specs.Prelude.{◌≡◌, ℕ, ◌&&◌, List, ◌++◌, map, Option, IfSome, IsTrue, slice_get}
use Rattle.std.specs.Option.{option_and_then, option_map}
use Rattle.std.specs.List.{AllByRecursion, find, position}
use Rattle.jvms_file.specs.declared.class_file.ClassFile.{ClassFile}
use Rattle.jvms_program.specs.declared.program.Class.{Class}
use Rattle.jvms_program.specs.declared.program.Field.{Field}
use Rattle.jvms_program.specs.declared.program.Method.{Method}
use Rattle.jvms_program.specs.declared.program.Instruction.{Instruction}
use Rattle.jvms_program.specs.declared.program.Instruction.TheVariants as instruction
use Rattle.jvms_program.specs.declared.number.FieldNumber.{FieldNumber}
use Rattle.jvms_program.specs.declared.key.FieldKey.{FieldKey}
use Rattle.jvms_program.specs.declared.number.MethodNumber.{MethodNumber}
use Rattle.jvms_program.specs.declared.key.MethodKey.{MethodKey}
use Rattle.jvms_file.specs.Names.{same_text, is_initializer_name}
use Rattle.jvms_file.specs.Descriptors.{field_type, method_type}
use Rattle.jvms_program.specs.Meaning.{meaning}
use Rattle.jvms_program.specs.BuiltIn.{built_in_classes, no_flags}

-- Returns the program of class files: the built-in classes, then theirs in order.
unfoldable pub program_of : List ClassFile → List Class
program_of files = built_in_classes ++ map meaning files

-- The type that an instruction keeps is the one that its descriptor spells.
abbrev pub IsSpelledInstruction : Instruction → Type 0
IsSpelledInstruction (instruction.Field how r) = r.field_type ≡ field_type r.descriptor
IsSpelledInstruction (instruction.Invoke how r) = r.method_type ≡ method_type r.descriptor
IsSpelledInstruction _ = Unit {0}

-- The types that methods and fields keep, and those of the instructions of a method's code, are the ones that their
-- descriptors spell.
abbrev pub IsSpelledMethod : Method → Type 0
IsSpelledMethod m =
    (m.method_type ≡ method_type m.descriptor) × IfSome m.body (λ b. AllByRecursion IsSpelledInstruction b.instructions)

abbrev pub IsSpelledClass : Class → Type 0
IsSpelledClass c = AllByRecursion (λ f. f.field_type ≡ field_type f.descriptor) c.fields × AllByRecursion IsSpelledMethod c.methods

-- A <clinit> keeps no flag.
abbrev pub HasItsFlags : Method → Type 0
HasItsFlags m = IsTrue (is_initializer_name m.name) → m.flags ≡ no_flags

-- A list of classes is a program: it begins with the built-in classes, types are those that descriptors spell, and
-- <clinit> has no flags.
pub record IsProgram (program : List Class) : Type 0 where
  pub built_ins : (own : List Class) × (program ≡ built_in_classes ++ own)
  pub spelled : AllByRecursion IsSpelledClass program
  pub initializers : AllByRecursion (λ c. AllByRecursion HasItsFlags c.methods) program

-- Returns the class of a name.
abbrev pub class_named : List Class → List ℕ → Option Class
class_named program name = find (λ c. same_text c.name name) program

-- Returns the number of the class of a name: its place in the list.
abbrev pub class_number : List Class → List ℕ → Option ℕ
class_number program name = position (λ c. same_text c.name name) program

-- Returns the number of a class's method of this name and descriptor.
abbrev pub declared_number : Class → List ℕ → List ℕ → Option ℕ
declared_number c name descriptor =
    position (λ m. same_text m.name name && same_text m.descriptor descriptor) c.methods

-- Returns the number of a class's field of this name and descriptor.
abbrev pub declared_field_number : Class → List ℕ → List ℕ → Option ℕ
declared_field_number c name descriptor =
    position (λ f. same_text f.name name && same_text f.descriptor descriptor) c.fields

-- Returns the key of a field: the class that declares it, its name and its descriptor.
abbrev pub field_key : Class → Field → FieldKey
field_key c f = record { class = c.name; name = f.name; descriptor = f.descriptor }

-- Returns the field of a number.
abbrev pub field_at : List Class → FieldNumber → Option Field
field_at program n = option_and_then (λ c. slice_get c.fields n.field) (slice_get program n.class)

abbrev pub field_key_at : List Class → FieldNumber → Option FieldKey
field_key_at program n =
    option_and_then (λ c. option_map (field_key c) (slice_get c.fields n.field)) (slice_get program n.class)

-- Returns the method of a number.
abbrev pub method_at : List Class → MethodNumber → Option Method
method_at program n = option_and_then (λ c. slice_get c.methods n.method) (slice_get program n.class)

-- Returns the key of a method in a trace: the class that declares it, its name and its descriptor.
abbrev pub key_in : Class → Method → MethodKey
key_in c m = record { class = c.name; name = m.name; descriptor = m.descriptor }

abbrev pub key_of : List Class → MethodNumber → Option MethodKey
key_of program n =
    option_and_then (λ c. option_map (key_in c) (slice_get c.methods n.method)) (slice_get program n.class)
