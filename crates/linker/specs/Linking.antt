-- Linking (JVMS 5.3): the program of class files, or the first test that one of their classes fails. Each test is
-- applied to all classes, in order, before the next test.
use Rattle.std.specs.Prelude.{◌≡◌, ℕ, Bool, true, not, ◌||◌, ◌&&◌, List, [], ◌++◌, is_some, codes, map, length, take, Option, Some, None, Result, Ok, Err, slice_index_or}
use Rattle.std.specs.List.{find, list_any, position, range_with_len, IsDistinct}
use Rattle.jvms_file.specs.declared.class_file.ClassFile.{ClassFile}
use Rattle.jvms_program.specs.declared.program.Class.{Class}
use Rattle.jvms_file.specs.Results.{◌>>=◌}
use Rattle.jvms_file.specs.Names.{same_text}
use Rattle.jvms_program.specs.BuiltIn.{object, is_built_in, built_in_classes}
use Rattle.jvms_program.specs.Meaning.{meaning}
use Rattle.jvms_program.specs.Program.{class_named, program_of}
use Rattle.jvms_program.specs.Resolution.{ancestry, is_interface_kind, names_class, names_interface, supers_of}
use Rattle.linker.specs.declared.fault.LinkFault.{LinkFault}
use Rattle.linker.specs.declared.fault.LinkFault.TheVariants as fault

-- ---- The names of classes

abbrev pub names_of : List Class → List (List ℕ)
names_of classes = map (λ c. c.name) classes

-- No two of these classes have one name.
abbrev pub HaveDistinctNames : List Class → Type 0
HaveDistinctNames classes = IsDistinct same_text (names_of classes)

-- Decides whether the name at a place is that of an earlier place.
abbrev pub repeats : List (List ℕ) → ℕ → Bool
repeats names n = list_any (same_text (slice_index_or names n [])) (take n names)

-- Returns the first place with the name of an earlier one.
abbrev pub repeated_name : List (List ℕ) → Option ℕ
repeated_name names = find (repeats names) (range_with_len 0 (length names))

-- Returns the first place with the name of a built-in class.
abbrev pub built_in_name : List Class → Option ℕ
built_in_name classes = position (λ c. is_built_in c.name) classes

-- ---- Superclasses and superinterfaces (JVMS 5.3.5)

-- Decides whether the superclass or a superinterface of a class is missing.
abbrev pub lacks_super : List Class → Class → Bool
lacks_super program c = list_any (λ name. not (is_some (class_named program name))) (supers_of c)

-- Returns the first place of a class whose superclass or a superinterface is missing.
abbrev pub missing_super : List Class → List Class → Option ℕ
missing_super program classes = position (lacks_super program) classes

-- Decides whether a class is one of the built-in classes that no class extends (own).
abbrev pub is_never_extended : List ℕ → Bool
is_never_extended name =
    same_text name (codes "java/lang/String") || same_text name (codes "java/lang/Class")
    || same_text name (codes "java/lang/System") || same_text name (codes "java/io/PrintStream")

-- Decides whether the superclass of a class is missing or of a wrong kind. It is of a wrong kind if it is an interface,
-- or one that no class extends. An interface extends no other class than java/lang/Object.
abbrev pub has_wrong_superclass : List Class → Class → Bool
has_wrong_superclass program c = is_wrong c.superclass
  where
    is_wrong : Option (List ℕ) → Bool
    is_wrong None = true
    is_wrong (Some name) =
        names_interface program name || is_never_extended name || (is_interface_kind c.kind && not (same_text name object))

-- Decides whether a superinterface is no interface.
abbrev pub has_wrong_interface : List Class → Class → Bool
has_wrong_interface program c = list_any (λ name. not (names_interface program name)) c.interfaces

-- Returns the first place of a class with a superclass or superinterface of a wrong kind.
abbrev pub wrong_super : List Class → List Class → Option ℕ
wrong_super program classes = position (λ c. has_wrong_superclass program c || has_wrong_interface program c) classes

-- Decides whether a class is in the ancestry of its superclass or of a superinterface. So it is its own superclass or
-- superinterface, over one or more steps.
abbrev pub is_circular : List Class → Class → Bool
is_circular program c = list_any (λ super. names_class c.name (ancestry program super)) (supers_of c)

-- Returns the first place of a circular class.
abbrev pub circular : List Class → List Class → Option ℕ
circular program classes = position (is_circular program) classes

-- ---- Linking

-- Returns the fault of the class at a place, if a place was found.
abbrev pub refusal_at : (ℕ → LinkFault) → Option ℕ → Result (Unit {0}) LinkFault
refusal_at fault None = Ok tt
refusal_at fault (Some place) = Err (fault place)

-- Returns the first test that one of these classes fails.
abbrev pub refusal : List Class → Result (Unit {0}) LinkFault
refusal classes = do
  _ ← refusal_at (λ n. fault.BuiltInName n) (built_in_name classes)
  _ ← refusal_at (λ n. fault.RepeatedClass n) (repeated_name (names_of classes))
  _ ← refusal_at (λ n. fault.MissingSuper n) (missing_super (built_in_classes ++ classes) classes)
  _ ← refusal_at (λ n. fault.SuperKind n) (wrong_super (built_in_classes ++ classes) classes)
  refusal_at (λ n. fault.Circular n) (circular (built_in_classes ++ classes) classes)

-- Returns the program of class files, or the first test that one of their classes fails.
unfoldable pub link_result : List ClassFile → Result (List Class) LinkFault
link_result files = do
  _ ← refusal (map meaning files)
  Ok (program_of files)

-- The result is the one of the definition, unless memory ran out.
abbrev pub Answers : {X : Type 0} → Result X LinkFault → Result X LinkFault → Type 0
Answers (Ok x) said = said ≡ Ok x
Answers (Err fault.Memory) said = Unit {0}
Answers (Err f) said = said ≡ Err f
