-- Defines the lines of a specification that match no method of a program's classes, except built-in ones (own).
use Rattle.std.specs.Prelude.{◌≡◌, ℕ, Bool, true, not, ◌&&◌, List, [], ◌++◌, Some, codes, if◌then◌else◌, slice_get}
use Rattle.std.specs.List.{flat_map, list_any}
use Rattle.atom_spec.specs.Lines.{line_text}
use Rattle.jvms_file.specs.declared.class_file.ClassFile.{ClassFile}
use Rattle.jvms_program.specs.declared.program.Class.{Class}
use Rattle.jvms_program.specs.BuiltIn.{is_built_in}
use Rattle.jvms_program.specs.Program.{class_number, key_in}
use Rattle.velodrome.specs.declared.specification.Pattern.{Pattern}
use Rattle.velodrome.specs.declared.specification.Pattern.TheVariants as pattern
use Rattle.velodrome.specs.declared.specification.SpecificationLine.{SpecificationLine}
use Rattle.velodrome.specs.Specification.{Specification, is_of}
use Rattle.needs.specs.Lines.{needs_text}
use Rattle.needs.specs.declared.unmatched.Facts.{Facts}

-- Decides whether a pattern matches a method of a class that isn't built in.
abbrev pub matches_in : Pattern → Class → Bool
matches_in p c = not (is_built_in c.name) && list_any (λ m. is_of p (key_in c m)) c.methods

-- Returns a line such as `spec atomic C.m matches no method`.
abbrev pub no_match_line : SpecificationLine → List ℕ
no_match_line l = codes "spec " ++ line_text l ++ codes " matches no method\n"

abbrev pub unmatched_line : List Class → SpecificationLine → List ℕ
unmatched_line program l = if list_any (matches_in l.pattern) program then [] else no_match_line l

-- Returns the lines for those lines of a specification that match no method.
abbrev pub unmatched_lines : List Class → Specification → List ℕ
unmatched_lines program lines = flat_map (unmatched_line program) lines

-- Returns all that is missing: first for the classes of a program, then for a specification.
abbrev pub missing_text : List Class → ℕ → List ClassFile → Specification → List ℕ
missing_text program first files lines = needs_text program first files ++ unmatched_lines program lines

-- ---- How a class is found

-- Each class is the one that its name finds.
pub record FindsEach (program : List Class) : Type 0 where
  pub found : (n : ℕ) (c : Class) → slice_get program n ≡ Some c → class_number program c.name ≡ Some n

-- The pattern is of methods of the class of this name.
abbrev pub NamesClass : Pattern → List ℕ → Type 0
NamesClass pattern.All name = ⊥
NamesClass (pattern.Class c) name = name ≡ c
NamesClass (pattern.Named c n) name = name ≡ c
NamesClass (pattern.Exactly c n d) name = name ≡ c

-- These are the facts of a program.
pub record AreFacts (program : List Class) (facts : Facts) : Type 0 where
  pub each : facts.finds_each ≡ true → FindsEach program
  pub method : facts.has_method ≡ list_any (matches_in pattern.All) program
