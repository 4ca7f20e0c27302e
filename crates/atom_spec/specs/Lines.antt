-- Defines how the lines of a specification are spelled.
use Rattle.std.specs.Prelude.{◌≡◌, ◌≢◌, ℕ, Bool, true, false, ◌==◌, if◌then◌else◌, List, [], ◌∷◌, ◌++◌, codes}
use Rattle.jvms_program.specs.declared.key.MethodKey.{MethodKey}
use Rattle.escapes.specs.declared.sort.NameSort.TheVariants as sort
use Rattle.escapes.specs.Escapes.{name_text}
use Rattle.escapes.specs.Keys.{IsNameOf, IsMember, member_text}
use Rattle.velodrome.specs.declared.specification.Pattern.{Pattern}
use Rattle.velodrome.specs.declared.specification.Pattern.TheVariants as pattern
use Rattle.velodrome.specs.declared.specification.SpecificationLine.{SpecificationLine}

-- Returns the text of a pattern: `*`, `C.*`, `C.m` or `C.m.D`.
abbrev pub pattern_text : Pattern → List ℕ
pattern_text pattern.All = codes "*"
pattern_text (pattern.Class class) = name_text class ++ 46 ∷ codes "*"
pattern_text (pattern.Named class name) = name_text class ++ 46 ∷ name_text name
pattern_text (pattern.Exactly class name descriptor) = member_text class name descriptor

-- A line may have this pattern: its names and its descriptor are well formed (JVMS 4.2, 4.3). `C.*` is the pattern of a
-- class, so no name in a pattern `C.m` is `*`.
abbrev pub IsPattern : Pattern → Type 0
IsPattern pattern.All = Unit {0}
IsPattern (pattern.Class class) = IsNameOf sort.Class class
IsPattern (pattern.Named class name) = IsNameOf sort.Class class × IsNameOf sort.Method name × (name ≢ codes "*")
IsPattern (pattern.Exactly class name descriptor) = IsMember sort.Method sort.MethodDescriptor class name descriptor

-- Returns the word for atomic or plain.
abbrev pub word_text : Bool → List ℕ
word_text true = codes "atomic"
word_text false = codes "plain"

-- Returns the text of a line: the word, one space and the pattern.
abbrev pub line_text : SpecificationLine → List ℕ
line_text l = word_text l.is_atomic ++ 32 ∷ pattern_text l.pattern

-- A specification may have this line.
abbrev pub IsLine : SpecificationLine → Type 0
IsLine l = IsPattern l.pattern

-- Decides whether a line is skipped: it is empty or begins with `#`.
abbrev pub is_skipped : List ℕ → Bool
is_skipped [] = true
is_skipped (b ∷ bs) = b == 35
