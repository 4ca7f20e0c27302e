-- Defines the parts that are read by functions of their own.
use Rattle.std.specs.Prelude.{◌≡◌, ◌≢◌, ℕ, suc, ◌+◌, ◌≤◌, Bool, true, false, List, [], ◌∷◌, ◌++◌, length}
use Rattle.velodrome.specs.declared.specification.Pattern.{Pattern}
use Rattle.velodrome.specs.declared.specification.Pattern.TheVariants as pattern
use Rattle.velodrome.specs.declared.specification.SpecificationLine.{SpecificationLine}
use Rattle.atom_spec.specs.Lines.{IsLine, IsPattern, line_text, is_skipped}
use Rattle.atom_spec.specs.Specs.{lines_of, AreLines}

abbrev pub IsWord : Bool → Type 0
IsWord b = Unit {0}

-- Returns the number of dots in the text of a pattern.
abbrev pub dots_of : Pattern → ℕ
dots_of pattern.All = 0
dots_of (pattern.Class class) = 1
dots_of (pattern.Named class name) = 1
dots_of (pattern.Exactly class name descriptor) = 2

-- A line may have this pattern, and the pattern's text has this number of dots.
pub record IsPatternWith (dots : ℕ) (p : Pattern) : Type 0 where
  pub has : dots_of p ≡ dots
  pub is : IsPattern p

-- The line is neither skipped nor a line of a specification.
pub record IsNoLine (line : List ℕ) : Type 0 where
  pub kept : is_skipped line ≡ false
  pub none : (l : SpecificationLine) → IsLine l → line ≢ line_text l

-- With `true`, the line was read: appended to the lines or skipped. With `false`, it is faulty.
abbrev pub Adds : List ℕ → Bool → List SpecificationLine → List SpecificationLine → Type 0
Adds line true old new = (before : List (List ℕ)) → AreLines before old → AreLines (before ++ line ∷ []) new
Adds line false old new = IsNoLine line

-- The state of reading a text: the lines before line `number` have been read, and the rest is left.
pub record IsReadUpTo (text rest : List ℕ) (number : ℕ) (read : List SpecificationLine) : Type 0 where
  pub before : List (List ℕ)
  pub split : lines_of text ≡ before ++ lines_of rest
  pub count : number ≡ suc (length before)
  pub are : AreLines before read
  pub within : number + length rest ≤ length text + 1
