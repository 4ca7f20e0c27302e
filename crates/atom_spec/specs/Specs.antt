-- Defines specifications as texts. The text after the last LF is a line too, and it is skipped if it is empty.
use Rattle.std.specs.Prelude.{◌≡◌, ◌≢◌, ℕ, suc, Bool, false, not, ◌==◌, List, [], ◌∷◌, ◌++◌, length, filter, map, Result, Ok, Err}
use Rattle.std.specs.List.{slice_split, AllByRecursion}
use Rattle.velodrome.specs.declared.specification.SpecificationLine.{SpecificationLine}
use Rattle.atom_spec.specs.declared.fault.SpecFault.{SpecFault}
use Rattle.atom_spec.specs.declared.fault.SpecFault.TheVariants as fault
use Rattle.atom_spec.specs.Lines.{IsLine, line_text, is_skipped}

-- Returns the lines of a text.
abbrev pub lines_of : List ℕ → List (List ℕ)
lines_of text = slice_split (λ b. b == 10) text

-- The lines that are not skipped are those of the specification.
pub record AreLines (lines : List (List ℕ)) (specification : List SpecificationLine) : Type 0 where
  pub are_valid : AllByRecursion IsLine specification
  pub written : filter (λ l. not (is_skipped l)) lines ≡ map line_text specification

-- Line `line` is the first that is neither skipped nor a line of a specification.
pub record IsFaulty (text : List ℕ) (line : ℕ) : Type 0 where
  pub before : List (List ℕ)
  pub here : List ℕ
  pub after : List (List ℕ)
  pub specification : List SpecificationLine
  pub split : lines_of text ≡ before ++ here ∷ after
  pub count : line ≡ suc (length before)
  pub first : AreLines before specification
  pub kept : is_skipped here ≡ false
  pub none : (l : SpecificationLine) → IsLine l → here ≢ line_text l

-- The result is the specification of the text, or its first faulty line. If memory ran out the result says nothing of
-- the text.
abbrev pub IsRead : List ℕ → Result (List SpecificationLine) SpecFault → Type 0
IsRead text (Ok specification) = AreLines (lines_of text) specification
IsRead text (Err (fault.Syntax line)) = IsFaulty text line
IsRead text (Err fault.Memory) = Unit {0}
