-- The parts of a text between the occurrences of a byte.
use Rattle.std.specs.Prelude.{◌≡◌, ℕ, ◌<◌, ◌≤◌, ◌⊎◌, false, true, List, [], ◌∷◌, ◌++◌, eqb}
use Rattle.std.specs.List.{All, slice_split}
use Rattle.std.specs.Str.Parse.{IsNumeral}
use Rattle.std.proofs.Common.{ap, arith, get_or, ◌∙◌}
use Rattle.std.proofs.lemmas.Bool.Decides.{nat_tests}
use Rattle.std.proofs.lemmas.List.Elements.{All-from_get_or}
use Rattle.std.proofs.lemmas.List.Splits.{slice_split_at, slice_split_none}
use Rattle.std.proofs.lemmas.Str.Parse.{digit_at}

-- Returns the parts of a text between the occurrences of a byte.
abbrev pub parts_at : ℕ → List ℕ → List (List ℕ)
parts_at byte text = slice_split (λ b. eqb b byte) text

-- The byte doesn't occur in the text.
abbrev pub Lacks : ℕ → List ℕ → Type 0
Lacks byte text = All (λ b. eqb b byte ≡ false) text

-- A text in which the byte doesn't occur is one part.
pub one_part : (byte : ℕ) (text : List ℕ) → Lacks byte text → parts_at byte text ≡ text ∷ []
one_part byte text none = slice_split_none (λ b. eqb b byte) text none

same_byte : (byte : ℕ) → eqb byte byte ≡ true
same_byte byte = grind (arith, nat_tests)

-- The first part ends at the first occurrence of the byte.
pub first_part : (byte : ℕ) (part others : List ℕ) → Lacks byte part → parts_at byte (part ++ byte ∷ others) ≡ part ∷ parts_at byte others
first_part byte part others none = slice_split_at (λ b. eqb b byte) part byte others none (same_byte byte)

other_byte : (b byte : ℕ) → (48 ≤ b) × (b ≤ 57) → (byte < 48) ⊎ (57 < byte) → eqb b byte ≡ false
other_byte b byte digit other = grind (arith, nat_tests)

-- A byte that is no digit doesn't occur in a numeral.
pub numeral_lacks : (byte : ℕ) (digits : List ℕ) → IsNumeral 10 digits → (byte < 48) ⊎ (57 < byte) → Lacks byte digits
numeral_lacks byte digits numeral other =
    All-from_get_or (λ b. eqb b byte ≡ false) digits 0 (λ i inside. other_byte (get_or digits i 0) byte (digit_at digits i numeral.1 inside) other)

-- Two numerals around a byte that is no digit are the parts of the text.
pub two_parts : (byte : ℕ) (text first second : List ℕ) → (byte < 48) ⊎ (57 < byte) → IsNumeral 10 first → IsNumeral 10 second → text ≡ first ++ byte ∷ second
    → parts_at byte text ≡ first ∷ second ∷ []
two_parts byte text first second other one two e =
    ap (parts_at byte) e ∙ first_part byte first second (numeral_lacks byte first one other)
    ∙ ap (λ ps. first ∷ ps) (one_part byte second (numeral_lacks byte second two other))
