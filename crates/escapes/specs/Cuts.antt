-- Lists that are split at the first of a byte (own).
use Rattle.std.specs.Prelude.{◌≡◌, ◌≢◌, ℕ, Bool, false, ◌==◌, List, ◌∷◌, ◌++◌, Option, Some, None, count_by}
use Rattle.std.specs.List.{list_any}

abbrev pub has : ℕ → List ℕ → Bool
has b bytes = list_any (λ x. x == b) bytes

-- The parts before and after the first such byte, or None if there is none.
abbrev pub IsCut : ℕ → List ℕ → Option (List ℕ × List ℕ) → Type 0
IsCut b bytes (Some x) = (bytes ≡ x.0 ++ b ∷ x.1) × (has b x.0 ≡ false)
IsCut b bytes None = has b bytes ≡ false

-- The parts before, between and after the first two such bytes, or None if there are fewer.
abbrev pub IsCutTwice : ℕ → List ℕ → Option (List ℕ × List ℕ × List ℕ) → Type 0
IsCutTwice b bytes (Some x) = (bytes ≡ x.0 ++ b ∷ (x.1 ++ b ∷ x.2)) × (has b x.0 ≡ false) × (has b x.1 ≡ false)
IsCutTwice b bytes None = (xs ys zs : List ℕ) → has b xs ≡ false → has b ys ≡ false → bytes ≢ xs ++ b ∷ (ys ++ b ∷ zs)

-- Returns the number of dots in a text.
abbrev pub dots_in : List ℕ → ℕ
dots_in text = count_by (λ b. b == 46) text
