-- The results of parsing a text (own).
use Rattle.std.specs.Prelude.{◌≡◌, ◌≢◌, ℕ, ◌<◌, List, ◌++◌, Option, Some, None}
use Rattle.escapes.specs.Escapes.{unit_text}

-- The text is that of the result, which has the wanted form. If there is no result, the text is that of nothing of this
-- form.
abbrev pub IsReadAs : {X : Type 0} → (X → Type 0) → (X → List ℕ) → List ℕ → Option X → Type 0
IsReadAs Is text_of text (Some x) = Is x × (text ≡ text_of x)
IsReadAs {X} Is text_of text None = (x : X) → Is x → text ≢ text_of x

-- A unit has 16 bits.
abbrev pub IsUnit : ℕ → Type 0
IsUnit u = u < 0x10000

-- The text begins with a written unit, or with none.
abbrev pub IsUnitAt : List ℕ → Option (ℕ × List ℕ) → Type 0
IsUnitAt text (Some x) = IsUnit x.0 × (text ≡ unit_text x.0 ++ x.1)
IsUnitAt text None = (u : ℕ) (behind : List ℕ) → IsUnit u → text ≢ unit_text u ++ behind
