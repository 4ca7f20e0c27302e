-- Lists of values in texts.
use Rattle.std.specs.Prelude.{◌≡◌, ℕ, List, [], ◌∷◌, ◌++◌, Option, MatchOption}

-- The value is the last of the list. There is none if the list is empty.
abbrev pub IsLastOf : {X : Type 0} → List X → Option X → Type 0
IsLastOf {X = X} values last = MatchOption last (values ≡ []) (λ value. (front : List X) × (values ≡ front ++ value ∷ []))

-- The text writes the value, if there is one. The value, and no other that the text writes, may be listed after values of
-- which this is the last.
abbrev pub ReadsNext : {X : Type 0} → (List ℕ → X → Type 0) → (List X → Type 0) → Option X → List ℕ → Option X → Type 0
ReadsNext {X = X} Writes AreOrdered last text next =
    (before : List X) → AreOrdered before → IsLastOf before last
    → MatchOption next ((value : X) → Writes text value → ¬ (AreOrdered (before ++ value ∷ []))) (λ value. Writes text value × AreOrdered (before ++ value ∷ []))
