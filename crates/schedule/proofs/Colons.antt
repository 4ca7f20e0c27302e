-- Priorities in texts: numbers that are separated by colons.
use Rattle.std.proofs.Common.{◌≡◌, ℕ, ◌<◌, ◌^◌, ◌⊎◌, List, ◌∷◌, ◌++◌, arith, inr, refl, subst, sym, ◌∙◌}
use Rattle.schedule.specs.Parts.{Lacks, numeral_lacks}
use Rattle.schedule.specs.Schedules.{WritesChanges, WritesDepth, WritesNumber, WritesRanking, WritesTurns}
use Rattle.schedule.proofs.Texts.{cut_once, never_cut}

colon : (58 < 48) ⊎ (57 < 58)
colon = inr (omega arith)

-- ---- A depth and a number of turns

-- If the text is cut at its first colon, the parts write the two numbers.
pub changes_are_cut : (text front back : List ℕ) (depth turns : ℕ) → text ≡ front ++ 58 ∷ back → Lacks 58 front → WritesChanges text depth turns
    → WritesDepth front depth × WritesTurns back turns
changes_are_cut text front back depth turns e none (first, second, one, two, f) =
    let same = cut_once 58 text front back first second e none f (numeral_lacks 58 first one.0.0 colon) in
    let P : List ℕ → Type 0 = λ digits. WritesDepth digits depth in
    let Q : List ℕ → Type 0 = λ digits. WritesTurns digits turns in
    (subst P (sym same.0) one, subst Q (sym same.1) two)

-- The text has a colon.
pub changes_have_colon : (text : List ℕ) (depth turns : ℕ) → Lacks 58 text → ¬ (WritesChanges text depth turns)
changes_have_colon text depth turns none (first, second, one, two, f) = never_cut 58 text first second none f (numeral_lacks 58 first one.0.0 colon)

same_changes : (text : List ℕ) (a b c d : ℕ) → WritesChanges text a b → WritesChanges text c d → (a ≡ c) × (b ≡ d)
same_changes text a b c d (first, second, one, two, f) other =
    let cut = changes_are_cut text first second c d f (numeral_lacks 58 first one.0.0 colon) other in
    (sym one.0.1 ∙ cut.0.0.1, sym two.0.1 ∙ cut.1.0.1)

-- ---- All four numbers

-- The text writes a stream, a depth and a number of turns.
abbrev pub WritesRest : List ℕ → ℕ → ℕ → ℕ → Type 0
WritesRest text stream depth turns =
    (second : List ℕ) × (rest : List ℕ) × WritesNumber second stream × (stream < 2 ^ 64) × WritesChanges rest depth turns × (text ≡ second ++ 58 ∷ rest)

-- If the text is cut at its first colon, the parts write the state and the other numbers.
pub ranking_is_cut : (text front back : List ℕ) (state stream depth turns : ℕ) → text ≡ front ++ 58 ∷ back → Lacks 58 front → WritesRanking text state stream depth turns
    → (WritesNumber front state × (state < 2 ^ 64)) × WritesRest back stream depth turns
ranking_is_cut text front back state stream depth turns e none (first, second, rest, one, two, low, small, changes, f) =
    let same = cut_once 58 text front back first (second ++ 58 ∷ rest) e none f (numeral_lacks 58 first one.0 colon) in
    let P : List ℕ → Type 0 = λ digits. WritesNumber digits state in
    ((subst P (sym same.0) one, low), (second, rest, two, small, changes, same.1))

-- The text has a colon.
pub ranking_has_colon : (text : List ℕ) (state stream depth turns : ℕ) → Lacks 58 text → ¬ (WritesRanking text state stream depth turns)
ranking_has_colon text state stream depth turns none (first, second, rest, one, two, low, small, changes, f) =
    never_cut 58 text first (second ++ 58 ∷ rest) none f (numeral_lacks 58 first one.0 colon)

-- If the rest is cut at its first colon, the parts write the stream and the changes.
pub rest_is_cut : (text front back : List ℕ) (stream depth turns : ℕ) → text ≡ front ++ 58 ∷ back → Lacks 58 front → WritesRest text stream depth turns
    → (WritesNumber front stream × (stream < 2 ^ 64)) × WritesChanges back depth turns
rest_is_cut text front back stream depth turns e none (second, rest, two, small, changes, f) =
    let same = cut_once 58 text front back second rest e none f (numeral_lacks 58 second two.0 colon) in
    let P : List ℕ → Type 0 = λ digits. WritesNumber digits stream in
    let Q : List ℕ → Type 0 = λ digits. WritesChanges digits depth turns in
    ((subst P (sym same.0) two, small), subst Q (sym same.1) changes)

-- The rest has a colon.
pub rest_has_colon : (text : List ℕ) (stream depth turns : ℕ) → Lacks 58 text → ¬ (WritesRest text stream depth turns)
rest_has_colon text stream depth turns none (second, rest, two, small, changes, f) = never_cut 58 text second rest none f (numeral_lacks 58 second two.0 colon)

pub same_ranking : (text : List ℕ) (a b c d e f g h : ℕ) → WritesRanking text a b c d → WritesRanking text e f g h → (a ≡ e) × (b ≡ f) × (c ≡ g) × (d ≡ h)
same_ranking text a b c d e f g h (first, second, rest, one, two, low, small, changes, is) other =
    let cut = ranking_is_cut text first (second ++ 58 ∷ rest) e f g h is (numeral_lacks 58 first one.0 colon) other in
    let parts = rest_is_cut (second ++ 58 ∷ rest) second rest f g h refl (numeral_lacks 58 second two.0 colon) cut.1 in
    let same = same_changes rest c d g h changes parts.1 in
    (sym one.1 ∙ cut.0.0.1, sym two.1 ∙ parts.0.0.1, same.0, same.1)
