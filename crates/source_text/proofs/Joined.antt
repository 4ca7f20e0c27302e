-- Proves facts about words that are joined by spaces.
use Rattle.std.proofs.Common.{◌≡◌, ℕ, suc, ◌-◌, ◌<◌, ◌≤◌, List, [], ◌∷◌, ◌++◌, length, get_or, take, drop, map, flat_map, refl, ap, ◌∙◌, arith}
use Rattle.std.proofs.lemmas.List.{append-nil, take_all}
use Rattle.listing_spec.specs.Printed.{join_words}
use Rattle.source_text.specs.declared.word.Word.{Word}
use Rattle.source_text.specs.Words.{units_in}

pub no_words : (ws : List Word) → length ws < 1 → join_words (map units_in ws) ≡ []
unfolding join_words
no_words [] none = refl
no_words (w ∷ ws) none = absurd (omega arith)

-- Joined words are the first word, and each other word after a space.
first_word : (w : Word) (ws : List Word) → units_in w ++ flat_map (λ v. 32 ∷ units_in v) ws ≡ join_words (map units_in (w ∷ ws))
unfolding join_words
first_word w [] = append-nil (units_in w)
first_word w (v ∷ vs) = ap (λ (rest : List ℕ). units_in w ++ 32 ∷ rest) (first_word v vs)

-- The words after the first are all but one.
behind_first : (ws : List Word) → take (length ws - 1) (drop 1 ws) ≡ drop 1 ws
behind_first [] = refl
behind_first (w ∷ ws) = let fits : length ws ≤ suc (length ws) - 1 = omega arith in take_all (suc (length ws) - 1) ws fits

pub some_words : (ws : List Word) (d : Word) → 1 ≤ length ws → units_in (get_or ws 0 d) ++ flat_map (λ v. 32 ∷ units_in v) (take (length ws - 1) (drop 1 ws)) ≡ join_words (map units_in ws)
some_words [] d some = absurd (omega arith)
some_words (w ∷ ws) d some = ap (λ (rest : List Word). units_in w ++ flat_map (λ v. 32 ∷ units_in v) rest) (behind_first (w ∷ ws)) ∙ first_word w ws
