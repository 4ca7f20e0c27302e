-- A prefix of a list, while a loop goes through it.
use Rattle.std.proofs.Common.{◌≡◌, ◌≢◌, ℕ, ◌+◌, ◌<◌, true, false, List, [], ◌∷◌, ◌++◌, length, take, get_or, inl, inr, sym, ap, ◌∙◌}
use Rattle.std.proofs.lemmas.Bool.{cases_Bool, both_ways}
use Rattle.std.proofs.lemmas.List.{take_more}
use Rattle.atom_order.specs.Reaching.{is_among}
use Rattle.atom_order.proofs.Members.{in_left, in_right, among_from_in, in_from_among}

-- A number that is not in one more is not in these, and is not that one.
pub none_more : (xs : List ℕ) (i q : ℕ) → i < length xs → is_among q (take (i + 1) xs) ≡ false → (is_among q (take i xs) ≡ false) × (q ≢ get_or xs i 0)
none_more xs i q less none = (elim (cases_Bool (is_among q (take i xs))) [ inl is ↦ absurd (before is) | inr is ↦ is ], last)
  where
    split : take (i + 1) xs ≡ take i xs ++ get_or xs i 0 ∷ []
    split = take_more xs i 0 less

    none_now : is_among q (take i xs ++ get_or xs i 0 ∷ []) ≡ false
    none_now = ap (is_among q) (sym split) ∙ none

    before : is_among q (take i xs) ≡ true → ⊥
    before is = both_ways (is_among q (take i xs ++ get_or xs i 0 ∷ [])) none_now
        (among_from_in q (take i xs ++ get_or xs i 0 ∷ []) (in_left q (take i xs) (get_or xs i 0 ∷ []) (in_from_among q (take i xs) is)))

    last : q ≡ get_or xs i 0 → ⊥
    last same = both_ways (is_among q (take i xs ++ get_or xs i 0 ∷ [])) none_now
        (among_from_in q (take i xs ++ get_or xs i 0 ∷ []) (in_right q (take i xs) (get_or xs i 0 ∷ []) (inl same)))
