-- The index of the first thread that waits for an object, and the list without that thread.
use Rattle.std.proofs.Common.{◌≡◌, ℕ, suc, ◌+◌, ◌==◌, Bool, true, false, cond, List, [], ◌∷◌, ◌++◌, take, drop, Option, Some, None, refl, sym, ap, ◌∙◌, arith}
use Rattle.std.specs.List.{position, position_from}
use Rattle.std.specs.Map.{remove_entry}
use Rattle.std.proofs.lemmas.Option.{none-some, same_Some}
use Rattle.std.proofs.lemmas.Iterator.Adapters.{position_from-zero}

abbrev pub waits : ℕ → ℕ × ℕ → Bool
waits r w = w.0 == r

abbrev pub oldest_of : ℕ → List (ℕ × ℕ) → Option ℕ
oldest_of r waiters = position (waits r) waiters

abbrev pub without_first : ℕ → List (ℕ × ℕ) → List (ℕ × ℕ)
without_first r waiters = remove_entry (λ q. q == r) waiters

none_by : (r i : ℕ) (b : Bool) (w : ℕ × ℕ) (ws : List (ℕ × ℕ)) → waits r w ≡ b → (position_from (waits r) (i + 1) ws ≡ None → without_first r ws ≡ ws) → cond b (Some i) (position_from (waits r) (i + 1) ws) ≡ None → cond b ws (w ∷ without_first r ws) ≡ w ∷ ws
none_by r i true w ws e rest none = absurd (none-some i (sym none))
none_by r i false w ws e rest none = ap (λ (l : List (ℕ × ℕ)). w ∷ l) (rest none)

none_from : (r i : ℕ) (ws : List (ℕ × ℕ)) → position_from (waits r) i ws ≡ None → without_first r ws ≡ ws
none_from r i [] none = refl
none_from r i (w ∷ ws) none = none_by r i (waits r w) w ws refl (none_from r (i + 1) ws) none

-- If no thread waits for the object, the list stays as it is.
pub none_is_taken : (r : ℕ) (ws : List (ℕ × ℕ)) → position (waits r) ws ≡ None → ws ≡ without_first r ws
none_is_taken r ws none = sym (none_from r 0 ws (sym (position_from-zero (waits r) ws) ∙ none))

-- The list without its item at index `n` is the list without the first waiter for `r`.
abbrev IsAt : ℕ → ℕ → List (ℕ × ℕ) → Type 0
IsAt r n ws = take n ws ++ drop (suc n) ws ≡ without_first r ws

one_behind : (r : ℕ) (w : ℕ × ℕ) (ws : List (ℕ × ℕ)) (n : ℕ) → IsAt r n ws → w ∷ (take n ws ++ drop (suc n) ws) ≡ w ∷ without_first r ws
one_behind r w ws n is = ap (λ (l : List (ℕ × ℕ)). w ∷ l) is

place_by : (r i n : ℕ) (b : Bool) (w : ℕ × ℕ) (ws : List (ℕ × ℕ)) → waits r w ≡ b → ((m : ℕ) → position_from (waits r) (i + 1) ws ≡ Some m → (k : ℕ) × (m ≡ i + 1 + k) × IsAt r k ws) → cond b (Some i) (position_from (waits r) (i + 1) ws) ≡ Some n → (k : ℕ) × (n ≡ i + k) × (take k (w ∷ ws) ++ drop (suc k) (w ∷ ws) ≡ cond b ws (w ∷ without_first r ws))
place_by r i n true w ws e rest is = (0, sym (same_Some i n is) ∙ omega arith, refl)
place_by r i n false w ws e rest is =
    let found = rest n is in
    (suc found.0, found.1 ∙ omega arith, one_behind r w ws found.0 found.2)

place_from : (r i n : ℕ) (ws : List (ℕ × ℕ)) → position_from (waits r) i ws ≡ Some n → (k : ℕ) × (n ≡ i + k) × IsAt r k ws
place_from r i n [] is = absurd (none-some n is)
place_from r i n (w ∷ ws) is = place_by r i n (waits r w) w ws refl (λ m at. place_from r (i + 1) m ws at) is

-- Removing the item that the search finds removes the first waiter only.
pub oldest_is_taken : (r n : ℕ) (ws : List (ℕ × ℕ)) → position (waits r) ws ≡ Some n → take n ws ++ drop (n + 1) ws ≡ without_first r ws
oldest_is_taken r n ws is =
    let found = place_from r 0 n ws (sym (position_from-zero (waits r) ws) ∙ is) in
    let same : found.0 ≡ n = omega (arith, found.1) in
    let behind : n + 1 ≡ suc n = omega arith in
    ap (λ k. take n ws ++ drop k ws) behind ∙ sym (ap (λ k. take k ws ++ drop (suc k) ws) same) ∙ found.2
