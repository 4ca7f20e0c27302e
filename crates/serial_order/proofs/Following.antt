-- Chains of events: how they are built and followed.
use Rattle.std.proofs.Common.{◌≡◌, ◌≢◌, ℕ, suc, ◌+◌, ◌<◌, ◌≤◌, Bool, true, false, cond, eqb, List, [], ◌∷◌, length, get_or, set, drop, ◌⊎◌, inl, inr, ⊎_elim, refl, sym, ap, ◌∙◌, subst, arith, length-set, get_or-set_other, get_or-set_same, drop-cons, length-drop}
use Rattle.std.specs.List.{AllByRecursion}
use Rattle.std.proofs.lemmas.Bool.{cases_eq}
use Rattle.std.proofs.lemmas.Bool.Decides.{nat_tests}
use Rattle.serial_order.specs.Chains.{AreRising, IsChain, events_of}

-- ---- Following

-- Before its end a chain begins with its event.
pub chain_goes_on : (next : List ℕ) (event : ℕ) (chain : List ℕ) → event < length next → IsChain next event chain → (rest : List ℕ) × (chain ≡ suc event ∷ rest) × IsChain next (get_or next event 0) rest
chain_goes_on next event [] less is = absurd (omega arith)
chain_goes_on next event (n ∷ rest) less is = (rest, ap (λ (m : ℕ). m ∷ rest) is.0, is.2)

-- At the end nothing is left of a chain.
pub chain_ends : (next : List ℕ) (event : ℕ) (chain : List ℕ) → length next ≤ event → IsChain next event chain → chain ≡ []
chain_ends next event [] high is = refl
chain_ends next event (n ∷ rest) high is = let less = is.1 in absurd (omega arith)

-- ---- Building

events_above : (t n : ℕ) (transactions : List ℕ) → AllByRecursion (λ m. n ≤ m) (events_of t n transactions)
events_above t n [] = tt
events_above t n (u ∷ transactions) = by (eqb u t) (higher (events_of t (suc n) transactions) (events_above t (suc n) transactions))
  where
    higher : (ms : List ℕ) → AllByRecursion (λ m. suc n ≤ m) ms → AllByRecursion (λ m. n ≤ m) ms
    higher [] all = tt
    higher (m ∷ ms) all = let high = all.0 in (omega arith, higher ms all.1)

    by : (b : Bool) → AllByRecursion (λ m. n ≤ m) (events_of t (suc n) transactions) → AllByRecursion (λ m. n ≤ m) (cond b (n ∷ events_of t (suc n) transactions) (events_of t (suc n) transactions))
    by true rest = (omega arith, rest)
    by false rest = rest

-- A chain above an event stays when the event's link is set.
chain_stays : (next : List ℕ) (k v h : ℕ) (chain : List ℕ) → AllByRecursion (λ m. suc (suc k) ≤ m) chain → IsChain next h chain → IsChain (set next k v) h chain
chain_stays next k v h [] above is = is ∙ sym (length-set next k v)
chain_stays next k v h (n ∷ chain) above is =
    let high = above.0 in
    let own = is.0 in
    let less = is.1 in
    let other : h ≢ k = omega arith in
    let within : h < length (set next k v) = rw length-set less in
    (own, within, subst (λ m. IsChain (set next k v) m chain) (sym (get_or-set_other next k h v 0 other)) (chain_stays next k v (get_or next h 0) chain above.1 is.2))

-- The first event of a chain is not before the others.
pub first_is_high : (next : List ℕ) (t k h : ℕ) (transactions : List ℕ) → length transactions + k ≡ length next → IsChain next h (events_of t (suc k) transactions) → k ≤ h
first_is_high next t k h [] long is = omega arith
first_is_high next t k h (u ∷ transactions) long is = by (eqb u t) (first_is_high next t (suc k) h transactions (omega arith)) is
  where
    by : (b : Bool) → (IsChain next h (events_of t (suc (suc k)) transactions) → suc k ≤ h) → IsChain next h (cond b (suc k ∷ events_of t (suc (suc k)) transactions) (events_of t (suc (suc k)) transactions)) → k ≤ h
    by true more chain = let own = chain.0 in omega arith
    by false more chain = let high = more chain in omega arith

-- One more event is prepended to those of its transaction.
module _ (transactions first next : List ℕ) (most k : ℕ) (within : k < length transactions) (firsts : length first ≡ suc most) (nexts : length next ≡ length transactions) (p : ℕ) (own : get_or transactions k 0 ≡ p) (below : p ≤ most)
    (chains : (t : ℕ) → t ≤ most → IsChain next (get_or first t 0) (events_of t (suc (suc k)) (drop (suc k) transactions))) where
  pub rising_more : AreRising next → AreRising (set next k (get_or first p 0))
  rising_more rising j less = ⊎_elim
      (λ same. subst (λ i. i < get_or (set next k (get_or first p 0)) i 0) (sym same) (subst (λ m. k < m) (sym (get_or-set_same next k (get_or first p 0) 0 inside)) high))
      (λ other. subst (λ m. j < m) (sym (get_or-set_other next k j (get_or first p 0) 0 other)) (rising j (rw length-set at less)))
      (cases_eq j k)
    where
      inside : k < length next
      inside = omega arith

      high : k < get_or first p 0
      high = first_is_high next p (suc k) (get_or first p 0) (drop (suc k) transactions) (simp length-drop (omega arith)) (chains p below)

  pub chains_more : (t : ℕ) → t ≤ most → IsChain (set next k (get_or first p 0)) (get_or (set first p k) t 0) (events_of t (suc k) (drop k transactions))
  chains_more t most_is = subst (λ ts. IsChain (set next k (get_or first p 0)) (get_or (set first p k) t 0) (events_of t (suc k) ts)) (sym (drop-cons transactions k 0 within)) (rw own (of (cases_eq p t)))
    where
      stays : IsChain (set next k (get_or first p 0)) (get_or first t 0) (events_of t (suc (suc k)) (drop (suc k) transactions))
      stays = chain_stays next k (get_or first p 0) (get_or first t 0) _ (events_above t (suc (suc k)) (drop (suc k) transactions)) (chains t most_is)

      of : (p ≡ t) ⊎ (p ≡ t → ⊥) → IsChain (set next k (get_or first p 0)) (get_or (set first p k) t 0) (events_of t (suc k) (p ∷ drop (suc k) transactions))
      of (inl same) =
          let yes : eqb p t ≡ true = grind (arith, nat_tests) in
          let inside : k < length (set next k (get_or first p 0)) = rw length-set (omega arith) in
          let here : get_or (set first p k) t 0 ≡ k = subst (λ q. get_or (set first p k) q 0 ≡ k) same (get_or-set_same first p k 0 (omega arith)) in
          let there : get_or (set next k (get_or first p 0)) k 0 ≡ get_or first t 0 = get_or-set_same next k (get_or first p 0) 0 (omega arith) ∙ ap (λ (q : ℕ). get_or first q 0) same in
          rw (yes, here) (refl, inside, rw there stays)
      of (inr other) =
          let no : eqb p t ≡ false = grind (arith, nat_tests) in
          let here : get_or (set first p k) t 0 ≡ get_or first t 0 = get_or-set_other first p t k 0 (λ same. other (sym same)) in
          rw (no, here) stays
