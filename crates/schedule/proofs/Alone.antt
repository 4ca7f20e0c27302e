-- Thread 0 alone.
use Rattle.std.proofs.Common.{◌≡◌, ℕ, zero, suc, ◌+◌, ◌<◌, Bool, true, false, cond, ◌==◌, ◌∷◌, Some, None, refl, ap, arith}
use Rattle.std.specs.List.{filter, range_with_len}
use Rattle.std.proofs.lemmas.Bool.Decides.{nat_tests}
use Rattle.schedule.specs.Choosers.{Alone, alone, with_choices, enabled_of, IsNextFor}

-- Thread 0 isn't among threads above it.
none_above : (p : ℕ → Bool) (a n : ℕ) → 0 < a → alone (filter p (range_with_len a n)) ≡ None
none_above p a zero above = refl
none_above p a (suc n) above =
    let rest : alone (filter p (range_with_len (a + 1) n)) ≡ None = none_above p (a + 1) n (omega arith) in
    let here : (a == 0) ≡ false = grind (arith, nat_tests) in
    elim (p a) as (λ b. alone (cond b (a ∷ filter p (range_with_len (a + 1) n)) (filter p (range_with_len (a + 1) n))) ≡ None)
    [ true ↦ rw here rest | false ↦ rest ]

-- Thread 0 is the choice if it is enabled.
pub first_is_alone : (p : ℕ → Bool) (count : ℕ) → 0 < count → p 0 ≡ true → alone (enabled_of p count) ≡ Some 0
first_is_alone p zero there enabled = let never : ⊥ = omega arith in absurd never
first_is_alone p (suc count) there enabled = rw enabled refl

-- There is no choice if thread 0 isn't enabled.
pub none_is_alone : (p : ℕ → Bool) (count : ℕ) → p 0 ≡ false → alone (enabled_of p count) ≡ None
none_is_alone p zero not_enabled = refl
none_is_alone p (suc count) not_enabled = rw not_enabled (none_above p 1 count (omega arith))

pub alone_for : (times count : ℕ) → 0 < count → IsNextFor times 0 count Alone
unfolding IsNextFor
alone_for zero count there = tt
alone_for (suc times) count there =
    (λ p enabled. ap (λ o. (o, Alone)) (first_is_alone p count there enabled), alone_for times count there)

pub alone_stays : (times chosen : ℕ) → with_choices times chosen Alone ≡ Alone
unfolding with_choices
alone_stays zero chosen = refl
alone_stays (suc times) chosen = alone_stays times chosen
