-- The status by one thread after another is that of the definitions.
use Rattle.std.proofs.Common.{◌≡◌, ◌<◌, ◌+◌, ℕ, zero, suc, Bool, true, false, ◌||◌, List, [], ◌∷◌, length, drop, map, arith, refl, sym, ap, ◌∙◌}
use Rattle.std.specs.List.{list_any, enumerate_from}
use Rattle.jvms_machine.specs.declared.machine.Outcome.{Outcome}
use Rattle.jvms_machine.specs.State.{Thread}
use Rattle.invoke.specs.machine_parts.Machine.{Machine, transition_of}
use Rattle.machine.specs.Statuses.{any_thread}

pub any_is : (test : Outcome → Bool) (m : Machine) (n : ℕ) (xs : List Thread)
    → any_thread test m n xs ≡ list_any test (map (λ numbered. (transition_of m numbered.0).outcome) (enumerate_from n xs))
any_is test m n [] = refl
any_is test m n (x ∷ xs) = ap (λ b. test (transition_of m n).outcome || b) (any_is test m (n + 1) xs)

-- ---- One thread after another

any_there : (test : Outcome → Bool) (m : Machine) (xs : List Thread) (t k : ℕ) → t < length xs
    → any_thread test m k (drop t xs) ≡ (test (transition_of m k).outcome || any_thread test m (k + 1) (drop (suc t) xs))
any_there test m [] t k within = absurd (omega arith)
any_there test m (x ∷ xs) zero k within = refl
any_there test m (x ∷ xs) (suc t) k within = any_there test m xs t k (omega arith)

pub any_first : (test : Outcome → Bool) (m : Machine) (t : ℕ) (here : Bool) → t < length m.state.threads → here ≡ test (transition_of m t).outcome → here ≡ true
    → here ≡ any_thread test m t (drop t m.state.threads)
any_first test m t here within is holds =
    holds ∙ sym (any_there test m m.state.threads t t within ∙ ap (λ b. b || any_thread test m (t + 1) (drop (suc t) m.state.threads)) (sym is ∙ holds))

pub any_later : (test : Outcome → Bool) (m : Machine) (t : ℕ) (here later : Bool) → t < length m.state.threads → here ≡ test (transition_of m t).outcome → here ≡ false
    → later ≡ any_thread test m (t + 1) (drop (t + 1) m.state.threads) → later ≡ any_thread test m t (drop t m.state.threads)
any_later test m t here later within is fails next =
    let after : t + 1 ≡ suc t = omega arith in
    next ∙ ap (λ n. any_thread test m (t + 1) (drop n m.state.threads)) after
    ∙ sym (any_there test m m.state.threads t t within ∙ ap (λ b. b || any_thread test m (t + 1) (drop (suc t) m.state.threads)) (sym is ∙ fails))
