-- The enabled threads, from turn to turn.
use Rattle.std.proofs.Common.{Bool, List, [], ap, append-nil, append_assoc, arith, cond, eqb-true, false, inl, inr, length, not, refl, subst, suc, sym, true, zero, ℕ, ◌&&◌, ◌++◌, ◌+◌, ◌-◌, ◌<◌, ◌==◌, ◌∙◌, ◌∷◌, ◌≡◌, ◌≤◌}
use Rattle.std.proofs.lemmas.Bool.{cond_both, eqb-false, false≢true}
use Rattle.std.proofs.lemmas.Bool.Decides.{nat_tests}
use Rattle.std.specs.List.{filter, range_with_len}
use Rattle.std.specs.Prelude.{◌≢◌, ◌||◌, ◌⊎◌, Err, Ok, OnOk, Result}
use Rattle.jvms_machine.specs.Status.{is_bad, is_enabled}
use Rattle.jvms_machine.specs.declared.machine.Outcome.{Outcome}
use Rattle.jvms_machine.specs.declared.machine.Outcome.TheVariants as outcome
use Rattle.machine.specs.Machine.{Machine, transition_of}
use Rattle.machine.specs.Others.{LeavesOthers}
use Rattle.schedule.specs.Choosers.{enabled_of, may_be_enabled}
use Rattle.schedule.specs.Enabled.{is_enabled_in, enabled_threads}
use Rattle.runs.specs.Kept.{AreEnabled, AreIdle, IsKept, MarksOne, is_fit, one_enabled}
use Rattle.runs.specs.declared.kept.Kept.{Kept}

-- ---- One thread after another

-- Returns the enabled threads from a number on.
abbrev pub enabled_left : Machine → ℕ → List ℕ
enabled_left m t = filter (is_enabled_in m) (range_with_len t (length m.state.threads - t))

-- No thread's turn below a number is Bad.
abbrev pub AreFitBelow : Machine → ℕ → Type 0
AreFitBelow m t = (u : ℕ) → u < t → is_bad (transition_of m u).outcome ≡ false

range_next : (a n : ℕ) → a < n → range_with_len a (n - a) ≡ a ∷ range_with_len (a + 1) (n - (a + 1))
range_next a n less = let e : n - a ≡ suc (n - (a + 1)) = omega arith in rw e refl

-- The threads from a number on are its own thread, if that is enabled, and those after it.
left_next : (m : Machine) (t : ℕ) → t < length m.state.threads → enabled_left m t ≡ one_enabled m t ++ enabled_left m (t + 1)
left_next m t below =
    ap (filter (is_enabled_in m)) (range_next t (length m.state.threads) below)
    ∙ elim (is_enabled_in m t) as (λ b. cond b (t ∷ enabled_left m (t + 1)) (enabled_left m (t + 1)) ≡ cond b (t ∷ []) [] ++ enabled_left m (t + 1))
    [ true ↦ refl | false ↦ refl ]

-- No thread was inspected yet.
pub left_first : (m : Machine) → [] ++ enabled_left m 0 ≡ enabled_threads m
left_first m = let all : length m.state.threads - 0 ≡ length m.state.threads = omega arith in ap (λ n. filter (is_enabled_in m) (range_with_len 0 n)) all

-- One more thread is inspected.
pub inspected_next : (m : Machine) (t : ℕ) (seen more : List ℕ) → t < length m.state.threads → more ≡ seen ++ one_enabled m t → seen ++ enabled_left m t ≡ enabled_threads m → more ++ enabled_left m (t + 1) ≡ enabled_threads m
inspected_next m t seen more below is whole =
    rw is (append_assoc seen (one_enabled m t) (enabled_left m (t + 1)) ∙ ap (λ l. seen ++ l) (sym (left_next m t below)) ∙ whole)

not_false : (b : Bool) → not b ≡ true → b ≡ false
not_false true is = absurd (false≢true is)
not_false false is = refl

pub fit_next : (m : Machine) (t : ℕ) (was now : Bool) → now ≡ was && is_fit m t → (was ≡ true → AreFitBelow m t) → now ≡ true → AreFitBelow m (t + 1)
fit_next m t true now is below current u less =
    cond_both (u == t) true false (λ _. is_bad (transition_of m u).outcome ≡ false)
    (λ same. ap (λ (v : ℕ). is_bad (transition_of m v).outcome) (eqb-true u t same) ∙ not_false (is_bad (transition_of m t).outcome) (sym is ∙ current))
    (λ other. below refl u (less_beside u t less other))
  where
    less_beside : (u t : ℕ) → u < t + 1 → (u == t) ≡ false → u < t
    less_beside u t less other = grind (arith, nat_tests)
fit_next m t false now is below current u less = absurd (false≢true (sym is ∙ current))

-- All threads are inspected.
pub inspected_all : (m : Machine) (t : ℕ) (seen : List ℕ) → length m.state.threads ≤ t → seen ++ enabled_left m t ≡ enabled_threads m → seen ≡ enabled_threads m
inspected_all m t seen most whole =
    let none : length m.state.threads - t ≡ 0 = omega arith in
    sym (append-nil seen) ∙ ap (λ n. seen ++ filter (is_enabled_in m) (range_with_len t n)) (sym none) ∙ whole

-- ---- From turn to turn

differs : (u t : ℕ) → (u == t) ≡ false → u ≢ t
differs u t other = eqb-false u t other

filter_same : (p q : ℕ → Bool) (a n : ℕ) → ((u : ℕ) → u < a + n → q u ≡ p u) → filter q (range_with_len a n) ≡ filter p (range_with_len a n)
filter_same p q a zero same = refl
filter_same p q a (suc n) same =
    let rest : filter q (range_with_len (a + 1) n) ≡ filter p (range_with_len (a + 1) n) = filter_same p q (a + 1) n (λ u less. same u (omega (arith, less))) in
    ap (λ b. cond b (a ∷ filter q (range_with_len (a + 1) n)) (filter q (range_with_len (a + 1) n))) (same a (omega arith))
    ∙ ap (λ l. cond (p a) (a ∷ l) l) rest

enabled_is_fit : (o : Outcome) → is_enabled o ≡ true → is_bad o ≡ false
enabled_is_fit (outcome.Bad cause) on = absurd (false≢true on)
enabled_is_fit _ on = refl

-- After a quiet turn of a thread that was enabled and is, the enabled threads are those before it.
module _ (m after : Machine) (t : ℕ) (threads : length after.state.threads ≡ length m.state.threads) (others : LeavesOthers m t after) (was : is_enabled_in m t ≡ true) (is : is_enabled_in after t ≡ true) (fit : AreFitBelow m (length m.state.threads)) where
  as_enabled : (u : ℕ) → u < length m.state.threads → is_enabled_in after u ≡ is_enabled_in m u
  as_enabled u less =
      cond_both (u == t) true false (λ _. is_enabled_in after u ≡ is_enabled_in m u)
      (λ same. subst (λ (v : ℕ). is_enabled_in after v ≡ is_enabled_in m v) (sym (eqb-true u t same)) (is ∙ sym was))
      (λ other. (others u (differs u t other) (fit u less)).enabled)

  pub left_enabled : enabled_threads after ≡ enabled_threads m
  left_enabled = ap (enabled_of (is_enabled_in after)) threads ∙ filter_same (is_enabled_in m) (is_enabled_in after) 0 (length m.state.threads) (λ u less. as_enabled u (omega (arith, less)))

  pub left_fit : AreFitBelow after (length after.state.threads)
  left_fit u less =
      cond_both (u == t) true false (λ _. is_bad (transition_of after u).outcome ≡ false)
      (λ same. subst (λ (v : ℕ). is_bad (transition_of after v).outcome ≡ false) (sym (eqb-true u t same)) (enabled_is_fit (transition_of after t).outcome is))
      (λ other. (others u (differs u t other) (fit u (omega (arith, less, threads)))).fit)

  pub kept_on : (seen : List ℕ) → seen ≡ enabled_threads m → AreEnabled after seen
  kept_on seen are = record { enabled = are ∙ sym left_enabled; fit = left_fit }

-- ---- Idle threads

-- No thread is known to be idle.
pub none_idle : (m : Machine) (idle : List Bool) → idle ≡ [] → AreIdle m idle
none_idle m idle none = rw none (record { not_on = λ u is. absurd (false≢true (sym is)); fit = λ u is. absurd (false≢true (sym is)) })

-- Nothing is kept.
pub nothing_kept : (m : Machine) (kept : Kept) → kept.is_current ≡ false → kept.idle.items ≡ [] → IsKept m kept
nothing_kept m kept old none = record { current = λ current. absurd (false≢true (sym old ∙ current)); beside = none_idle m kept.idle.items none }

-- One more thread is idle.
one_idle : (m : Machine) (before after : List Bool) (t : ℕ) → AreIdle m before → is_enabled_in m t ≡ false → is_bad (transition_of m t).outcome ≡ false → MarksOne before after t → AreIdle m after
one_idle m before after t are off fit marks =
    record {
      not_on = λ u is. by_mark (λ v. is_enabled_in m v ≡ false) u (marks u is) (are.not_on u) off;
      fit = λ u is. by_mark (λ v. is_bad (transition_of m v).outcome ≡ false) u (marks u is) (are.fit u) fit;
    }
  where
    by_mark : (P : ℕ → Type 0) (u : ℕ) → (may_be_enabled before u ≡ false) ⊎ (u ≡ t) → (may_be_enabled before u ≡ false → P u) → P t → P u
    by_mark P u (inl was) old now = old was
    by_mark P u (inr same) old now = subst P (sym same) now

-- A thread that isn't enabled may be marked as idle.
pub idle_noted : (m after : Machine) (kept noted : Kept) (t : ℕ) (o : Outcome) → after ≡ m → IsKept m kept → o ≡ (transition_of m t).outcome → is_enabled o ≡ false
    → noted.is_current ≡ kept.is_current → noted.threads ≡ kept.threads
    → (is_bad o ≡ true → noted.idle.items ≡ kept.idle.items) → MarksOne kept.idle.items noted.idle.items t → IsKept after noted
idle_noted m after kept noted t o same are outcome off current threads bad marks =
    rw same (record {
      current = λ is. rw threads (are.current (sym current ∙ is));
      beside = by_bad (is_bad o) refl;
    })
  where
    by_bad : (b : Bool) → is_bad o ≡ b → AreIdle m noted.idle.items
    by_bad true is = rw (bad is) are.beside
    by_bad false is = one_idle m kept.idle.items noted.idle.items t are.beside (sym (ap is_enabled outcome) ∙ off) (sym (ap is_bad outcome) ∙ is) marks

-- A quiet turn of another thread leaves idle threads idle.
pub idle_on : (m after : Machine) (t : ℕ) (idle : List Bool) → AreIdle m idle → may_be_enabled idle t ≡ true → LeavesOthers m t after → AreIdle after idle
idle_on m after t idle are beside others =
    record {
      not_on = λ u is. (others u (apart u is) (are.fit u is)).enabled ∙ are.not_on u is;
      fit = λ u is. (others u (apart u is) (are.fit u is)).fit;
    }
  where
    apart : (u : ℕ) → may_be_enabled idle u ≡ false → u ≢ t
    apart u is same = false≢true (sym is ∙ ap (may_be_enabled idle) same ∙ beside)

-- An enabled thread isn't idle.
pub enabled_apart : (m : Machine) (idle : List Bool) (u : ℕ) → AreIdle m idle → is_enabled_in m u ≡ true → may_be_enabled idle u ≡ true
enabled_apart m idle u are on =
    cond_both (may_be_enabled idle u) true false (λ _. may_be_enabled idle u ≡ true) (λ apart. apart) (λ among. absurd (false≢true (sym (are.not_on u among) ∙ on)))

-- A turn of a thread that isn't idle leaves idle threads idle if it was quiet. Otherwise none is noted.
pub kept_after : (m after : Machine) (kept noted : Kept) (idle : List Bool) (t : ℕ) (is_quiet : Bool) → IsKept m kept → idle ≡ kept.idle.items → may_be_enabled idle t ≡ true
    → (is_quiet ≡ true → LeavesOthers m t after) → noted.is_current ≡ false
    → (is_quiet ≡ true → noted.idle.items ≡ kept.idle.items) → (is_quiet ≡ false → noted.idle.items ≡ []) → IsKept after noted
kept_after m after kept noted idle t is_quiet are same beside others old quiet other =
    record {
      current = λ current. absurd (false≢true (sym old ∙ current));
      beside = by_quiet is_quiet others quiet other;
    }
  where
    by_quiet : (b : Bool) → (b ≡ true → LeavesOthers m t after) → (b ≡ true → noted.idle.items ≡ kept.idle.items) → (b ≡ false → noted.idle.items ≡ []) → AreIdle after noted.idle.items
    by_quiet true others quiet other = rw (quiet refl) (idle_on m after t kept.idle.items are.beside (subst (λ (l : List Bool). may_be_enabled l t ≡ true) same beside) (others refl))
    by_quiet false others quiet other = none_idle after noted.idle.items (other refl)

-- A turn that took place and was quiet leaves idle threads idle. Otherwise none is noted.
pub kept_after_choice : (m after : Machine) (kept noted : Kept) (t : ℕ) (o : Outcome) (is_quiet : Bool) → IsKept m kept → o ≡ (transition_of m t).outcome
    → (is_quiet ≡ true → LeavesOthers m t after) → noted.is_current ≡ false
    → (is_quiet && is_enabled o ≡ true → noted.idle.items ≡ kept.idle.items) → (is_quiet && is_enabled o ≡ false → noted.idle.items ≡ []) → IsKept after noted
kept_after_choice m after kept noted t o is_quiet are outcome others old quiet other =
    by_turn is_quiet (is_enabled o) refl others quiet other
  where
    by_turn : (a b : Bool) → is_enabled o ≡ b → (a ≡ true → LeavesOthers m t after) → (a && b ≡ true → noted.idle.items ≡ kept.idle.items) → (a && b ≡ false → noted.idle.items ≡ []) → IsKept after noted
    by_turn true true on others quiet other =
        let apart = enabled_apart m kept.idle.items t are.beside (sym (ap is_enabled outcome) ∙ on) in
        kept_after m after kept noted kept.idle.items t true are refl apart others old (λ _. quiet refl) (λ none. absurd (false≢true (sym none)))
    by_turn true false on others quiet other = nothing_kept after noted old (other refl)
    by_turn false b on others quiet other = nothing_kept after noted old (other refl)

-- No thread is noted as idle any more.
pub idle_forgotten : (m : Machine) (kept forgot : Kept) → IsKept m kept → forgot.is_current ≡ kept.is_current → forgot.threads ≡ kept.threads → forgot.idle.items ≡ [] → IsKept m forgot
idle_forgotten m kept forgot are current threads none =
    record {
      current = λ is. rw threads (are.current (sym current ∙ is));
      beside = none_idle m forgot.idle.items none;
    }

-- The list is current again, and the idle threads are those that were.
pub refreshed : {A E : Type 0} (m : Machine) (kept now : Kept) (r : Result A E) → IsKept m kept → OnOk r (now.is_current ≡ true → AreEnabled m now.threads.items) → OnOk r (now.idle.items ≡ kept.idle.items) → OnOk r (IsKept m now)
refreshed m kept now (Ok done) are current idle = record { current = current; beside = rw idle are.beside }
refreshed m kept now (Err e) are current idle = tt
