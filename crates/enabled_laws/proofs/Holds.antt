-- The threads that may enter a monitor, after one hold changes.
use Rattle.enabled_laws.proofs.Kept.{may_enter}
use Rattle.jvms_machine.specs.Monitors.{entered_monitor, left_monitor, with_hold}
use Rattle.jvms_machine.specs.State.{monitor_at}
use Rattle.jvms_machine.specs.declared.state.Hold.{Hold}
use Rattle.std.proofs.Common.{List, None, Option, Some, [], ap, cond, eqb-true, false, is_none, nat_lt, refl, sym, ℕ, ◌+◌, ◌-◌, ◌==◌, ◌∙◌, ◌∷◌, ◌≡◌}
use Rattle.std.proofs.lemmas.Bool.{cond-false, cond-true, cond_both, false≢true}

-- ---- Monitors

-- The holds after one is added or replaced.
pub hold_at : (q : ℕ) (h : Hold) (monitors : List (ℕ × Hold)) (r : ℕ) → monitor_at (with_hold q h monitors) r ≡ cond (q == r) (Some h) (monitor_at monitors r)
hold_at q h [] r = refl
hold_at q h (m ∷ monitors) r =
    cond_both (q == m.0) _ _ (λ (ms : List (ℕ × Hold)). monitor_at ms r ≡ cond (q == r) (Some h) (monitor_at (m ∷ monitors) r))
    (λ same. cond_both (q == r) (Some h) (monitor_at monitors r) (λ (o : Option Hold). o ≡ cond (q == r) (Some h) (monitor_at (m ∷ monitors) r))
    (λ is. sym (cond-true (q == r) (Some h) (monitor_at (m ∷ monitors) r) is))
    (λ apart. sym (cond-false (q == r) (Some h) (monitor_at (m ∷ monitors) r) apart ∙ cond-false (m.0 == r) (Some m.1) (monitor_at monitors r) (ap (λ k. k == r) (sym (eqb-true q m.0 same)) ∙ apart))))
    (λ unlike. cond_both (nat_lt q m.0) _ _ (λ (ms : List (ℕ × Hold)). monitor_at ms r ≡ cond (q == r) (Some h) (monitor_at (m ∷ monitors) r))
    (λ _. refl)
    (λ _. cond_both (m.0 == r) (Some m.1) (monitor_at (with_hold q h monitors) r) (λ (o : Option Hold). o ≡ cond (q == r) (Some h) (monitor_at (m ∷ monitors) r))
    (λ first. sym (cond-false (q == r) (Some h) (monitor_at (m ∷ monitors) r) (ap (λ k. q == k) (sym (eqb-true m.0 r first)) ∙ unlike) ∙ cond-true (m.0 == r) (Some m.1) (monitor_at monitors r) first))
    (λ apart. hold_at q h monitors r ∙ ap (λ o. cond (q == r) (Some h) o) (sym (cond-false (m.0 == r) (Some m.1) (monitor_at monitors r) apart)))))

-- Each thread may enter the same monitors.
abbrev pub KeepsHolds : List (ℕ × Hold) → List (ℕ × Hold) → Type 0
KeepsHolds before after = (v r : ℕ) → may_enter v (monitor_at after r) ≡ may_enter v (monitor_at before r)

-- Replacing a hold by one of the same owner keeps which monitors each thread may enter.
pub owner_kept : (q : ℕ) (h was : Hold) (monitors : List (ℕ × Hold)) → monitor_at monitors q ≡ Some was → h.owner ≡ was.owner → KeepsHolds monitors (with_hold q h monitors)
owner_kept q h was monitors at owner v r =
    ap (may_enter v) (hold_at q h monitors r)
    ∙ cond_both (q == r) (Some h) (monitor_at monitors r) (λ (o : Option Hold). may_enter v o ≡ may_enter v (monitor_at monitors r))
    (λ same. ap (λ k. k == v) owner ∙ sym (ap (may_enter v) (ap (monitor_at monitors) (sym (eqb-true q r same)) ∙ at)))
    (λ _. refl)

pub inner_entered : (t q : ℕ) (o : Option Hold) (monitors : List (ℕ × Hold)) → monitor_at monitors q ≡ o → is_none o ≡ false → KeepsHolds monitors (entered_monitor t q monitors)
inner_entered t q None monitors at held = absurd (cc)
inner_entered t q (Some h) monitors at held = rw at (owner_kept q (record { owner = h.owner; count = h.count + 1 }) h monitors at refl)

pub inner_left : (q : ℕ) (o : Option Hold) (monitors : List (ℕ × Hold)) → monitor_at monitors q ≡ o → ((h : Hold) → o ≡ Some h → (h.count == 1) ≡ false) → KeepsHolds monitors (left_monitor q monitors)
inner_left q None monitors at held = rw at (λ v r. refl)
inner_left q (Some h) monitors at held =
    rw at (cond_both (h.count == 1) _ _ (λ (ms : List (ℕ × Hold)). KeepsHolds monitors ms)
    (λ once. absurd (false≢true (sym (held h refl) ∙ once)))
    (λ _. owner_kept q (record { owner = h.owner; count = h.count - 1 }) h monitors at refl))
