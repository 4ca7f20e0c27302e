-- Hits are the nearest.
use Rattle.std.proofs.Common.{◌≡◌, ℕ, zero, suc, ◌+◌, ◌<◌, ◌≤◌, Bool, true, false, cond, inl, inr, refl, ap, ◌∙◌, arith}
use Rattle.std.proofs.lemmas.Bool.{cases_lt}
use Rattle.debugger_commands.specs.Sessions.{next_hit, hit_before}

-- ---- The next hit

is_hit_by_test : (test : ℕ → Bool) (p left rest : ℕ) (b : Bool) → test (p + 1) ≡ b → (rest < p + 1 + left → test rest ≡ true) → cond b (p + 1) rest < p + suc left → test (cond b (p + 1) rest) ≡ true
is_hit_by_test test p left rest true is later h = is
is_hit_by_test test p left rest false is later h = later (omega arith)

-- The next hit is a hit, unless it is the end.
pub next_hit_is_hit : (test : ℕ → Bool) (p left : ℕ) → next_hit test p left < p + left → test (next_hit test p left) ≡ true
unfolding next_hit
next_hit_is_hit test p zero h = let no : ⊥ = omega arith in absurd no
next_hit_is_hit test p (suc left) h = is_hit_by_test test p left (next_hit test (p + 1) left) (test (p + 1)) refl (next_hit_is_hit test (p + 1) left) h

is_nearest_by_test : (test : ℕ → Bool) (p k rest : ℕ) (b : Bool) → test (p + 1) ≡ b → (p + 1 < k → k < rest → test k ≡ false) → p < k → k < cond b (p + 1) rest → test k ≡ false
is_nearest_by_test test p k rest true is later above below = let no : ⊥ = omega arith in absurd no
is_nearest_by_test test p k rest false is later above below = elim (cases_lt (p + 1) k) [
  | inl more ↦ later more below
  | inr next ↦ let here : k ≡ p + 1 = omega arith in ap test here ∙ is
]

-- No hit is nearer.
pub next_hit_is_nearest : (test : ℕ → Bool) (p left k : ℕ) → p < k → k < next_hit test p left → test k ≡ false
unfolding next_hit
next_hit_is_nearest test p zero k above below = let no : ⊥ = omega arith in absurd no
next_hit_is_nearest test p (suc left) k above below =
    is_nearest_by_test test p k (next_hit test (p + 1) left) (test (p + 1)) refl (next_hit_is_nearest test (p + 1) left k) above below

-- ---- The nearest hit before

is_before_by_test : (test : ℕ → Bool) (p k rest : ℕ) (b : Bool) → test p ≡ b → (k < p → rest < k → test k ≡ false) → k < suc p → cond b p rest < k → test k ≡ false
is_before_by_test test p k rest true is earlier below above = let no : ⊥ = omega arith in absurd no
is_before_by_test test p k rest false is earlier below above = elim (cases_lt k p) [
  | inl less ↦ earlier less above
  | inr here ↦ let at : k ≡ p = omega arith in ap test at ∙ is
]

-- No hit is nearer.
pub hit_before_is_nearest : (test : ℕ → Bool) (p k : ℕ) → k < p → hit_before test p < k → test k ≡ false
unfolding hit_before
hit_before_is_nearest test zero k below above = let no : ⊥ = omega arith in absurd no
hit_before_is_nearest test (suc p) k below above =
    is_before_by_test test p k (hit_before test p) (test p) refl (hit_before_is_nearest test p k) below above

was_hit_by_test : (test : ℕ → Bool) (p rest : ℕ) (b : Bool) → test p ≡ b → (0 < rest → test rest ≡ true) → 0 < cond b p rest → test (cond b p rest) ≡ true
was_hit_by_test test p rest true is earlier h = is
was_hit_by_test test p rest false is earlier h = earlier h

-- The hit before is a hit, unless it is 0.
pub hit_before_is_hit : (test : ℕ → Bool) (p : ℕ) → 0 < hit_before test p → test (hit_before test p) ≡ true
unfolding hit_before
hit_before_is_hit test zero h = let no : ⊥ = omega arith in absurd no
hit_before_is_hit test (suc p) h = was_hit_by_test test p (hit_before test p) (test p) refl (hit_before_is_hit test p) h

-- ---- Bounds

within_by : (p left rest : ℕ) (b : Bool) → (p + 1 ≤ rest) × (rest ≤ p + 1 + left) → (p < cond b (p + 1) rest) × (cond b (p + 1) rest ≤ p + suc left)
within_by p left rest true within = (omega arith, omega arith)
within_by p left rest false within = (omega arith, omega arith)

-- The next hit is not before the position, nor after the end.
pub next_hit_within : (test : ℕ → Bool) (p left : ℕ) → (p ≤ next_hit test p left) × (next_hit test p left ≤ p + left)
unfolding next_hit
next_hit_within test p zero = (omega arith, omega arith)
next_hit_within test p (suc left) =
    let within = within_by p left (next_hit test (p + 1) left) (test (p + 1)) (next_hit_within test (p + 1) left) in
    (omega (arith, within.0), within.1)

-- The next hit is after the position, unless that is the end.
pub next_hit_above : (test : ℕ → Bool) (p left : ℕ) → 0 < left → p < next_hit test p left
unfolding next_hit
next_hit_above test p zero some = absurd (omega (arith, some))
next_hit_above test p (suc left) some = (within_by p left (next_hit test (p + 1) left) (test (p + 1)) (next_hit_within test (p + 1) left)).0

below_by : (p rest : ℕ) (b : Bool) → rest ≤ p → cond b p rest ≤ p
below_by p rest true h = omega arith
below_by p rest false h = h

-- The hit before is not after the position.
pub hit_before_within : (test : ℕ → Bool) (p : ℕ) → hit_before test p ≤ p
unfolding hit_before
hit_before_within test zero = omega arith
hit_before_within test (suc p) = let below = below_by p (hit_before test p) (test p) (hit_before_within test p) in omega (arith, below)

-- The hit before is before the position, unless that is 0.
pub hit_before_below : (test : ℕ → Bool) (p : ℕ) → 0 < p → hit_before test p < p
unfolding hit_before
hit_before_below test zero some = absurd (omega (arith, some))
hit_before_below test (suc p) some = let below = below_by p (hit_before test p) (test p) (hit_before_within test p) in omega (arith, below)
