-- A reach whose spacing grows for a target position.
use Rattle.std.proofs.Common.{◌≡◌, ℕ, ◌+◌, ◌*◌, ◌/◌, ◌≤◌, ◌^◌, List, sym, ap, ◌∙◌, arith, add-one}
use Rattle.std.proofs.Math.Nat.{mul_assoc, pow-succ'}
use Rattle.debugger.specs.declared.reach.Reach.{Reach}
use Rattle.debugger.specs.Marks.{AreMarks, mark_at}
use Rattle.debugger.specs.States.{Setting}
use Rattle.debugger.specs.Walks.{IsAiming}

power_more : (k : ℕ) → 2 ^ (k + 1) ≡ 2 * 2 ^ k
power_more k = ap (λ n. 2 ^ n) (add-one k) ∙ pow-succ' 2 k

-- The spacing doubles while it is too small.
pub aim_doubles : (g : Setting) (choices : List ℕ) (place : ℕ) (old r s : Reach) → IsAiming g choices place old r → r.spacing ≤ place / 64
    → s.spacing ≡ 2 * r.spacing → s.ratio ≡ 2 * r.ratio → (s.from ≡ r.from) × (s.far ≡ r.far) × (s.most ≡ r.most) × (s.base ≡ r.base)
    → AreMarks (mark_at g choices) s.spacing (s.from / s.spacing + 1) s.far s.fresh.items → IsAiming g choices place old s
aim_doubles g choices place old r s is small twice ratio places fresh =
    let k = is.power.0 in
    record {
      from = places.0 ∙ is.from;
      far = places.1 ∙ is.far;
      base = places.3 ∙ is.base;
      most = places.2 ∙ is.most;
      places = omega (arith, is.places, places.0, places.1);
      within = omega (arith, is.within, places.1);
      up = omega (arith, is.up, places.1);
      power = (k + 1, twice ∙ ap (λ x. 2 * x) is.power.1 ∙ sym (power_more k));
      positive = omega (arith, is.positive, twice);
      least = λ _. omega (arith, twice, small);
      ratio = twice ∙ ap (λ x. 2 * x) is.ratio ∙ sym (mul_assoc 2 r.ratio r.base) ∙ ap (λ x. x * r.base) (sym ratio) ∙ ap (λ x. s.ratio * x) (sym places.3);
      ratio_positive = omega (arith, is.ratio_positive, ratio);
      ratio_small = omega (arith, is.ratio_small, ratio, twice);
      base_small = omega (arith, is.base_small, twice, places.3);
      fresh = fresh;
    }
