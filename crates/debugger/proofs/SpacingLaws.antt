-- The spacing of checkpoints as the greatest position grows.
use Rattle.std.proofs.Common.{◌≡◌, ℕ, ◌+◌, ◌-◌, ◌*◌, ◌/◌, ◌%◌, ◌<◌, ◌≤◌, ◌^◌, inl, inr, sym, ap, ◌∙◌, arith, add-one}
use Rattle.std.proofs.lemmas.Bool.{cases_lt}
use Rattle.std.proofs.lemmas.Nat.{le-div, div-add-mod', div_below}
use Rattle.std.proofs.Math.Nat.{mod-lt, mul-le-mul_right, pow-succ'}
use Rattle.debugger.specs.Marks.{IsSpacing}

mul_more : (a d : ℕ) → (a + 1) * d ≡ a * d + d
mul_more a d = grind arith

power_more : (k : ℕ) → 2 ^ (k + 1) ≡ 2 * 2 ^ k
power_more k = ap (λ n. 2 ^ n) (add-one k) ∙ pow-succ' 2 k

-- The next position of a checkpoint is within 64 times the spacing.
pub next_within : (most d n m : ℕ) → IsSpacing most d → n ≤ most → m ≤ n + (d - n % d) → m ≤ 64 * d
next_within most d n m is within near =
    let positive = is.positive in
    let enough = is.enough in
    let below : n / d < 64 = div_below n d 64 positive (omega arith) in
    let now : n / d * d + n % d ≡ n = div-add-mod' n d in
    let small : n % d < d = mod-lt n positive in
    let more : (n / d + 1) * d ≡ n / d * d + d = mul_more (n / d) d in
    let up : n / d + 1 ≤ 64 = omega arith in
    let high : (n / d + 1) * d ≤ 64 * d = mul-le-mul_right d up in
    omega arith

-- If a spacing is too small for a greater position, twice the spacing isn't.
pub spacing_doubles : (most d more wide : ℕ) → more ≤ 64 * d → wide ≡ 2 * d → d ≤ more / 64 → IsSpacing most d → IsSpacing more wide
spacing_doubles most d more wide within twice small is =
    let k = is.power.0 in
    let power : d ≡ 2 ^ k = is.power.1 in
    record {
      power = (k + 1, twice ∙ ap (λ x. 2 * x) power ∙ sym (power_more k));
      positive = omega (arith, is.positive);
      enough = omega (arith, is.positive);
      least = λ _. omega arith;
    }

-- Else the spacing stays.
pub spacing_stays : (most d more : ℕ) → most ≤ more → more / 64 < d → IsSpacing most d → IsSpacing more d
spacing_stays most d more up large is = record {
  power = is.power;
  positive = is.positive;
  enough = omega arith;
  least = λ one. let least = is.least one in omega arith;
}

-- After the spacing doubled, the next position of a checkpoint is no nearer.
pub near_wider : (most d n m wide : ℕ) → IsSpacing most d → n ≤ most → m ≤ n + (d - n % d) → d ≤ m / 64 → wide ≡ 2 * d → m ≤ n + (wide - n % wide)
near_wider most d n m wide is within near small twice =
    let positive = is.positive in
    let high : m ≤ 64 * d = next_within most d n m is within near in
    let low : 63 * d ≤ n = omega arith in
    let wide_positive : 0 < wide = omega arith in
    let many : 31 ≤ n / wide = le-div 31 n wide wide_positive (omega arith) in
    let now : n / wide * wide + n % wide ≡ n = div-add-mod' n wide in
    let rest : n % wide < wide = mod-lt n wide_positive in
    let multiple : 31 * wide ≤ n / wide * wide = mul-le-mul_right wide many in
    omega arith

-- The spacing is at most the greatest position plus 1.
pub spacing_small : (most d : ℕ) → IsSpacing most d → d ≤ most + 1
spacing_small most d is = elim (cases_lt 1 d) [
  | inl more ↦ let least = is.least more in omega (arith, least)
  | inr one ↦ omega arith
]
