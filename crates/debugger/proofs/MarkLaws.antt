-- Marks at the multiples of a spacing: when the position moves, when the spacing grows, and when marks are cut or
-- joined.
use Rattle.std.proofs.Common.{◌≡◌, ℕ, ◌+◌, ◌-◌, ◌*◌, ◌/◌, ◌%◌, ◌<◌, ◌≤◌, List, [], ◌∷◌, ◌++◌, length, take, get_or, refl, sym, ap, ◌∙◌, arith, inl, inr, add_assoc, subst}
use Rattle.std.proofs.lemmas.Bool.{cases_lt}
use Rattle.std.proofs.lemmas.List.{length-append, length-take-le, get_or-append_right, get_or-take}
use Rattle.std.proofs.lemmas.Nat.{le-div, div-add-mod', div_below}
use Rattle.std.proofs.Math.ListN.{get_or-append}
use Rattle.std.proofs.Math.Nat.{div-div-eq-div-mul, div-mul-le_self, lt-div-mul-add, mod-lt, mul_assoc, mul_comm, mul-le-mul_right, lt_of_mul-lt-mul_right, le_of_mul-le-mul_right, le_trans, lt_irrefl}
use Rattle.std.proofs.Math.Seq.{get_or-append_seam}
use Rattle.debugger.specs.declared.mark.Mark.{Mark}
use Rattle.debugger.specs.Marks.{AreMarks, IsSpacing}

-- ---- Products

mul_add : (a b d : ℕ) → (a + b) * d ≡ a * d + b * d
mul_add a b d = grind arith

mul_more : (a d : ℕ) → (a + 1) * d ≡ a * d + d
mul_more a d = grind arith

-- ---- Quotients

-- A multiple is at most n if its number is at most the quotient.
pub multiple_within : (n d k : ℕ) → k ≤ n / d → k * d ≤ n
multiple_within n d k m =
    let a : k * d ≤ n / d * d = mul-le-mul_right d m in
    let b : n / d * d ≤ n = div-mul-le_self n d in
    omega arith

-- The quotient stays up to the next multiple, and grows there.
pub div_stays : (n m d : ℕ) → 0 < d → n ≤ m → m ≤ n + (d - n % d) → 0 < m % d → m / d ≡ n / d
div_stays n m d h up near r =
    let now : n / d * d + n % d ≡ n = div-add-mod' n d in
    let next : m / d * d + m % d ≡ m = div-add-mod' m d in
    let small : n % d < d = mod-lt n h in
    let low : n / d ≤ m / d = le-div (n / d) m d h (omega arith) in
    let more : (n / d + 1) * d ≡ n / d * d + d = mul_more (n / d) d in
    let high : m / d < n / d + 1 = lt_of_mul-lt-mul_right d (omega arith) in
    omega arith

pub div_grows : (n m d : ℕ) → 0 < d → n < m → m ≤ n + (d - n % d) → m % d ≡ 0 → m / d ≡ n / d + 1
div_grows n m d h up near r =
    let now : n / d * d + n % d ≡ n = div-add-mod' n d in
    let next : m / d * d + m % d ≡ m = div-add-mod' m d in
    let small : n % d < d = mod-lt n h in
    let more : (n / d + 1) * d ≡ n / d * d + d = mul_more (n / d) d in
    let low : n / d < m / d = lt_of_mul-lt-mul_right d (omega arith) in
    let high : m / d ≤ n / d + 1 = le_of_mul-le-mul_right (omega arith) h in
    omega arith

pub div_exact : (n d : ℕ) → n % d ≡ 0 → n / d * d ≡ n
div_exact n d r =
    let now : n / d * d + n % d ≡ n = div-add-mod' n d in
    omega arith

-- ---- Marks

pub marks_stay : (at : ℕ → Mark) (d first last next : ℕ) (ms : List Mark) → 0 < d → last ≤ next → next ≤ last + (d - last % d) → 0 < next % d → AreMarks at d first last ms → AreMarks at d first next ms
marks_stay at d first last next ms h up near r is = record {
  many = is.many ∙ ap (λ q. q + 1) (sym (div_stays last next d h up near r));
  each = is.each;
}

marks_one_more : (at : ℕ → Mark) (d first last next : ℕ) (ms : List Mark) (m : Mark) → 0 < d → last < next → next ≤ last + (d - last % d) → next % d ≡ 0 → m ≡ at next → AreMarks at d first last ms → AreMarks at d first next (ms ++ m ∷ [])
marks_one_more at d first last next ms m h up near r is_at is =
    let grows : next / d ≡ last / d + 1 = div_grows last next d h up near r in
    let count : length (ms ++ m ∷ []) ≡ length ms + 1 = length-append ms (m ∷ []) in
    let many : first + length ms ≡ last / d + 1 = is.many in
    let place : (first + length ms) * d ≡ next = ap (λ q. q * d) (many ∙ sym grows) ∙ div_exact next d r in
    record {
      many = omega arith;
      each = λ i x below. elim (cases_lt i (length ms)) [
        | inl less ↦ get_or-append ms (m ∷ []) x i less ∙ is.each i x less
        | inr most ↦
            let last_one : i ≡ length ms = omega arith in
            ap (λ k. get_or (ms ++ m ∷ []) k x) last_one ∙ get_or-append_seam ms m [] x ∙ is_at ∙ ap at (sym place) ∙ ap (λ k. at ((first + k) * d)) (sym last_one)
      ];
    }

pub marks_more : (at : ℕ → Mark) (d first last next : ℕ) (ms ns : List Mark) (m : Mark) → 0 < d → last < next → next ≤ last + (d - last % d) → next % d ≡ 0 → ns ≡ ms ++ m ∷ [] → m ≡ at next → AreMarks at d first last ms → AreMarks at d first next ns
marks_more at d first last next ms ns m h up near r more is_at is = subst (λ l. AreMarks at d first next l) (sym more) (marks_one_more at d first last next ms m h up near r is_at is)

-- The number of marks that are kept equals the number of multiples of the wider spacing.
thin_count : (q first skip ratio next all kept : ℕ) → 0 < ratio → first + skip ≡ next * ratio → next ≤ q / ratio + 1 → first + all ≡ q + 1
    → ((j : ℕ) → j < kept → skip + j * ratio < all)
    → ((j : ℕ) → skip + j * ratio < all → j < kept)
    → next + kept ≡ q / ratio + 1
thin_count q first skip ratio next all kept k seam small many in_all in_kept =
    let place : (j : ℕ) → (next + j) * ratio ≡ first + skip + j * ratio = λ j. mul_add next j ratio ∙ ap (λ x. x + j * ratio) (sym seam) in
    elim (cases_lt (next + kept) (q / ratio + 1)) [
      | inl less ↦
          let within : (next + kept) * ratio ≤ q = multiple_within q ratio (next + kept) (omega arith) in
          let here = place kept in
          absurd (lt_irrefl kept (in_kept kept (omega arith)))
      | inr most ↦ elim (cases_lt (q / ratio + 1) (next + kept)) [
        | inl more ↦
            let j : ℕ = q / ratio + 1 - next in
            let has = in_all j (omega arith) in
            let here = place j in
            let is : next + j ≡ q / ratio + 1 = omega arith in
            let high : q < (q / ratio + 1) * ratio = rw (mul_more (q / ratio) ratio) (lt-div-mul-add k) in
            let there : (next + j) * ratio ≡ (q / ratio + 1) * ratio = ap (λ x. x * ratio) is in
            omega arith
        | inr few ↦ omega arith
      ]
    ]

-- Keeping every nth mark yields the marks of a spacing n times as wide.
pub marks_thin : (at : ℕ → Mark) (d first last : ℕ) (ms ns : List Mark) (skip ratio next : ℕ) → 0 < ratio → first + skip ≡ next * ratio → next ≤ last / (ratio * d) + 1
    → ((j : ℕ) (x : Mark) → j < length ns → get_or ns j x ≡ get_or ms (skip + j * ratio) x)
    → ((j : ℕ) → j < length ns → skip + j * ratio < length ms)
    → ((j : ℕ) → skip + j * ratio < length ms → j < length ns)
    → AreMarks at d first last ms → AreMarks at (ratio * d) next last ns
marks_thin at d first last ms ns skip ratio next k seam small each kept all is =
    let wider : last / d / ratio ≡ last / (ratio * d) = div-div-eq-div-mul last d ratio ∙ ap (λ x. last / x) (mul_comm d ratio) in
    let many : first + length ms ≡ last / d + 1 = is.many in
    record {
      many = thin_count (last / d) first skip ratio next (length ms) (length ns) k seam (omega arith) many kept all ∙ ap (λ x. x + 1) wider;
      each = λ j x below.
          let place : (first + (skip + j * ratio)) * d ≡ (next + j) * (ratio * d) =
          ap (λ y. y * d) (sym (add_assoc first skip (j * ratio)) ∙ ap (λ y. y + j * ratio) seam ∙ sym (mul_add next j ratio)) ∙ mul_assoc (next + j) ratio d in
          each j x below ∙ is.each (skip + j * ratio) x (kept j below) ∙ ap at place;
    }

-- The session's marks followed by those beyond.
pub marks_join : (at : ℕ → Mark) (d from last : ℕ) (ms ns : List Mark) → AreMarks at d 0 from ms → AreMarks at d (from / d + 1) last ns → AreMarks at d 0 last (ms ++ ns)
marks_join at d from last ms ns is more =
    let many : 0 + length ms ≡ from / d + 1 = is.many in
    let beyond : from / d + 1 + length ns ≡ last / d + 1 = more.many in
    let count : length (ms ++ ns) ≡ length ms + length ns = length-append ms ns in
    record {
      many = omega arith;
      each = λ i x below. elim (cases_lt i (length ms)) [
        | inl less ↦ get_or-append ms ns x i less ∙ is.each i x less
        | inr most ↦
            let place : from / d + 1 + (i - length ms) ≡ 0 + i = omega arith in
            get_or-append_right ms ns (length ms) i x refl most ∙ more.each (i - length ms) x (omega arith) ∙ ap (λ k. at (k * d)) place
      ];
    }

-- The marks up to a position.
pub marks_cut : (at : ℕ → Mark) (d last place : ℕ) (ms : List Mark) → 0 < d → place ≤ last → AreMarks at d 0 last ms → AreMarks at d 0 place (take (place / d + 1) ms)
marks_cut at d last place ms h within is =
    let many : 0 + length ms ≡ last / d + 1 = is.many in
    let less : place / d ≤ last / d = le-div (place / d) last d h (le_trans (div-mul-le_self place d) within) in
    let count : length (take (place / d + 1) ms) ≡ place / d + 1 = length-take-le (place / d + 1) ms (omega arith) in
    record {
      many = omega arith;
      each = λ i x below. get_or-take (place / d + 1) ms i x (omega arith) ∙ is.each i x (omega arith);
    }

-- The marks of other choices that are the same up to the last position.
pub marks_same : (at other : ℕ → Mark) (d first last : ℕ) (ms : List Mark) → ((n : ℕ) → n ≤ last → at n ≡ other n) → AreMarks at d first last ms → AreMarks other d first last ms
marks_same at other d first last ms same is =
    let many : first + length ms ≡ last / d + 1 = is.many in
    record {
      many = is.many;
      each = λ i x below. is.each i x below ∙ same ((first + i) * d) (multiple_within last d (first + i) (omega arith));
    }

-- The spacing doubles.
pub marks_widen : (at : ℕ → Mark) (d from far : ℕ) (ms ns : List Mark) → 0 < d → from ≤ far
    → ((j : ℕ) (x : Mark) → j < length ns → get_or ns j x ≡ get_or ms ((from / d + 1) % 2 + j * 2) x)
    → ((j : ℕ) → j < length ns → (from / d + 1) % 2 + j * 2 < length ms)
    → ((j : ℕ) → (from / d + 1) % 2 + j * 2 < length ms → j < length ns)
    → AreMarks at d (from / d + 1) far ms → AreMarks at (2 * d) (from / (2 * d) + 1) far ns
marks_widen at d from far ms ns h within each kept all is =
    let half : from / (2 * d) ≡ from / d / 2 = ap (λ x. from / x) (mul_comm 2 d) ∙ sym (div-div-eq-div-mul from d 2) in
    let positive : 0 < 2 * d = omega arith in
    let less : from / (2 * d) ≤ far / (2 * d) = le-div (from / (2 * d)) far (2 * d) positive (le_trans (div-mul-le_self from (2 * d)) within) in
    marks_thin at d (from / d + 1) far ms ns ((from / d + 1) % 2) 2 (from / (2 * d) + 1) (omega arith) (omega arith) (omega arith) each kept all is

-- The session's marks at its new spacing, followed by those of a walk.
pub marks_gather : (at : ℕ → Mark) (base ratio wide from last : ℕ) (ms kept fresh all : List Mark) → 0 < ratio → wide ≡ ratio * base
    → ((j : ℕ) (x : Mark) → j < length kept → get_or kept j x ≡ get_or ms (0 + j * ratio) x)
    → ((j : ℕ) → j < length kept → 0 + j * ratio < length ms)
    → ((j : ℕ) → 0 + j * ratio < length ms → j < length kept)
    → all ≡ kept ++ fresh → AreMarks at base 0 from ms → AreMarks at wide (from / wide + 1) last fresh → AreMarks at wide 0 last all
marks_gather at base ratio wide from last ms kept fresh all positive is_wide each in_ms in_kept all_is is more =
    let thinned : AreMarks at (ratio * base) 0 from kept = marks_thin at base 0 from ms kept 0 ratio 0 positive (omega arith) (omega arith) each in_ms in_kept is in
    let here : AreMarks at wide 0 from kept = subst (λ d. AreMarks at d 0 from kept) (sym is_wide) thinned in
    subst (λ l. AreMarks at wide 0 last l) (sym all_is) (marks_join at wide from last kept fresh here more)

-- There are at most 64 marks.
pub marks_few : (at : ℕ → Mark) (d most last : ℕ) (ms : List Mark) → IsSpacing most d → last ≤ most → AreMarks at d 0 last ms → length ms ≤ 64
marks_few at d most last ms spacing within is =
    let small : last / d < 64 = div_below last d 64 spacing.positive (omega (arith, spacing.enough)) in
    let many : 0 + length ms ≡ last / d + 1 = is.many in
    omega arith

-- There are no marks beyond the last position.
pub marks_none : (at : ℕ → Mark) (d last : ℕ) (ms : List Mark) → ms ≡ [] → AreMarks at d (last / d + 1) last ms
marks_none at d last ms none =
    let count : length ms ≡ 0 = ap length none in
    record { many = omega arith; each = λ i x below. absurd (lt_irrefl 0 (omega arith)) }

-- The first mark.
pub marks_first : (at : ℕ → Mark) (ms : List Mark) (m : Mark) → ms ≡ m ∷ [] → m ≡ at 0 → AreMarks at 1 0 0 ms
marks_first at ms m only is =
    let count : length ms ≡ 1 = ap length only in
    record {
      many = omega arith;
      each = λ i x below.
          let here : i ≡ 0 = omega arith in
          let place : (0 + i) * 1 ≡ 0 = omega arith in
          ap (λ k. get_or ms k x) here ∙ ap (λ l. get_or l 0 x) only ∙ is ∙ ap at (sym place);
    }
