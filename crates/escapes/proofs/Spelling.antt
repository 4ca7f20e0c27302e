-- A name has one spelling.
use Rattle.std.proofs.Common.{◌≡◌, ◌≢◌, ℕ, ◌/◌, ◌%◌, ◌<◌, ◌==◌, Bool, true, false, cond, List, [], ◌∷◌, ◌++◌, length, refl, sym, ap, ◌∙◌, append_assoc, arith}
use Rattle.std.proofs.Math.Nat.{mod-lt}
use Rattle.std.proofs.lemmas.Bool.{true≢false}
use Rattle.std.proofs.lemmas.Bool.Decides.{nat_tests}
use Rattle.jvms_file.specs.Texts.{IsText}
use Rattle.escapes.specs.Escapes.{is_plain, hexadecimal, four_digits, unit_text, name_text}
use Rattle.escapes.specs.Readings.{IsUnit}

-- ---- One unit

one_digit : (a b : ℕ) → a < 16 → b < 16 → hexadecimal a ≡ hexadecimal b → a ≡ b
one_digit a b small few e = grind (arith, nat_tests)

-- Units with equal digits are equal.
digits_unit : (u v : ℕ) → IsUnit u → IsUnit v → u / 4096 ≡ v / 4096 → u / 256 % 16 ≡ v / 256 % 16 → u / 16 % 16 ≡ v / 16 % 16 → u % 16 ≡ v % 16 → u ≡ v
digits_unit u v small few first second third fourth = omega arith

sixteenth : (n : ℕ) → n % 16 < 16
sixteenth n = mod-lt n (omega arith)

high_digit : (u : ℕ) → IsUnit u → u / 4096 < 16
high_digit u small = omega arith

same_digits : (u v : ℕ) (us vs : List ℕ) → IsUnit u → IsUnit v → 92 ∷ 117 ∷ four_digits u ++ us ≡ 92 ∷ 117 ∷ four_digits v ++ vs → (u ≡ v) × (us ≡ vs)
same_digits u v us vs small few e =
    let first : hexadecimal (u / 4096) ≡ hexadecimal (v / 4096) = cc in
    let second : hexadecimal (u / 256 % 16) ≡ hexadecimal (v / 256 % 16) = cc in
    let third : hexadecimal (u / 16 % 16) ≡ hexadecimal (v / 16 % 16) = cc in
    let fourth : hexadecimal (u % 16) ≡ hexadecimal (v % 16) = cc in
    let behind : us ≡ vs = cc in (
      digits_unit u v small few
          (one_digit (u / 4096) (v / 4096) (high_digit u small) (high_digit v few) first)
          (one_digit (u / 256 % 16) (v / 256 % 16) (sixteenth (u / 256)) (sixteenth (v / 256)) second)
          (one_digit (u / 16 % 16) (v / 16 % 16) (sixteenth (u / 16)) (sixteenth (v / 16)) third)
          (one_digit (u % 16) (v % 16) (sixteenth u) (sixteenth v) fourth),
      behind,
    )

plain_no_backslash : (u : ℕ) → is_plain u ≡ true → u ≡ 92 → ⊥
plain_no_backslash u plain same = grind (arith, nat_tests)

unit_by_cases : (u v : ℕ) (p q : Bool) (us vs : List ℕ) → IsUnit u → IsUnit v → is_plain u ≡ p → is_plain v ≡ q
    → cond p (u ∷ []) (92 ∷ 117 ∷ four_digits u) ++ us ≡ cond q (v ∷ []) (92 ∷ 117 ∷ four_digits v) ++ vs → (u ≡ v) × (us ≡ vs)
unit_by_cases u v true true us vs small few left right e = (cc, cc)
unit_by_cases u v true false us vs small few left right e = absurd (plain_no_backslash u left cc)
unit_by_cases u v false true us vs small few left right e = absurd (plain_no_backslash v right cc)
unit_by_cases u v false false us vs small few left right e = same_digits u v us vs small few e

-- Texts that begin with units as they are written begin with the same unit.
pub one_unit : (u v : ℕ) (us vs : List ℕ) → IsUnit u → IsUnit v → unit_text u ++ us ≡ unit_text v ++ vs → (u ≡ v) × (us ≡ vs)
one_unit u v us vs small few e = unit_by_cases u v (is_plain u) (is_plain v) us vs small few refl refl e

some_by_cases : (u : ℕ) (p : Bool) (us : List ℕ) → cond p (u ∷ []) (92 ∷ 117 ∷ four_digits u) ++ us ≡ [] → ⊥
some_by_cases u true us e = cc
some_by_cases u false us e = cc

-- A written unit has at least one byte.
pub unit_is_some : (u : ℕ) (us : List ℕ) → unit_text u ++ us ≡ [] → ⊥
unit_is_some u us e = some_by_cases u (is_plain u) us e

-- ---- Units, one after another

-- The rest of a name after some of its units.
pub record IsLeft (rest : List ℕ) : Type 0 where
  pub units : List ℕ
  pub are : IsText units
  pub text : rest ≡ name_text units

pub units_left : (us vs rest : List ℕ) → IsText us → IsText vs → name_text us ++ rest ≡ name_text vs → IsLeft rest
units_left [] vs rest small few e = record { units = vs; are = few; text = e }
units_left (u ∷ us) [] rest small few e = absurd (unit_is_some u (name_text us ++ rest) (sym (append_assoc (unit_text u) (name_text us) rest) ∙ e))
units_left (u ∷ us) (v ∷ vs) rest small few e =
    let parts = one_unit u v (name_text us ++ rest) (name_text vs) small.0 few.0 (sym (append_assoc (unit_text u) (name_text us) rest) ∙ e) in
    units_left us vs rest small.1 few.1 parts.1

-- A rest that begins with no unit isn't one of a name.
nothing_left : (rest : List ℕ) (units : List ℕ) → IsText units → rest ≡ name_text units → (rest ≡ [] → ⊥)
    → ((u : ℕ) (behind : List ℕ) → IsUnit u → rest ≢ unit_text u ++ behind) → ⊥
nothing_left rest [] are e some none = some e
nothing_left rest (u ∷ us) are e some none = none u (name_text us) are.0 e

pub no_name : (text us rest : List ℕ) → IsText us → text ≡ name_text us ++ rest → (rest ≡ [] → ⊥)
    → ((u : ℕ) (behind : List ℕ) → IsUnit u → rest ≢ unit_text u ++ behind) → (vs : List ℕ) → IsText vs → text ≢ name_text vs
no_name text us rest small split some none vs few e =
    let left = units_left us vs rest small few (sym split ∙ e) in
    nothing_left rest left.units left.are left.text some none

-- Equal spellings are those of equal names.
pub one_name : (us vs : List ℕ) → IsText us → IsText vs → name_text us ≡ name_text vs → us ≡ vs
one_name [] [] small few e = refl
one_name [] (v ∷ vs) small few e = absurd (unit_is_some v (name_text vs) (sym e))
one_name (u ∷ us) [] small few e = absurd (unit_is_some u (name_text us) e)
one_name (u ∷ us) (v ∷ vs) small few e =
    let parts = one_unit u v (name_text us) (name_text vs) small.0 few.0 e in
    let rest = one_name us vs small.1 few.1 parts.1 in
    let first = parts.0 in
    cc

-- A list whose length was tested isn't empty.
pub not_empty : (xs : List ℕ) (b : Bool) → b ≡ (length xs == 0) → b ≡ false → xs ≡ [] → ⊥
not_empty xs b is isnt none = true≢false (sym (is ∙ ap (λ (ys : List ℕ). length ys == 0) none) ∙ isnt)
