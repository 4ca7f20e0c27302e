-- Proves that a word spells a number exactly if it is read as this number.
use Rattle.std.proofs.Common.{◌≡◌, ℕ, ◌+◌, ◌-◌, ◌*◌, ◌^◌, ◌<◌, ◌≤◌, ◌⊎◌, inl, inr, ◌&&◌, Bool, true, false, cond, eqb, List, [], ◌∷◌, length, drop, Option, Some, None, ℤ, refl, sym, ap, subst, ◌∙◌, arith, option_map, option_and_then}
use Rattle.std.specs.Prelude.{nat_le, nat_lt, pos, neg_ℤ}
use Rattle.std.proofs.Math.Nat.{pow-succ', pow-zero, mul_assoc, add-mul}
use Rattle.std.proofs.lemmas.Bool.{and_parts, le-leb, lt-leb, lt-ltb, ltb-true, leb-true, eqb-true, ne_eqb}
use Rattle.std.proofs.lemmas.Option.{none-some, same_Some}
use Rattle.jvms_file.specs.Names.{begins_with}
use Rattle.jasmin.specs.Lexing.{digit}
use Rattle.jasmin.specs.Numerals.{digit_below, digits_after, natural, is_hexadecimal, number_of}
use Rattle.source_form_laws.proofs.Judged.{choose}
use Rattle.source_grammar_laws.specs.Numbers.{IsDigit, SpellsDigits, SpellsNatural, SpellsNumber}

-- ---- Digits

within : (a b u : ℕ) → a ≤ u → u ≤ b → (nat_le a u && nat_le u b) ≡ true
within a b u low high = rw (le-leb a u low, le-leb u b high) refl

under : (a b u : ℕ) → u < a → (nat_le a u && nat_le u b) ≡ false
under a b u low = rw (lt-leb a u low) refl

over : (a b u : ℕ) → a ≤ u → b < u → (nat_le a u && nat_le u b) ≡ false
over a b u low high = rw (le-leb a u low, lt-leb u b high) refl

bound : (a b u : ℕ) → (nat_le a u && nat_le u b) ≡ true → (a ≤ u) × (u ≤ b)
bound a b u e = let both = and_parts (nat_le a u) (nat_le u b) e in (leb-true a u both.0, leb-true u b both.1)

decimal_says : (d : ℕ) → d < 10 → digit (48 + d) ≡ Some d
decimal_says d small =
    let value : 48 + d - 48 ≡ d = omega arith in
    rw (within 48 57 (48 + d) (omega arith) (omega arith)) (ap (λ (n : ℕ). Some n) value)

lower_says : (d : ℕ) → 10 ≤ d → d < 16 → digit (87 + d) ≡ Some d
lower_says d low high =
    let value : 87 + d - 87 ≡ d = omega arith in
    rw (over 48 57 (87 + d) (omega arith) (omega arith), within 97 102 (87 + d) (omega arith) (omega arith)) (ap (λ (n : ℕ). Some n) value)

upper_says : (d : ℕ) → 10 ≤ d → d < 16 → digit (55 + d) ≡ Some d
upper_says d low high =
    let value : 55 + d - 55 ≡ d = omega arith in
    rw (over 48 57 (55 + d) (omega arith) (omega arith), under 97 102 (55 + d) (omega arith), within 65 70 (55 + d) (omega arith) (omega arith)) (ap (λ (n : ℕ). Some n) value)

digit_value : (u d : ℕ) → ((u ≡ 48 + d) × (d < 10)) ⊎ ((10 ≤ d) × (d < 16) × ((u ≡ 87 + d) ⊎ (u ≡ 55 + d))) → digit u ≡ Some d
digit_value u d (inl p) = rw p.0 (decimal_says d p.1)
digit_value u d (inr (low, high, inl e)) = rw e (lower_says d low high)
digit_value u d (inr (low, high, inr e)) = rw e (upper_says d low high)

digit_says : (radix u d : ℕ) → IsDigit radix u d → digit_below radix u ≡ Some d
digit_says radix u d is = rw (digit_value u d is.1, lt-ltb d radix is.0) refl

-- A unit that has a value as a digit is the digit of this value.
digit_from : (u d : ℕ) → digit u ≡ Some d → ((u ≡ 48 + d) × (d < 10)) ⊎ ((10 ≤ d) × (d < 16) × ((u ≡ 87 + d) ⊎ (u ≡ 55 + d)))
digit_from u d e =
    choose (nat_le 48 u && nat_le u 57) (Some (u - 48)) _ (Some d) e
    (λ met is. let r = bound 48 57 u met in let v = same_Some (u - 48) d is in inl (omega arith, omega arith))
    (λ no more. choose (nat_le 97 u && nat_le u 102) (Some (u - 87)) _ (Some d) more
    (λ met is. let r = bound 97 102 u met in let v = same_Some (u - 87) d is in inr (omega arith, omega arith, inl (omega arith)))
    (λ none last. choose (nat_le 65 u && nat_le u 70) (Some (u - 55)) None (Some d) last
    (λ met is. let r = bound 65 70 u met in let v = same_Some (u - 55) d is in inr (omega arith, omega arith, inr (omega arith)))
    (λ bad is. absurd (none-some d is))))

below_from : (radix u d : ℕ) (o : Option ℕ) → digit u ≡ o → option_and_then (λ n. cond (nat_lt n radix) (Some n) None) o ≡ Some d → IsDigit radix u d
below_from radix u d (Some n) is e =
    choose (nat_lt n radix) (Some n) None (Some d) e
    (λ met same. let v = same_Some n d same in subst (λ (k : ℕ). IsDigit radix u k) v (ltb-true n radix met, digit_from u n is))
    (λ no none. absurd (none-some d none))
below_from radix u d None is e = absurd (none-some d e)

digit_said : (radix u d : ℕ) → digit_below radix u ≡ Some d → IsDigit radix u d
digit_said radix u d e = below_from radix u d (digit u) refl e

-- ---- Consecutive digits

-- Returns the number whose digits are those of k, followed by these.
abbrev behind : ℕ → ℕ → List ℕ → ℕ → ℕ
behind radix k us n = k * radix ^ length us + n

none_behind : (radix k n : ℕ) → n ≡ 0 → k ≡ behind radix k [] n
none_behind radix k n e =
    let one : radix ^ 0 ≡ 1 = pow-zero radix in
    rw one (omega arith)

one_behind : (radix k d m : ℕ) (us : List ℕ) (u : ℕ) → behind radix (k * radix + d) us m ≡ behind radix k (u ∷ us) (d * radix ^ length us + m)
one_behind radix k d m us u =
    let p = radix ^ length us in
    let power : radix ^ length (u ∷ us) ≡ radix * p = pow-succ' radix (length us) in
    let parts : (k * radix + d) * p ≡ k * radix * p + d * p = add-mul (k * radix) d p in
    let product : k * radix * p ≡ k * (radix * p) = mul_assoc k radix p in
    rw (power, parts, product) (omega arith)

digits_say : (radix k : ℕ) (us : List ℕ) (n : ℕ) → SpellsDigits radix us n → digits_after radix k us ≡ Some (behind radix k us n)
digits_say radix k [] n e = ap (λ (m : ℕ). Some m) (none_behind radix k n e)
digits_say radix k (u ∷ us) n (d, m, is, rest, e) =
    rw (digit_says radix u d is, e) (digits_say radix (k * radix + d) us m rest ∙ ap (λ (v : ℕ). Some v) (one_behind radix k d m us u))

-- The number that was read is that of k, followed by these digits.
record AreDigits (radix k : ℕ) (us : List ℕ) (v : ℕ) : Type 0 where
  pub n : ℕ
  pub spelled : SpellsDigits radix us n
  pub value : v ≡ behind radix k us n

-- One digit is read before the others.
one_more : (radix k u : ℕ) (us : List ℕ) (v : ℕ) (o : Option ℕ) → digit_below radix u ≡ o → ((d : ℕ) → digits_after radix (k * radix + d) us ≡ Some v → AreDigits radix (k * radix + d) us v)
    → option_and_then (λ d. digits_after radix (k * radix + d) us) o ≡ Some v → AreDigits radix k (u ∷ us) v
one_more radix k u us v None is next e = absurd (none-some v e)
one_more radix k u us v (Some d) is next e =
    let rest = next d e in
    record {
      n = d * radix ^ length us + rest.n;
      spelled = (d, rest.n, digit_said radix u d is, rest.spelled, refl);
      value = rest.value ∙ one_behind radix k d rest.n us u;
    }

digits_said : (radix k : ℕ) (us : List ℕ) (v : ℕ) → digits_after radix k us ≡ Some v → AreDigits radix k us v
digits_said radix k [] v e = record { n = 0; spelled = refl; value = sym (same_Some k v e) ∙ none_behind radix k 0 refl }
digits_said radix k (u ∷ us) v e =
    one_more radix k u us v (digit_below radix u) refl (λ d f. digits_said radix (k * radix + d) us v f) e

pub natural_says : (radix : ℕ) (us : List ℕ) (n : ℕ) → SpellsNatural radix us n → natural radix us ≡ Some n
natural_says radix [] n is = absurd (let e = is.0 in cc)
natural_says radix (u ∷ us) n is =
    let whole : behind radix 0 (u ∷ us) n ≡ n = omega arith in
    digits_say radix 0 (u ∷ us) n is.1 ∙ ap (λ (m : ℕ). Some m) whole

pub natural_said : (radix : ℕ) (us : List ℕ) (n : ℕ) → natural radix us ≡ Some n → SpellsNatural radix us n
natural_said radix [] n e = absurd (none-some n e)
natural_said radix (u ∷ us) n e =
    let digits = digits_said radix 0 (u ∷ us) n e in
    let same : digits.n ≡ n = let value = digits.value in omega arith in
    (refl, subst (λ (m : ℕ). SpellsDigits radix (u ∷ us) m) same digits.spelled)

-- ---- Words

-- A word begins with this unit.
begun : (u : ℕ) (w : List ℕ) → begins_with u w ≡ true → w ≡ u ∷ drop 1 w
begun u [] e = absurd cc
begun u (v ∷ vs) e = ap (λ (x : ℕ). x ∷ vs) (eqb-true v u e)

begun_x : (w : List ℕ) → is_hexadecimal w ≡ true → w ≡ 48 ∷ 120 ∷ drop 2 w
begun_x [] e = absurd cc
begun_x (u ∷ us) e =
    let both = and_parts (begins_with 48 (u ∷ us)) (begins_with 120 us) e in
    let first = eqb-true u 48 both.0 in
    let second = begun 120 us both.1 in
    rw first (ap (λ (x : List ℕ). 48 ∷ x) second)

-- The number is made of the digits' number and a sign.
record IsMade (radix : ℕ) (make : ℕ → ℤ) (us : List ℕ) (z : ℤ) : Type 0 where
  pub n : ℕ
  pub spelled : SpellsNatural radix us n
  pub value : z ≡ make n

made : (radix : ℕ) (make : ℕ → ℤ) (us : List ℕ) (z : ℤ) → option_map make (natural radix us) ≡ Some z → IsMade radix make us z
made radix make us z e = by (natural radix us) refl e
  where
    by : (o : Option ℕ) → natural radix us ≡ o → option_map make o ≡ Some z → IsMade radix make us z
    by None is f = absurd (none-some z f)
    by (Some n) is f = record { n = n; spelled = natural_said radix us n is; value = sym (same_Some (make n) z f) }

abbrev negative : ℕ → ℤ
negative n = neg_ℤ (pos n)

pub number_said : (w : List ℕ) (z : ℤ) → number_of w ≡ Some z → SpellsNumber w z
unfolding number_of
number_said w z e =
    choose (is_hexadecimal w) (option_map pos (natural 16 (drop 2 w))) _ (Some z) e
    (λ met is. let m = made 16 pos (drop 2 w) z is in inr (inr (inr (drop 2 w, m.n, begun_x w met, m.spelled, m.value))))
    (λ no more. choose (begins_with 45 w) (option_map negative (natural 10 (drop 1 w))) _ (Some z) more
    (λ met is. let m = made 10 negative (drop 1 w) z is in inr (inr (inl (drop 1 w, m.n, begun 45 w met, m.spelled, m.value))))
    (λ none last. choose (begins_with 43 w) (option_map pos (natural 10 (drop 1 w))) (option_map pos (natural 10 w)) (Some z) last
    (λ met is. let m = made 10 pos (drop 1 w) z is in inr (inl (drop 1 w, m.n, begun 43 w met, m.spelled, m.value)))
    (λ plain is. let m = made 10 pos w z is in inl (m.n, m.spelled, m.value))))

-- A decimal digit is from 48 to 57, so it is none of the other units of numbers.
record IsDecimal (u : ℕ) : Type 0 where
  pub low : 48 ≤ u
  pub high : u ≤ 57

decimal_is : (u d : ℕ) → IsDigit 10 u d → IsDecimal u
decimal_is u d (small, inl p) = let e = p.0 in record { low = omega arith; high = omega arith }
decimal_is u d (small, inr p) = let low = p.0 in absurd (omega arith)

first_is : (u : ℕ) (us : List ℕ) (n : ℕ) → SpellsDigits 10 (u ∷ us) n → IsDecimal u
first_is u us n (d, m, is, rest, e) = decimal_is u d is

rest_is : (u : ℕ) (us : List ℕ) (n : ℕ) → SpellsDigits 10 (u ∷ us) n → (m : ℕ) × SpellsDigits 10 us m
rest_is u us n (d, m, is, rest, e) = (m, rest)

no_x : (us : List ℕ) (n : ℕ) → SpellsDigits 10 us n → begins_with 120 us ≡ false
no_x [] n is = refl
no_x (u ∷ us) n is =
    let r = first_is u us n is in
    let low = r.low in
    let high = r.high in
    ne_eqb u 120 (λ same. omega arith)

both_no : (a b : Bool) → b ≡ false → (a && b) ≡ false
both_no true b e = e
both_no false b e = refl

plain_says : (w : List ℕ) (n : ℕ) → SpellsNatural 10 w n → number_of w ≡ Some (pos n)
unfolding number_of
plain_says [] n is = absurd (let e = is.0 in cc)
plain_says (u ∷ us) n is =
    let r = first_is u us n is.1 in
    let low = r.low in
    let high = r.high in
    let rest = rest_is u us n is.1 in
    rw (both_no (eqb u 48) (begins_with 120 us) (no_x us rest.0 rest.1), ne_eqb u 45 (λ same. omega arith), ne_eqb u 43 (λ same. omega arith), natural_says 10 (u ∷ us) n is) refl

signed_says : (w ds : List ℕ) (n : ℕ) (z : ℤ) → w ≡ 43 ∷ ds → SpellsNatural 10 ds n → z ≡ pos n → number_of w ≡ Some z
unfolding number_of
signed_says w ds n z e is v = rw (e, natural_says 10 ds n is, v) refl

negative_says : (w ds : List ℕ) (n : ℕ) (z : ℤ) → w ≡ 45 ∷ ds → SpellsNatural 10 ds n → z ≡ negative n → number_of w ≡ Some z
unfolding number_of
negative_says w ds n z e is v = rw (e, natural_says 10 ds n is, v) refl

hexadecimal_says : (w ds : List ℕ) (n : ℕ) (z : ℤ) → w ≡ 48 ∷ 120 ∷ ds → SpellsNatural 16 ds n → z ≡ pos n → number_of w ≡ Some z
unfolding number_of
hexadecimal_says w ds n z e is v = rw (e, natural_says 16 ds n is, v) refl

pub number_says : (w : List ℕ) (z : ℤ) → SpellsNumber w z → number_of w ≡ Some z
number_says w z (inl (n, is, e)) = plain_says w n is ∙ ap (λ (y : ℤ). Some y) (sym e)
number_says w z (inr (inl (ds, n, e, is, v))) = signed_says w ds n z e is v
number_says w z (inr (inr (inl (ds, n, e, is, v)))) = negative_says w ds n z e is v
number_says w z (inr (inr (inr (ds, n, e, is, v)))) = hexadecimal_says w ds n z e is v
