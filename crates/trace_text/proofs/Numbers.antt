-- Numbers in decimal, and the texts that are none.
use Rattle.std.proofs.Common.{◌≡◌, ◌≢◌, ℕ, zero, suc, ◌+◌, ◌-◌, ◌*◌, ◌/◌, ◌%◌, ◌^◌, ◌<◌, ◌≤◌, ◌==◌, Bool, true, false, List, [], ◌∷◌, ◌++◌, length, get_or, take, refl, sym, ap, subst, ◌∙◌, arith}
use Rattle.std.specs.Fmt.{decimal}
use Rattle.std.specs.Str.Parse.{AllDigits, digits_value, IsNumeral}
use Rattle.std.specs.Int.{IsInRange}
use Rattle.std.specs.List.{list_any}
use Rattle.std.proofs.Math.Seq.{take-suc}
use Rattle.std.proofs.lemmas.Bool.{ne_eqb, or_from}
use Rattle.std.proofs.lemmas.List.{take_all}
use Rattle.std.proofs.lemmas.Fmt.{decimal_is_IsNumeral, decimal_digit, decimal_step, first_decimal, decimal_injective}
use Rattle.std.proofs.lemmas.Str.Parse.{digit_at, digit_from_value, digits_value-take-le}
use Rattle.escapes.specs.Cuts.{has}
use Rattle.trace_text.specs.Items.{IsNumber}

-- Facts about a number in decimal.
record IsDecimal (ds : List ℕ) (n : ℕ) : Type 0 where
  some : 0 < length ds
  digits : AllDigits 10 ds
  value : digits_value 10 ds ≡ n

decimal_is : (n : ℕ) → n < 2 ^ 40 → IsDecimal (decimal n) n
decimal_is n small =
    let is = decimal_is_IsNumeral n (omega arith) in
    record { some = is.0.0; digits = is.0.1; value = is.1 }

of_number : (n : ℕ) → IsNumber n → n < 2 ^ 40
of_number n small = omega arith

-- ---- Texts that are no number

pub not_of_nothing : (text : List ℕ) → length text ≡ 0 → (n : ℕ) → IsNumber n → text ≢ decimal n
not_of_nothing text none n is e =
    let some = (decimal_is n (of_number n is)).some in
    let same = ap length e in
    omega arith

digit_in : (ds : List ℕ) (i : ℕ) → AllDigits 10 ds → i < length ds → ((d : ℕ) → d < 10 → get_or ds i 0 ≢ 48 + d) → ⊥
digit_in ds i digits within none =
    let range = digit_at ds i digits within in
    let low : 48 ≤ get_or ds i 0 = range.0 in
    let high : get_or ds i 0 ≤ 57 = range.1 in
    none (get_or ds i 0 - 48) (omega arith) (omega arith)

-- A text with a byte that is no digit is no number.
pub not_of_byte : (text behind : List ℕ) (first i : ℕ) → text ≡ first ∷ behind → i < length (first ∷ behind) → ((d : ℕ) → d < 10 → get_or (first ∷ behind) i 0 ≢ 48 + d)
    → (n : ℕ) → IsNumber n → text ≢ decimal n
not_of_byte text behind first i split within none n is e =
    let same : first ∷ behind ≡ decimal n = sym split ∙ e in
    let P : List ℕ → Type 0 = λ ds. AllDigits 10 ds in
    digit_in (first ∷ behind) i (subst P (sym same) (decimal_is n (of_number n is)).digits) within none

first_of_taken : (k : ℕ) (ds : List ℕ) → get_or (take (suc k) ds) 0 0 ≡ get_or ds 0 0
first_of_taken k [] = refl
first_of_taken k (d ∷ ds) = refl

positive : (n : ℕ) → 1 < length (decimal n) → 0 < n
positive zero long = let short : length (decimal 0) ≡ 1 = ap length (decimal_digit 0 (omega arith)) in absurd (omega arith)
positive (suc n) long = omega arith

-- A text with a zero before other digits is no number.
pub not_of_leading_zero : (text : List ℕ) (i : ℕ) → decimal 0 ≡ take (suc i) text → suc i < length text → (n : ℕ) → IsNumber n → text ≢ decimal n
not_of_leading_zero text i zeros more n is e =
    let same = ap length e in
    let long : 1 < length (decimal n) = omega arith in
    let high = first_decimal n (positive n long) (omega arith) in
    let zero_first : get_or text 0 0 ≡ 48 = sym (first_of_taken i text) ∙ ap (λ (ds : List ℕ). get_or ds 0 0) (sym zeros) ∙ ap (λ (ds : List ℕ). get_or ds 0 0) (decimal_digit 0 (omega arith)) in
    let along = ap (λ (ds : List ℕ). get_or ds 0 0) e in
    omega arith

-- A text whose first digits are too large a number is no number.
pub not_of_large : (text : List ℕ) (k m : ℕ) → decimal m ≡ take k text → m < 2 ^ 40 → 4294967295 < m → (n : ℕ) → IsNumber n → text ≢ decimal n
not_of_large text k m digits small large n is e =
    let part : digits_value 10 (take k text) ≡ m = ap (digits_value 10) (sym digits) ∙ (decimal_is m small).value in
    let whole : digits_value 10 text ≡ n = ap (digits_value 10) e ∙ (decimal_is n (of_number n is)).value in
    let less = digits_value-take-le 10 text k (omega arith) in
    omega arith

-- ---- Digit by digit

pub first_digit : (text behind : List ℕ) (first d : ℕ) → text ≡ first ∷ behind → d < 10 → first ≡ 48 + d → decimal d ≡ take 1 text
first_digit text behind first d split small is =
    decimal_digit d small ∙ ap (λ (x : ℕ). x ∷ []) (sym is) ∙ sym (ap (take 1) split)

pub next_digit : (text behind : List ℕ) (first i m d : ℕ) → text ≡ first ∷ behind → decimal m ≡ take (suc i) text → m < 2 ^ 40 → (m ≡ 0 → ⊥) → i < length behind → d < 10 → get_or behind i 0 ≡ 48 + d
    → decimal (m * 10 + d) ≡ take (suc (i + 1)) text
next_digit text behind first i m d split before small some within digit is =
    let step = decimal_step (m * 10 + d) (omega arith) (omega arith) in
    let front : (m * 10 + d) / 10 ≡ m = omega arith in
    let last : (m * 10 + d) % 10 ≡ d = omega arith in
    let size = ap length split in
    let more = take-suc text (suc i) 0 (omega arith) in
    let byte : get_or text (suc i) 0 ≡ 48 + d = ap (λ (ds : List ℕ). get_or ds (suc i) 0) split ∙ is in
    let place : suc (i + 1) ≡ suc (suc i) = omega arith in
    step ∙ ap (λ (x : ℕ). decimal x ++ (48 + (m * 10 + d) % 10) ∷ []) front ∙ ap (λ (x : ℕ). decimal m ++ (48 + x) ∷ []) last
    ∙ ap (λ (ds : List ℕ). ds ++ (48 + d) ∷ []) before ∙ ap (λ (x : ℕ). take (suc i) text ++ x ∷ []) (sym byte) ∙ sym more ∙ ap (λ (k : ℕ). take k text) (sym place)

-- All digits have been read.
pub whole_number : (text behind : List ℕ) (first i m : ℕ) → text ≡ first ∷ behind → decimal m ≡ take (suc i) text → length behind ≤ i → text ≡ decimal m
whole_number text behind first i m split digits done =
    let size = ap length split in
    sym (digits ∙ take_all (suc i) text (omega arith))

-- ---- Numbers have only digits

digits_clear : (b : ℕ) (ds : List ℕ) → ((d : ℕ) → 48 ≤ d → d ≤ 57 → d ≢ b) → AllDigits 10 ds → has b ds ≡ false
digits_clear b [] isnt are = refl
digits_clear b (d ∷ ds) isnt are =
    let range = digit_from_value d are.0 in
    or_from (d == b) (has b ds) (ne_eqb d b (isnt d range.0 range.1)) (digits_clear b ds isnt are.1)

pub number_below : (b n : ℕ) → b < 48 → IsNumber n → has b (decimal n) ≡ false
number_below b n low is = digits_clear b (decimal n) (λ d least most same. omega arith) (decimal_is n (of_number n is)).digits

pub number_above : (b n : ℕ) → 57 < b → IsNumber n → has b (decimal n) ≡ false
number_above b n high is = digits_clear b (decimal n) (λ d least most same. omega arith) (decimal_is n (of_number n is)).digits

-- A number has one spelling.
pub one_number : (m n : ℕ) → IsNumber m → IsNumber n → decimal m ≡ decimal n → m ≡ n
one_number m n small few e = decimal_injective m n (omega arith) (omega arith) e
