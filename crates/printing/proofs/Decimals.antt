-- A number in decimal has a digit.
use Rattle.std.proofs.Common.{◌≡◌, ℕ, zero, suc, ◌<◌, ◌/◌, ◌%◌, ◌==◌, Bool, true, false, cond, List, [], ◌∷◌, length, ℤ, pos, negsuc, sym, ap, ◌∙◌, arith, IsOk, Result}
use Rattle.std.specs.Fmt.{digits, digits_onto, digit_glyph, decimal, signed_decimal}
use Rattle.jvms_machine.specs.declared.action.Printed.{Printed}
use Rattle.jvms_machine.specs.declared.action.Printed.TheVariants as printed
use Rattle.jvms_machine.specs.State.{Object}
use Rattle.jvms_machine.specs.Output.{printed_bytes}

either : (b : Bool) (xs ys : List ℕ) → 0 < length xs → 0 < length ys → 0 < length (cond b xs ys)
either true xs ys first second = first
either false xs ys first second = second

more_digits : (k n d : ℕ) (ds : List ℕ) → 0 < length (digits_onto k 10 false n (d ∷ ds))
more_digits zero n d ds = omega arith
more_digits (suc k) n d ds =
    either (n / 10 == 0) (digit_glyph false (n % 10) ∷ d ∷ ds) (digits_onto k 10 false (n / 10) (digit_glyph false (n % 10) ∷ d ∷ ds)) (omega arith)
    (more_digits k (n / 10) (digit_glyph false (n % 10)) (d ∷ ds))

has_digit : (n : ℕ) → 0 < length (decimal n)
unfolding digits
has_digit n =
    either (n / 10 == 0) (digit_glyph false (n % 10) ∷ []) (digits_onto 63 10 false (n / 10) (digit_glyph false (n % 10) ∷ [])) (omega arith) (more_digits 63 (n / 10) (digit_glyph false (n % 10)) [])

number_written : (n : ℤ) → 0 < length (signed_decimal n)
number_written (pos n) = has_digit n
number_written (negsuc n) = omega arith

-- So an int has a byte when it is printed.
pub int_printed : {T E : Type 0} (heap : List Object) (what : Printed) (n : ℤ) (r : Result T E) → what ≡ printed.Int n → printed_bytes heap what ≡ [] → IsOk r
int_printed heap what n r is none =
    let some = number_written n in
    let e : signed_decimal n ≡ [] = ap (printed_bytes heap) (sym is) ∙ none in
    absurd (omega (arith, ap length e))

-- So a long has a byte when it is printed.
pub long_printed : {T E : Type 0} (heap : List Object) (what : Printed) (n : ℤ) (r : Result T E) → what ≡ printed.Long n → printed_bytes heap what ≡ [] → IsOk r
long_printed heap what n r is none =
    let some = number_written n in
    let e : signed_decimal n ≡ [] = ap (printed_bytes heap) (sym is) ∙ none in
    absurd (omega (arith, ap length e))
