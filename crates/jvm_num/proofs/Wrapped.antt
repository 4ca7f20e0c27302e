-- The results of operations on bits are those of the definitions, at each width.
use Rattle.std.proofs.Common.{◌≡◌, ℕ, zero, suc, ◌*◌, ◌/◌, ◌%◌, ◌^◌, ◌<◌, ◌≤◌, arith, refl, ap, sym, ◌∙◌, Some, mod-eq_of_lt, div-le_self}
use Rattle.std.specs.Prelude.{ℤ, pos, negsuc, neg_ℤ, ◌-ℤ◌, ◌*ℤ◌, unsigned_abs, int_div}
use Rattle.std.specs.Int.{Width, w8, w16, w32, w64, w128, int_wrap, int_rem_euclid, cast_signed, cast_unsigned, int_shl, int_wrapping_div}
use Rattle.std.specs.Int.RustNames.{FitsSigned, int_rem}
use Rattle.std.proofs.lemmas.Int.{ints, to_z-of_z, int_wrap-mul_left, quot-rem}
use mir.Val.{bits}
use mir.ValLaws.{pow-bits, of_z_fits}
use Rattle.jvms_file.specs.Numbers.{bits_of, distance_in, unsigned_in, quotient_in, remainder, shifted_left_in, shifted_right_unsigned_in}

bits_of_is : (w : Width) → bits_of w ≡ bits w
bits_of_is w8 = refl
bits_of_is w16 = refl
bits_of_is w32 = refl
bits_of_is w64 = refl
bits_of_is w128 = refl

number_is_small : (w : Width) (z : ℤ) → FitsSigned w z → unsigned_abs z < 2 ^ bits w
number_is_small w (pos n) fits = omega (arith, fits.sfits, pow-bits w)
number_is_small w (negsuc n) fits = omega (arith, fits.sfits, pow-bits w)

-- The bits of a small number are its remainder modulo 2^32, or 2^64.
bits_are_remainder : (w : Width) (z : ℤ) → unsigned_abs z < 2 ^ bits w → cast_unsigned w z ≡ unsigned_abs (int_rem_euclid z (pos (2 ^ bits w)))
bits_are_remainder w (pos n) small = sym (mod-eq_of_lt small)
bits_are_remainder w (negsuc n) small =
    let same : n % 2 ^ bits w ≡ n = mod-eq_of_lt (omega arith) in
    omega arith

-- The bits of a small number, read as a signed number, are the wrapped number.
read_again : (w : Width) (z : ℤ) → unsigned_abs z < 2 ^ bits w → cast_signed w (cast_unsigned w z) ≡ int_wrap w z
unfolding int_wrap
read_again w z small = ap (cast_signed w) (bits_are_remainder w z small)

abs_neg : (n : ℕ) → unsigned_abs (neg_ℤ (pos n)) ≡ n
abs_neg zero = refl
abs_neg (suc n) = refl

-- A quotient is no larger than its dividend.
quotient_bound : (a b : ℤ) → unsigned_abs (int_div a b) ≤ unsigned_abs a
quotient_bound (pos a) (pos b) = div-le_self a b
quotient_bound (pos a) (negsuc b) = omega (arith, abs_neg (a / suc b), div-le_self a (suc b))
quotient_bound (negsuc a) (pos b) = omega (arith, abs_neg (suc a / b), div-le_self (suc a) b)
quotient_bound (negsuc a) (negsuc b) = div-le_self (suc a) (suc b)

quotient_wraps : (w : Width) (a b : ℤ) → FitsSigned w a → int_wrapping_div w a b ≡ int_wrap w (int_div a b)
quotient_wraps w a b fits = read_again w (int_div a b) (omega (arith, number_is_small w a fits, quotient_bound a b))

pub quotient_is : (w : Width) (a b : ℤ) → FitsSigned w a → ¬ (b ≡ pos 0) → Some (int_wrapping_div w a b) ≡ quotient_in w a b
quotient_is w a (pos zero) fits not_zero = absurd (not_zero refl)
quotient_is w a (pos (suc n)) fits not_zero = ap Some (quotient_wraps w a (pos (suc n)) fits)
quotient_is w a (negsuc n) fits not_zero = ap Some (quotient_wraps w a (negsuc n) fits)

rest_of_division : (a b : ℤ) → int_rem a b ≡ a -ℤ (b *ℤ int_div a b)
rest_of_division a b = omega (arith, ints, quot-rem a b)

pub remainder_is : (a b : ℤ) → ¬ (b ≡ pos 0) → Some (int_rem a b) ≡ remainder a b
remainder_is a (pos zero) not_zero = absurd (not_zero refl)
remainder_is a (pos (suc n)) not_zero = ap Some (rest_of_division a (pos (suc n)))
remainder_is a (negsuc n) not_zero = ap Some (rest_of_division a (negsuc n))

-- The low bits of a distance give the distance of the definition.
distance_is : (w : Width) (d : ℤ) → FitsSigned w32 d → cast_unsigned w32 d % bits_of w ≡ distance_in w d
distance_is w (pos n) fits = refl
distance_is w8 (negsuc n) fits = omega (arith, fits.sfits)
distance_is w16 (negsuc n) fits = omega (arith, fits.sfits)
distance_is w32 (negsuc n) fits = omega (arith, fits.sfits)
distance_is w64 (negsuc n) fits = omega (arith, fits.sfits)
distance_is w128 (negsuc n) fits = omega (arith, fits.sfits)

-- The bits of a number, wrapped again, give the number.
bits_wrap : (w : Width) (a : ℤ) → FitsSigned w a → int_wrap w (pos (cast_unsigned w a)) ≡ a
bits_wrap w a fits = sym (read_again w (pos (cast_unsigned w a)) (of_z_fits w a fits).fits) ∙ to_z-of_z w a fits

product_of_bits : (w : Width) (a : ℤ) (n : ℕ) → FitsSigned w a → cast_signed w ((cast_unsigned w a * n) % 2 ^ bits w) ≡ int_wrap w (a *ℤ pos n)
unfolding int_wrap
product_of_bits w a n fits = sym (int_wrap-mul_left w (pos (cast_unsigned w a)) (pos n)) ∙ ap (λ z. int_wrap w (z *ℤ pos n)) (bits_wrap w a fits)

pub shifted_left_is : (w : Width) (a d : ℤ) → FitsSigned w a → FitsSigned w32 d → int_shl w a (cast_unsigned w32 d % bits_of w) ≡ shifted_left_in w a d
shifted_left_is w a d a_fits d_fits = ap (λ k. int_shl w a k) (distance_is w d d_fits) ∙ product_of_bits w a (2 ^ distance_in w d) a_fits

unsigned_is : (w : Width) (a : ℤ) → FitsSigned w a → cast_unsigned w a ≡ unsigned_in w a
unsigned_is w a fits = bits_are_remainder w a (number_is_small w a fits) ∙ ap (λ b. unsigned_abs (int_rem_euclid a (pos (2 ^ b)))) (sym (bits_of_is w))

pub shifted_right_unsigned_is : (w : Width) (a d : ℤ) → FitsSigned w a → FitsSigned w32 d
    → cast_signed w (cast_unsigned w a / 2 ^ (cast_unsigned w32 d % bits_of w)) ≡ shifted_right_unsigned_in w a d
shifted_right_unsigned_is w a d a_fits d_fits =
    let power = 2 ^ (cast_unsigned w32 d % bits_of w) in
    let quotient = cast_unsigned w a / power in
    read_again w (pos quotient) (omega (arith, (of_z_fits w a a_fits).fits, div-le_self (cast_unsigned w a) power))
    ∙ (λ i. int_wrap w (pos (unsigned_is w a a_fits i / 2 ^ distance_is w d d_fits i)))

-- For `using`, on functions whose results are not proved without help.
pub ruleset results = (to_z-of_z, quotient_is, remainder_is, shifted_left_is, shifted_right_unsigned_is)
