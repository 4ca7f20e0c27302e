-- The numbers of 32 and of 64 bits: results of whole numbers, wrapped to that range (JVMS 2.3.1, 2.11.3, 6.5).
use Rattle.std.specs.Prelude.{◌≡◌, ℕ, ◌-◌, ◌/◌, ◌^◌, zero, suc, ℤ, pos, negsuc, ◌+ℤ◌, ◌-ℤ◌, ◌*ℤ◌, ◌≤ℤ◌, neg_ℤ, unsigned_abs, int_div, int_lt, if◌then◌else◌, Option, Some, None}
use Rattle.std.specs.Int.{Width, w8, w16, w32, w64, w128, int_wrap, int_rem_euclid, int_div_euclid, int_bit_and, int_bit_or, int_bit_xor}
use Rattle.jvms_file.specs.declared.insn.Binary.{Binary}
use Rattle.jvms_file.specs.declared.insn.Binary.TheVariants as binary
use Rattle.jvms_file.specs.declared.insn.Division.{Division}
use Rattle.jvms_file.specs.declared.insn.Division.TheVariants as division
use Rattle.jvms_file.specs.declared.insn.LongBinary.{LongBinary}
use Rattle.jvms_file.specs.declared.insn.LongBinary.TheVariants as long_binary
use Rattle.jvms_file.specs.declared.insn.LongShift.{LongShift}
use Rattle.jvms_file.specs.declared.insn.LongShift.TheVariants as long_shift
use Rattle.jvms_file.specs.declared.insn.Narrow.{Narrow}
use Rattle.jvms_file.specs.declared.insn.Narrow.TheVariants as narrow

-- The numbers of an int: from -2^31 to 2^31 - 1 (JVMS 2.3.1).
pub record IsInt (n : ℤ) : Type 0 where
  pub least : neg_ℤ (pos (2 ^ 31)) ≤ℤ n
  pub most : n ≤ℤ pos (2 ^ 31 - 1)

-- Two numbers differ by a multiple of 2^32.
abbrev pub IsCongruent : ℤ → ℤ → Type 0
IsCongruent m n = (k : ℤ) × (m ≡ n +ℤ (k *ℤ pos (2 ^ 32)))

-- The numbers of a long: from -2^63 to 2^63 - 1 (JVMS 2.3.1).
pub record IsLong (n : ℤ) : Type 0 where
  pub least : neg_ℤ (pos (2 ^ 63)) ≤ℤ n
  pub most : n ≤ℤ pos (2 ^ 63 - 1)

-- Two numbers differ by a multiple of 2^64.
abbrev pub IsCongruentLong : ℤ → ℤ → Type 0
IsCongruentLong m n = (k : ℤ) × (m ≡ n +ℤ (k *ℤ pos (2 ^ 64)))

-- Returns the one int that is congruent to a whole number (JVMS 2.11.3), by the law `wrap_is_the_congruent_int`.
abbrev pub wrap : ℤ → ℤ
wrap n = int_wrap w32 n

-- Returns the one long that is congruent to a whole number (JVMS 2.11.3), by the law `wrap_is_the_congruent_long`.
abbrev pub long_wrap : ℤ → ℤ
long_wrap n = int_wrap w64 n

-- ---- Operations of numbers of a width: an int has 32 bits, a long 64

abbrev pub bits_of : Width → ℕ
bits_of w8 = 8
bits_of w16 = 16
bits_of w32 = 32
bits_of w64 = 64
bits_of w128 = 128

-- Returns the sum of two numbers (JVMS 6.5 iadd, ladd).
abbrev pub sum_in : Width → ℤ → ℤ → ℤ
sum_in w a b = int_wrap w (a +ℤ b)

-- Returns the difference of two numbers (JVMS 6.5 isub, lsub).
abbrev pub difference_in : Width → ℤ → ℤ → ℤ
difference_in w a b = int_wrap w (a -ℤ b)

-- Returns the product of two numbers (JVMS 6.5 imul, lmul).
abbrev pub product_in : Width → ℤ → ℤ → ℤ
product_in w a b = int_wrap w (a *ℤ b)

-- Returns the negation of a number (JVMS 6.5 ineg, lneg).
abbrev pub negation_in : Width → ℤ → ℤ
negation_in w a = int_wrap w (neg_ℤ a)

-- Returns the quotient of two numbers, rounded to zero (JVMS 6.5 idiv, ldiv). None if the divisor is 0.
abbrev pub quotient_in : Width → ℤ → ℤ → Option ℤ
quotient_in w a (pos zero) = None
quotient_in w a (pos (suc n)) = Some (int_wrap w (int_div a (pos (suc n))))
quotient_in w a (negsuc n) = Some (int_wrap w (int_div a (negsuc n)))

-- Returns the remainder of a division (JVMS 6.5 irem, lrem): the dividend less the divisor times the unwrapped
-- quotient. None if the divisor is 0.
abbrev pub remainder : ℤ → ℤ → Option ℤ
remainder a (pos zero) = None
remainder a (pos (suc n)) = Some (a -ℤ (pos (suc n) *ℤ int_div a (pos (suc n))))
remainder a (negsuc n) = Some (a -ℤ (negsuc n *ℤ int_div a (negsuc n)))

-- Returns the distance of a shift: its low five bits for an int, and six for a long (JVMS 6.5 ishl, lshl).
abbrev pub distance_in : Width → ℤ → ℕ
distance_in w d = unsigned_abs (int_rem_euclid d (pos (bits_of w)))

-- Returns a number shifted left (JVMS 6.5 ishl, lshl).
abbrev pub shifted_left_in : Width → ℤ → ℤ → ℤ
shifted_left_in w a d = int_wrap w (a *ℤ pos (2 ^ distance_in w d))

-- Returns a number shifted right, with its sign kept (JVMS 6.5 ishr, lshr): divided by a power of 2, rounding down.
abbrev pub shifted_right_in : Width → ℤ → ℤ → ℤ
shifted_right_in w a d = int_wrap w (int_div_euclid a (pos (2 ^ distance_in w d)))

-- Returns the least number that isn't negative and is congruent to a number of this width: from 0 to 2^32 - 1, or to
-- 2^64 - 1.
abbrev pub unsigned_in : Width → ℤ → ℕ
unsigned_in w n = unsigned_abs (int_rem_euclid n (pos (2 ^ bits_of w)))

-- Returns a number shifted right, with zeros from the left (JVMS 6.5 iushr, lushr). A negative number plus 2^32 or 2^64
-- is divided by a power of 2, rounding down.
abbrev pub shifted_right_unsigned_in : Width → ℤ → ℤ → ℤ
shifted_right_unsigned_in w a d = int_wrap w (pos (unsigned_in w a / 2 ^ distance_in w d))

-- ---- Ints

abbrev pub sum : ℤ → ℤ → ℤ
sum a b = sum_in w32 a b

abbrev pub difference : ℤ → ℤ → ℤ
difference a b = difference_in w32 a b

abbrev pub product : ℤ → ℤ → ℤ
product a b = product_in w32 a b

abbrev pub negation : ℤ → ℤ
negation a = negation_in w32 a

abbrev pub quotient : ℤ → ℤ → Option ℤ
quotient a b = quotient_in w32 a b

abbrev pub distance : ℤ → ℕ
distance d = distance_in w32 d

abbrev pub unsigned_of : ℤ → ℕ
unsigned_of n = unsigned_in w32 n

abbrev pub shifted_left : ℤ → ℤ → ℤ
shifted_left a d = shifted_left_in w32 a d

abbrev pub shifted_right : ℤ → ℤ → ℤ
shifted_right a d = shifted_right_in w32 a d

abbrev pub shifted_right_unsigned : ℤ → ℤ → ℤ
shifted_right_unsigned a d = shifted_right_unsigned_in w32 a d

-- Returns an int narrowed to a byte, a char or a short (JVMS 2.11.4, 6.5 i2b, i2c, i2s). The result is the number of
-- that type that is congruent modulo 2^8 or 2^16. For a boolean it is the lowest bit.
abbrev pub narrowed_int : Narrow → ℤ → ℤ
narrowed_int narrow.Byte n = int_wrap w8 n
narrowed_int narrow.Char n = int_rem_euclid n (pos (2 ^ 16))
narrowed_int narrow.Short n = int_wrap w16 n
narrowed_int narrow.Boolean n = int_rem_euclid n (pos 2)

-- Returns the result of an operation on two ints that always gives one (JVMS 6.5 iadd, isub, imul, ishl, ishr, iushr,
-- iand, ior, ixor).
abbrev pub binary_result : Binary → ℤ → ℤ → ℤ
binary_result binary.Add a b = sum a b
binary_result binary.Subtract a b = difference a b
binary_result binary.Multiply a b = product a b
binary_result binary.ShiftLeft a b = shifted_left a b
binary_result binary.ShiftRight a b = shifted_right a b
binary_result binary.ShiftRightUnsigned a b = shifted_right_unsigned a b
binary_result binary.And a b = int_bit_and w32 a b
binary_result binary.Or a b = int_bit_or w32 a b
binary_result binary.ExclusiveOr a b = int_bit_xor w32 a b

abbrev pub division_result_in : Width → Division → ℤ → ℤ → Option ℤ
division_result_in w division.Quotient a b = quotient_in w a b
division_result_in w division.Remainder a b = remainder a b

-- Returns the result of a division of two ints, or None if the divisor is 0 (JVMS 6.5 idiv, irem).
abbrev pub division_result : Division → ℤ → ℤ → Option ℤ
division_result op a b = division_result_in w32 op a b

-- ---- Longs

-- Returns the result of an operation on two longs that always gives one (JVMS 6.5 ladd, lsub, lmul, land, lor, lxor).
abbrev pub long_binary_result : LongBinary → ℤ → ℤ → ℤ
long_binary_result long_binary.Add a b = sum_in w64 a b
long_binary_result long_binary.Subtract a b = difference_in w64 a b
long_binary_result long_binary.Multiply a b = product_in w64 a b
long_binary_result long_binary.And a b = int_bit_and w64 a b
long_binary_result long_binary.Or a b = int_bit_or w64 a b
long_binary_result long_binary.ExclusiveOr a b = int_bit_xor w64 a b

-- Returns the result of a division of two longs, or None if the divisor is 0 (JVMS 6.5 ldiv, lrem).
abbrev pub long_division_result : Division → ℤ → ℤ → Option ℤ
long_division_result op a b = division_result_in w64 op a b

-- Returns the result of a shift of a long by an int (JVMS 6.5 lshl, lshr, lushr).
abbrev pub long_shift_result : LongShift → ℤ → ℤ → ℤ
long_shift_result long_shift.Left a d = shifted_left_in w64 a d
long_shift_result long_shift.Right a d = shifted_right_in w64 a d
long_shift_result long_shift.RightUnsigned a d = shifted_right_unsigned_in w64 a d

-- Returns the negation of a long (JVMS 6.5 lneg).
abbrev pub long_negation : ℤ → ℤ
long_negation a = negation_in w64 a

-- Returns the int that is congruent to a long (JVMS 6.5 l2i).
abbrev pub int_of_long : ℤ → ℤ
int_of_long n = wrap n

-- Compares two longs (JVMS 6.5 lcmp): returns 1 if the first is greater, -1 if it is less, else 0.
abbrev pub comparison : ℤ → ℤ → ℤ
comparison a b = if int_lt b a then pos 1 else (if int_lt a b then negsuc 0 else pos 0)
