-- Big-endian numbers at the front of bytes (JVMS 4, u1, u2, u4).
use Rattle.std.specs.Prelude.{ℕ, nat_lt, if◌then◌else◌, List, length, take, drop, Result, Ok, Err, ℤ}
use Rattle.std.specs.Int.{Width, cast_signed}
use Rattle.byteorder.specs.Endian.{big_number}

-- Returns the number that the first n bytes spell.
unfoldable pub number : ℕ → List ℕ → ℕ
number n bytes = big_number n bytes

-- Returns the number in the first n bytes, and the bytes after them. The fault is `cut` if there are fewer bytes.
abbrev pub number_at : {E : Type 0} → E → ℕ → List ℕ → Result (ℕ × List ℕ) E
number_at cut n bytes = if nat_lt (length bytes) n then Err cut else Ok (number n bytes, drop n bytes)

abbrev pub u1_at : {E : Type 0} → E → List ℕ → Result (ℕ × List ℕ) E
u1_at cut bytes = number_at cut 1 bytes

abbrev pub u2_at : {E : Type 0} → E → List ℕ → Result (ℕ × List ℕ) E
u2_at cut bytes = number_at cut 2 bytes

abbrev pub u4_at : {E : Type 0} → E → List ℕ → Result (ℕ × List ℕ) E
u4_at cut bytes = number_at cut 4 bytes

abbrev pub u8_at : {E : Type 0} → E → List ℕ → Result (ℕ × List ℕ) E
u8_at cut bytes = number_at cut 8 bytes

-- Returns the first n bytes, and the bytes after them. The fault is `cut` if there are fewer bytes.
abbrev pub bytes_at : {E : Type 0} → E → ℕ → List ℕ → Result (List ℕ × List ℕ) E
bytes_at cut n bytes = if nat_lt (length bytes) n then Err cut else Ok (take n bytes, drop n bytes)

-- Returns the two's complement number that an unsigned number of this width spells.
abbrev pub signed : Width → ℕ → ℤ
signed w n = cast_signed w n
