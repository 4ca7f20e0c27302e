-- Numbers of one, two, four and eight bytes (JVMS 4). Spelled ones are read, and read ones are spelled so.
use Rattle.std.proofs.Common.{◌≡◌, ℕ, zero, suc, ◌+◌, ◌*◌, ◌/◌, ◌%◌, ◌^◌, ◌<◌, ◌≤◌, Bool, true, false, cond, nat_lt, List, [], ◌∷◌, ◌++◌, length, take, drop, Ok, Err, refl, sym, ap, subst, ◌∙◌, arith}
use Rattle.std.specs.List.{AllByRecursion}
use Rattle.std.specs.Int.{byte_at, bytes_high_first}
use Rattle.std.proofs.lemmas.Bool.{le-ltb, ltb-false}
use Rattle.std.proofs.lemmas.List.{drop_at, length-append, length-take-le, take-append-drop}
use Rattle.std.proofs.Math.Seq.{take-append_seam, drop-append_seam}
use Rattle.std.proofs.Math.Nat.{div-eq_of_lt, mul_assoc, mul-add-div_right, mul-add-mod_self_right, pow-succ', one-le-pow, mul-le-mul_right}
use Rattle.byteorder.specs.Endian.{big_from, big_bytes}
use Rattle.byteorder.specs.Numbers.{big_from-cons, length-bytes_high_first, big_number-reads_back}
use Rattle.jvms_file.specs.Bytes.{number, number_at, u1_at, u2_at, u4_at, u8_at, bytes_at}
use Rattle.jvms_file.specs.Spelling.{u2, u4, u8, IsU1, IsU2, IsU4}

-- Bytes are numbers below 256.
abbrev pub IsBytes : List ℕ → Type 0
IsBytes bytes = AllByRecursion (λ b. b < 256) bytes

-- Each of two parts of bytes has only bytes.
pub bytes_of_parts : (first rest : List ℕ) → IsBytes (first ++ rest) → IsBytes first × IsBytes rest
bytes_of_parts [] rest are = (tt, are)
bytes_of_parts (b ∷ first) rest are = let parts = bytes_of_parts first rest are.1 in ((are.0, parts.0), parts.1)

-- The rest of bytes has only bytes.
pub bytes_behind : (n : ℕ) (bytes : List ℕ) → IsBytes bytes → IsBytes (drop n bytes)
bytes_behind zero bytes are = are
bytes_behind (suc n) [] are = tt
bytes_behind (suc n) (b ∷ bytes) are = bytes_behind n bytes are.1

-- ---- The bytes of a number.

-- A power of 256 is above zero.
pow_pos256 : (n : ℕ) → zero < 256 ^ n
pow_pos256 n = let h = one-le-pow n 256 (omega arith) in omega arith

-- A byte of a number doesn't depend on the bytes above it.
byte_below : (n c y : ℕ) → byte_at n (c * 256 ^ suc n + y) ≡ byte_at n y
byte_below zero c y = let same : 256 ^ 1 ≡ 256 = omega arith in ap (λ (p : ℕ). (c * p + y) % 256) same ∙ mul-add-mod_self_right c 256 y
byte_below (suc n) c y =
    let split : c * 256 ^ suc (suc n) ≡ c * 256 * 256 ^ suc n = ap (λ (p : ℕ). c * p) (pow-succ' 256 (suc n)) ∙ sym (mul_assoc c 256 (256 ^ suc n)) in
    ap (λ (x : ℕ). (x + y) / 256 ^ suc n % 256) split
    ∙ ap (λ (x : ℕ). x % 256) (mul-add-div_right (pow_pos256 (suc n)) (c * 256) y)
    ∙ mul-add-mod_self_right c 256 (y / 256 ^ suc n)

-- A number's bytes don't depend on the bytes above them.
bytes_below : (n c y : ℕ) → bytes_high_first n (c * 256 ^ n + y) ≡ bytes_high_first n y
bytes_below zero c y = refl
bytes_below (suc n) c y =
    let split : c * 256 ^ suc n ≡ c * 256 * 256 ^ n = ap (λ (p : ℕ). c * p) (pow-succ' 256 n) ∙ sym (mul_assoc c 256 (256 ^ n)) in
    ap (λ (b : ℕ). b ∷ bytes_high_first n (c * 256 ^ suc n + y)) (byte_below n c y)
    ∙ ap (λ (x : ℕ). byte_at n y ∷ bytes_high_first n (x + y)) split
    ∙ ap (λ (r : List ℕ). byte_at n y ∷ r) (bytes_below n (c * 256) y)

-- The byte above a number's bytes.
byte_above : (n b y : ℕ) → b < 256 → y < 256 ^ n → byte_at n (b * 256 ^ n + y) ≡ b
byte_above zero b y small below = omega arith
byte_above (suc n) b y small below =
    ap (λ (x : ℕ). x % 256) (mul-add-div_right (pow_pos256 (suc n)) b y) ∙ high (y / 256 ^ suc n) (div-eq_of_lt below)
  where
    high : (d : ℕ) → d ≡ 0 → (b + d) % 256 ≡ b
    high d none = omega arith

-- A number of n bytes is below 256 to the power n.
number_below : (n : ℕ) (bytes : List ℕ) → IsBytes bytes → n ≤ length bytes → big_from 0 n bytes < 256 ^ n
number_below zero bytes are enough = omega arith
number_below (suc n) [] are enough = absurd (omega arith)
number_below (suc n) (b ∷ bytes) are enough =
    let rest = number_below n bytes are.1 (omega arith) in
    let top : b * 256 ^ n ≤ 255 * 256 ^ n = mul-le-mul_right (256 ^ n) (omega arith) in
    rw (pow-succ' 256 n, big_from-cons 0 n b bytes) (omega arith)

-- The bytes of the number that bytes spell are those bytes.
bytes_of_number : (n : ℕ) (bytes : List ℕ) → IsBytes bytes → n ≤ length bytes → bytes_high_first n (big_from 0 n bytes) ≡ take n bytes
bytes_of_number zero bytes are enough = refl
bytes_of_number (suc n) [] are enough = absurd (omega arith)
bytes_of_number (suc n) (b ∷ bytes) are enough =
    let below = number_below n bytes are.1 (omega arith) in
    rw (big_from-cons 0 n b bytes, byte_above n b (big_from 0 n bytes) are.0 below, bytes_below n b (big_from 0 n bytes), bytes_of_number n bytes are.1 (omega arith)) refl

-- ---- A number at the front of bytes.

-- A number's bytes are read as that number.
pub number_again : {E : Type 0} (cut : E) (n x : ℕ) (rest : List ℕ) → x < 256 ^ n → number_at cut n (big_bytes n x ++ rest) ≡ Ok (x, rest)
unfolding number
number_again cut n x rest below =
    let size : length (bytes_high_first n x) ≡ n = length-bytes_high_first n x in
    let enough : nat_lt (length (bytes_high_first n x ++ rest)) n ≡ false = le-ltb (length (bytes_high_first n x ++ rest)) n (omega (arith, length-append (bytes_high_first n x) rest)) in
    rw (enough, big_number-reads_back n x rest below, drop_at (bytes_high_first n x) rest n size) refl

-- A number that was read from bytes is spelled there.
abbrev pub IsNumberFront : ℕ → List ℕ → ℕ → List ℕ → Type 0
IsNumberFront n bytes x rest = (x < 256 ^ n) × (bytes ≡ big_bytes n x ++ rest) × IsBytes rest

-- The cases of a test for missing bytes.
refused_or : {A E : Type 0} (b : Bool) (cut : E) (x y : A) → cond b (Err cut) (Ok x) ≡ Ok y → (b ≡ false) × (x ≡ y)
refused_or true cut x y e = absurd cc
refused_or false cut x y e = (refl, cc)

-- A number that is read from bytes is spelled there.
pub number_found : {E : Type 0} (cut : E) (n : ℕ) (bytes : List ℕ) (x : ℕ) (rest : List ℕ) → IsBytes bytes → number_at cut n bytes ≡ Ok (x, rest) → IsNumberFront n bytes x rest
unfolding number
number_found cut n bytes x rest are e =
    let read = refused_or (nat_lt (length bytes) n) cut (big_from 0 n bytes, drop n bytes) (x, rest) e in
    let enough : n ≤ length bytes = ltb-false (length bytes) n read.0 in
    let value : big_from 0 n bytes ≡ x = ap (λ (p : ℕ × List ℕ). p.0) read.1 in
    let left : drop n bytes ≡ rest = ap (λ (p : ℕ × List ℕ). p.1) read.1 in
    let whole : bytes ≡ bytes_high_first n (big_from 0 n bytes) ++ drop n bytes = sym (ap (λ (w : List ℕ). w ++ drop n bytes) (bytes_of_number n bytes are enough) ∙ take-append-drop n bytes) in (
      subst (λ (v : ℕ). v < 256 ^ n) value (number_below n bytes are enough),
      whole ∙ ap (λ (v : ℕ). bytes_high_first n v ++ drop n bytes) value ∙ ap (λ (w : List ℕ). bytes_high_first n x ++ w) left,
      subst IsBytes left (bytes_behind n bytes are),
    )

-- A number of one byte is read from it.
pub u1_again : {E : Type 0} (cut : E) (n : ℕ) (rest : List ℕ) → u1_at cut (n ∷ rest) ≡ Ok (n, rest)
unfolding number
u1_again cut n rest =
    let enough : nat_lt (length (n ∷ rest)) 1 ≡ false = le-ltb (length (n ∷ rest)) 1 (omega arith) in
    let value : n * 256 ^ 0 + 0 ≡ n = omega arith in
    rw (enough, value) refl

-- A number of two bytes is read from them.
pub u2_again : {E : Type 0} (cut : E) (n : ℕ) (rest : List ℕ) → IsU2 n → u2_at cut (u2 n ++ rest) ≡ Ok (n, rest)
unfolding u2
u2_again cut n rest small = number_again cut 2 n rest (omega arith)

-- A number of four bytes is read from them.
pub u4_again : {E : Type 0} (cut : E) (n : ℕ) (rest : List ℕ) → IsU4 n → u4_at cut (u4 n ++ rest) ≡ Ok (n, rest)
unfolding u4
u4_again cut n rest small = number_again cut 4 n rest (omega arith)

-- A number of eight bytes is read from them.
pub u8_again : {E : Type 0} (cut : E) (n : ℕ) (rest : List ℕ) → n < 2 ^ 64 → u8_at cut (u8 n ++ rest) ≡ Ok (n, rest)
unfolding u8
u8_again cut n rest small = number_again cut 8 n rest (omega arith)

-- A byte that was read is there.
pub u1_found : {E : Type 0} (cut : E) (bytes : List ℕ) (n : ℕ) (rest : List ℕ) → IsBytes bytes → u1_at cut bytes ≡ Ok (n, rest) → IsU1 n × (bytes ≡ n ∷ rest) × IsBytes rest
u1_found cut bytes n rest are e =
    let found = number_found cut 1 bytes n rest are e in
    let value : n % 256 ≡ n = omega (arith, found.0) in
    (omega (arith, found.0), found.1 ∙ ap (λ (b : ℕ). b ∷ rest) value, found.2)

-- A number that was read from two bytes is spelled there.
pub u2_found : {E : Type 0} (cut : E) (bytes : List ℕ) (n : ℕ) (rest : List ℕ) → IsBytes bytes → u2_at cut bytes ≡ Ok (n, rest) → IsU2 n × (bytes ≡ u2 n ++ rest) × IsBytes rest
unfolding u2
u2_found cut bytes n rest are e = let found = number_found cut 2 bytes n rest are e in (omega (arith, found.0), found.1, found.2)

-- A number that was read from four bytes is spelled there.
pub u4_found : {E : Type 0} (cut : E) (bytes : List ℕ) (n : ℕ) (rest : List ℕ) → IsBytes bytes → u4_at cut bytes ≡ Ok (n, rest) → IsU4 n × (bytes ≡ u4 n ++ rest) × IsBytes rest
unfolding u4
u4_found cut bytes n rest are e = let found = number_found cut 4 bytes n rest are e in (omega (arith, found.0), found.1, found.2)

-- A number that was read from eight bytes is spelled there.
pub u8_found : {E : Type 0} (cut : E) (bytes : List ℕ) (n : ℕ) (rest : List ℕ) → IsBytes bytes → u8_at cut bytes ≡ Ok (n, rest) → (n < 2 ^ 64) × (bytes ≡ u8 n ++ rest) × IsBytes rest
unfolding u8
u8_found cut bytes n rest are e = let found = number_found cut 8 bytes n rest are e in (omega (arith, found.0), found.1, found.2)

-- A u2 has two bytes.
pub length-u2 : (n : ℕ) → length (u2 n) ≡ 2
unfolding u2
length-u2 n = length-bytes_high_first 2 n

-- A u4 has four bytes.
pub length-u4 : (n : ℕ) → length (u4 n) ≡ 4
unfolding u4
length-u4 n = length-bytes_high_first 4 n

-- ---- Bytes at the front of bytes.

-- Bytes are read as they are.
pub bytes_again : {E : Type 0} (cut : E) (first rest : List ℕ) → bytes_at cut (length first) (first ++ rest) ≡ Ok (first, rest)
bytes_again cut first rest =
    let enough : nat_lt (length (first ++ rest)) (length first) ≡ false = le-ltb (length (first ++ rest)) (length first) (omega (arith, length-append first rest)) in
    rw (enough, take-append_seam first rest, drop-append_seam first rest) refl

-- Bytes that were read are there.
pub bytes_found : {E : Type 0} (cut : E) (n : ℕ) (bytes first rest : List ℕ) → IsBytes bytes → bytes_at cut n bytes ≡ Ok (first, rest) → (length first ≡ n) × (bytes ≡ first ++ rest) × IsBytes first × IsBytes rest
bytes_found cut n bytes first rest are e =
    let read = refused_or (nat_lt (length bytes) n) cut (take n bytes, drop n bytes) (first, rest) e in
    let enough : n ≤ length bytes = ltb-false (length bytes) n read.0 in
    let front : take n bytes ≡ first = ap (λ (p : List ℕ × List ℕ). p.0) read.1 in
    let left : drop n bytes ≡ rest = ap (λ (p : List ℕ × List ℕ). p.1) read.1 in
    let whole : bytes ≡ first ++ rest = sym (ap (λ (w : List ℕ). w ++ rest) (sym front) ∙ ap (λ (w : List ℕ). take n bytes ++ w) (sym left) ∙ take-append-drop n bytes) in
    let parts = bytes_of_parts first rest (subst IsBytes whole are) in
    (sym (ap length front) ∙ length-take-le n bytes enough, whole, parts.0, parts.1)
