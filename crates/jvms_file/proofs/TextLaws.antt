-- Laws about the bytes of texts (JVMS 4.4.7): decoding and encoding are inverse to each other.
use Rattle.std.proofs.Common.{take, drop, ◌≡◌, ℕ, zero, suc, ◌+◌, ◌-◌, ◌/◌, ◌%◌, ◌<◌, ◌≤◌, ◌⊎◌, ◌&&◌, ◌||◌, Bool, true, false, cond, ltb, leb, eqb, List, [], ◌∷◌, ◌++◌, length, Option, Some, None, Result, Ok, Err, refl, sym, ap, subst, ◌∙◌, arith, inl, inr}
use Rattle.std.proofs.lemmas.Bool.{cases_lt, cases_eq, and_parts, or_cases, and_from, and_right, or_left, or_right, ltb-true, leb-true, lt-ltb, le-ltb, le-leb, eq-eqb, eqb-true}
use Rattle.std.proofs.lemmas.Bool.Decides.{nat_tests}
use Rattle.std.proofs.lemmas.List.{length-append}
use Rattle.std.proofs.lemmas.List.Concat.{flat_map-append}
use Rattle.std.proofs.Math.Seq.{take-append-add, drop-append-add}
use Rattle.jvms_file.specs.Results.{◌>>=◌, present}
use Rattle.jvms_file.specs.Texts.{unit_bytes, bytes_of_text, IsText, Codes, is_continuation, two_byte_unit, three_byte_unit, after_lead_of_two, after_lead_of_three, unit_at, decoded_from, text_of_bytes}

-- The cases of a test.
chosen : {A : Type 0} (b : Bool) (x y z : A) → cond b x y ≡ z → ((b ≡ true) × (x ≡ z)) ⊎ ((b ≡ false) × (y ≡ z))
chosen true x y z e = inl (refl, e)
chosen false x y z e = inr (refl, e)

-- The units of one byte.
pub unit_of_one : (u : ℕ) → 0 < u → u < 0x80 → unit_bytes u ≡ u ∷ []
unit_of_one u p q = grind (arith, nat_tests)

-- The units of two bytes.
pub unit_of_two : (u : ℕ) → (u ≡ 0) ⊎ (0x80 ≤ u) → u < 0x800 → unit_bytes u ≡ (0xc0 + u / 0x40) ∷ (0x80 + u % 0x40) ∷ []
unit_of_two u p q = grind (arith, nat_tests)

-- The units of three bytes.
pub unit_of_three : (u : ℕ) → 0x800 ≤ u → unit_bytes u ≡ (0xe0 + u / 0x1000) ∷ (0x80 + u / 0x40 % 0x40) ∷ (0x80 + u % 0x40) ∷ []
unit_of_three u p = grind (arith, nat_tests)

-- The two bytes of a unit are those that it was read from.
two_bytes_are : (x y : ℕ) → 0xc0 ≤ x → x < 0xe0 → 0x80 ≤ y → y < 0xc0 → (0xc0 + two_byte_unit x y / 0x40 ≡ x) × (0x80 + two_byte_unit x y % 0x40 ≡ y) × (two_byte_unit x y < 0x800)
two_bytes_are x y p q r s = (omega arith, omega arith, omega arith)

-- The three bytes of a unit are those that it was read from.
three_bytes_are : (x y z : ℕ) → 0xe0 ≤ x → x < 0xf0 → 0x80 ≤ y → y < 0xc0 → 0x80 ≤ z → z < 0xc0
    → (0xe0 + three_byte_unit x y z / 0x1000 ≡ x) × (0x80 + three_byte_unit x y z / 0x40 % 0x40 ≡ y) × (0x80 + three_byte_unit x y z % 0x40 ≡ z) × (three_byte_unit x y z < 0x10000)
three_bytes_are x y z p q r s t v = (omega arith, omega arith, omega arith, omega arith)

-- The unit that two bytes were written for.
two_byte_unit_is : (u : ℕ) → u < 0x800 → two_byte_unit (0xc0 + u / 0x40) (0x80 + u % 0x40) ≡ u
two_byte_unit_is u p = omega arith

-- The unit that three bytes were written for.
three_byte_unit_is : (u : ℕ) → u < 0x10000 → three_byte_unit (0xe0 + u / 0x1000) (0x80 + u / 0x40 % 0x40) (0x80 + u % 0x40) ≡ u
three_byte_unit_is u p = omega arith

-- The unit that `unit_at` returns is at the front of the bytes, and the rest follows it.
abbrev IsFront : List ℕ → ℕ × List ℕ → Type 0
IsFront bytes front = (bytes ≡ unit_bytes front.0 ++ front.1) × (front.0 < 0x10000)

-- The value in a `Some`.
some_is : (a b : ℕ × List ℕ) → Some a ≡ Some b → a ≡ b
some_is a b e = cc

-- A `None` is no `Some`.
none_is_not : (a : ℕ × List ℕ) → None ≡ Some a → ⊥
none_is_not a e = cc

-- The bytes of a unit read from two.
two_bytes_front : (x y : ℕ) (more : List ℕ) → 0xc0 ≤ x → x < 0xe0 → 0x80 ≤ y → y < 0xc0 → (two_byte_unit x y ≡ 0) ⊎ (0x80 ≤ two_byte_unit x y) → IsFront (x ∷ y ∷ more) (two_byte_unit x y, more)
two_bytes_front x y more p q r s short =
    let are = two_bytes_are x y p q r s in
    let bytes = unit_of_two (two_byte_unit x y) short are.2 in
    (sym (ap (λ (w : List ℕ). w ++ more) bytes ∙ rw (are.0, are.1) refl), omega (arith, are.2))

-- The bytes of a unit read from three.
three_bytes_front : (x y z : ℕ) (more : List ℕ) → 0xe0 ≤ x → x < 0xf0 → 0x80 ≤ y → y < 0xc0 → 0x80 ≤ z → z < 0xc0 → 0x800 ≤ three_byte_unit x y z → IsFront (x ∷ y ∷ z ∷ more) (three_byte_unit x y z, more)
three_bytes_front x y z more p q r s t v long =
    let are = three_bytes_are x y z p q r s t v in
    let bytes = unit_of_three (three_byte_unit x y z) long in
    (sym (ap (λ (w : List ℕ). w ++ more) bytes ∙ rw (are.0, are.1, are.2) refl), are.3)

-- The bounds of a byte that may follow the first.
continuation_is : (y : ℕ) → is_continuation y ≡ true → (0x80 ≤ y) × (y < 0xc0)
continuation_is y e = let b = and_parts (leb 0x80 y) (ltb y 0xc0) e in (leb-true 0x80 y b.0, ltb-true y 0xc0 b.1)

-- The bounds of the shortest spelling in two bytes.
short_is : (u : ℕ) → (eqb u 0 || leb 0x80 u) ≡ true → (u ≡ 0) ⊎ (0x80 ≤ u)
short_is u e = elim (or_cases (eqb u 0) (leb 0x80 u) e) [ inl a ↦ inl (eqb-true u 0 a) | inr b ↦ inr (leb-true 0x80 u b) ]

-- A unit that is read from two bytes is spelled by them.
after_two_is_front : (x : ℕ) (more : List ℕ) (front : ℕ × List ℕ) → 0xc0 ≤ x → x < 0xe0 → after_lead_of_two x more ≡ Some front → IsFront (x ∷ more) front
after_two_is_front x [] front p q e = absurd (none_is_not front e)
after_two_is_front x (y ∷ more) front p q e =
    let u = two_byte_unit x y in
    elim (chosen (is_continuation y && (eqb u 0 || leb 0x80 u)) (Some (u, more)) None (Some front) e) [
      | inl met ↦
          let tests = and_parts (is_continuation y) (eqb u 0 || leb 0x80 u) met.0 in
          let behind = continuation_is y tests.0 in
          subst (IsFront (x ∷ y ∷ more)) (some_is (u, more) front met.1) (two_bytes_front x y more p q behind.0 behind.1 (short_is u tests.1))
      | inr unmet ↦ absurd (none_is_not front unmet.1)
    ]

-- A unit that is read from three bytes is spelled by them.
after_three_is_front : (x : ℕ) (more : List ℕ) (front : ℕ × List ℕ) → 0xe0 ≤ x → x < 0xf0 → after_lead_of_three x more ≡ Some front → IsFront (x ∷ more) front
after_three_is_front x [] front p q e = absurd (none_is_not front e)
after_three_is_front x (y ∷ []) front p q e = absurd (none_is_not front e)
after_three_is_front x (y ∷ z ∷ more) front p q e =
    let u = three_byte_unit x y z in
    elim (chosen (is_continuation y && is_continuation z && leb 0x800 u) (Some (u, more)) None (Some front) e) [
      | inl met ↦
          let tests = and_parts (is_continuation y && is_continuation z) (leb 0x800 u) met.0 in
          let bytes = and_parts (is_continuation y) (is_continuation z) tests.0 in
          let second = continuation_is y bytes.0 in
          let third = continuation_is z bytes.1 in
          subst (IsFront (x ∷ y ∷ z ∷ more)) (some_is (u, more) front met.1) (three_bytes_front x y z more p q second.0 second.1 third.0 third.1 (leb-true 0x800 u tests.1))
      | inr unmet ↦ absurd (none_is_not front unmet.1)
    ]

-- A unit that is read at the front of bytes is spelled there.
pub unit_at_is_front : (bytes : List ℕ) (front : ℕ × List ℕ) → unit_at bytes ≡ Some front → (bytes ≡ unit_bytes front.0 ++ front.1) × (front.0 < 0x10000)
unfolding unit_at
unit_at_is_front [] front e = absurd (none_is_not front e)
unit_at_is_front (x ∷ more) front e =
    let two : Option (ℕ × List ℕ) = cond (leb 0xc0 x && ltb x 0xe0) (after_lead_of_two x more) (cond (leb 0xe0 x && ltb x 0xf0) (after_lead_of_three x more) None) in
    let three : Option (ℕ × List ℕ) = cond (leb 0xe0 x && ltb x 0xf0) (after_lead_of_three x more) None in
    elim (chosen (ltb 0 x && ltb x 0x80) (Some (x, more)) two (Some front) e) [
      | inl one ↦
          let range = and_parts (ltb 0 x) (ltb x 0x80) one.0 in
          let bytes = unit_of_one x (ltb-true 0 x range.0) (ltb-true x 0x80 range.1) in
          subst (IsFront (x ∷ more)) (some_is (x, more) front one.1) (sym (ap (λ (w : List ℕ). w ++ more) bytes), omega (arith, ltb-true x 0x80 range.1))
      | inr unmet ↦ elim (chosen (leb 0xc0 x && ltb x 0xe0) (after_lead_of_two x more) three (Some front) unmet.1) [
        | inl met ↦
            let range = and_parts (leb 0xc0 x) (ltb x 0xe0) met.0 in
            after_two_is_front x more front (leb-true 0xc0 x range.0) (ltb-true x 0xe0 range.1) met.1
        | inr still ↦ elim (chosen (leb 0xe0 x && ltb x 0xf0) (after_lead_of_three x more) None (Some front) still.1) [
          | inl met ↦
              let range = and_parts (leb 0xe0 x) (ltb x 0xf0) met.0 in
              after_three_is_front x more front (leb-true 0xe0 x range.0) (ltb-true x 0xf0 range.1) met.1
          | inr last ↦ absurd (none_is_not front last.1)
        ]
      ]
    ]

-- A byte that may follow the first.
is_continuation_at : (k : ℕ) → k < 0x40 → is_continuation (0x80 + k) ≡ true
is_continuation_at k p = and_from (leb 0x80 (0x80 + k)) (ltb (0x80 + k) 0xc0) (le-leb 0x80 (0x80 + k) (omega arith)) (lt-ltb (0x80 + k) 0xc0 (omega arith))

-- A unit of two bytes is read after its first byte.
two_bytes_are_read : (u : ℕ) (rest : List ℕ) → (u ≡ 0) ⊎ (0x80 ≤ u) → u < 0x800 → after_lead_of_two (0xc0 + u / 0x40) ((0x80 + u % 0x40) ∷ rest) ≡ Some (u, rest)
two_bytes_are_read u rest short p =
    let shortest : (eqb u 0 || leb 0x80 u) ≡ true = elim short [ inl a ↦ or_left (eqb u 0) (leb 0x80 u) (eq-eqb u 0 a) | inr b ↦ or_right (eqb u 0) (leb 0x80 u) (le-leb 0x80 u b) ] in
    let next : is_continuation (0x80 + u % 0x40) ≡ true = is_continuation_at (u % 0x40) (omega arith) in
    let both : (is_continuation (0x80 + u % 0x40) && (eqb u 0 || leb 0x80 u)) ≡ true = and_from (is_continuation (0x80 + u % 0x40)) (eqb u 0 || leb 0x80 u) next shortest in
    let step : (v : ℕ) → v ≡ u → cond {A = Option (ℕ × List ℕ)} (is_continuation (0x80 + u % 0x40) && (eqb v 0 || leb 0x80 v)) (Some (v, rest)) None ≡ Some (u, rest) = λ v is. rw (is, both) refl in
    step (two_byte_unit (0xc0 + u / 0x40) (0x80 + u % 0x40)) (two_byte_unit_is u p)

-- A unit of three bytes is read after its first byte.
three_bytes_are_read : (u : ℕ) (rest : List ℕ) → 0x800 ≤ u → u < 0x10000 → after_lead_of_three (0xe0 + u / 0x1000) ((0x80 + u / 0x40 % 0x40) ∷ (0x80 + u % 0x40) ∷ rest) ≡ Some (u, rest)
three_bytes_are_read u rest long p =
    let y = 0x80 + u / 0x40 % 0x40 in
    let z = 0x80 + u % 0x40 in
    let behind : (is_continuation y && is_continuation z) ≡ true = and_from (is_continuation y) (is_continuation z) (is_continuation_at (u / 0x40 % 0x40) (omega arith)) (is_continuation_at (u % 0x40) (omega arith)) in
    let all : (is_continuation y && is_continuation z && leb 0x800 u) ≡ true = and_from (is_continuation y && is_continuation z) (leb 0x800 u) behind (le-leb 0x800 u long) in
    let step : (v : ℕ) → v ≡ u → cond {A = Option (ℕ × List ℕ)} (is_continuation y && is_continuation z && leb 0x800 v) (Some (v, rest)) None ≡ Some (u, rest) = λ v is. rw (is, all) refl in
    step (three_byte_unit (0xe0 + u / 0x1000) y z) (three_byte_unit_is u p)

-- A unit of one byte is read from it.
one_byte_unit_again : (u : ℕ) (rest : List ℕ) → 0 < u → u < 0x80 → unit_at (unit_bytes u ++ rest) ≡ Some (u, rest)
unfolding unit_at
one_byte_unit_again u rest p q =
    let test : (ltb 0 u && ltb u 0x80) ≡ true = and_from (ltb 0 u) (ltb u 0x80) (lt-ltb 0 u p) (lt-ltb u 0x80 q) in
    ap (λ (w : List ℕ). unit_at (w ++ rest)) (unit_of_one u p q) ∙ rw test refl

-- A unit of two bytes is read from them.
two_byte_unit_again : (u : ℕ) (rest : List ℕ) → (u ≡ 0) ⊎ (0x80 ≤ u) → u < 0x800 → unit_at (unit_bytes u ++ rest) ≡ Some (u, rest)
unfolding unit_at
two_byte_unit_again u rest short p =
    let x = 0xc0 + u / 0x40 in
    let not_one : (ltb 0 x && ltb x 0x80) ≡ false = and_right (ltb 0 x) (ltb x 0x80) (le-ltb x 0x80 (omega arith)) in
    let lead : (leb 0xc0 x && ltb x 0xe0) ≡ true = and_from (leb 0xc0 x) (ltb x 0xe0) (le-leb 0xc0 x (omega arith)) (lt-ltb x 0xe0 (omega arith)) in
    ap (λ (w : List ℕ). unit_at (w ++ rest)) (unit_of_two u short p) ∙ rw (not_one, lead) (two_bytes_are_read u rest short p)

-- A unit of three bytes is read from them.
three_byte_unit_again : (u : ℕ) (rest : List ℕ) → 0x800 ≤ u → u < 0x10000 → unit_at (unit_bytes u ++ rest) ≡ Some (u, rest)
unfolding unit_at
three_byte_unit_again u rest long p =
    let x = 0xe0 + u / 0x1000 in
    let not_one : (ltb 0 x && ltb x 0x80) ≡ false = and_right (ltb 0 x) (ltb x 0x80) (le-ltb x 0x80 (omega arith)) in
    let not_two : (leb 0xc0 x && ltb x 0xe0) ≡ false = and_right (leb 0xc0 x) (ltb x 0xe0) (le-ltb x 0xe0 (omega arith)) in
    let lead : (leb 0xe0 x && ltb x 0xf0) ≡ true = and_from (leb 0xe0 x) (ltb x 0xf0) (le-leb 0xe0 x (omega arith)) (lt-ltb x 0xf0 (omega arith)) in
    ap (λ (w : List ℕ). unit_at (w ++ rest)) (unit_of_three u long) ∙ rw (not_one, not_two, lead) (three_bytes_are_read u rest long p)

-- A unit of 16 bits is read at the front of its bytes, whatever follows.
pub unit_at_again : (u : ℕ) (rest : List ℕ) → u < 0x10000 → unit_at (unit_bytes u ++ rest) ≡ Some (u, rest)
unit_at_again u rest p =
    elim (cases_lt u 0x80) [
      | inl low ↦ elim (cases_eq u 0) [
        | inl zero_is ↦ two_byte_unit_again u rest (inl zero_is) (omega arith)
        | inr other ↦ one_byte_unit_again u rest (omega arith) low
      ]
      | inr high ↦ elim (cases_lt u 0x800) [
        | inl below ↦ two_byte_unit_again u rest (inr high) below
        | inr above ↦ three_byte_unit_again u rest above p
      ]
    ]

-- Bytes that begin with a unit are not empty.
filled : (bytes : List ℕ) (u : ℕ) → unit_at (bytes ++ []) ≡ Some (u, []) → 0 < length bytes
unfolding unit_at
filled [] u e = absurd (none_is_not (u, []) e)
filled (x ∷ more) u e = omega arith

-- A unit has at least one byte.
unit_has_bytes : (u : ℕ) → u < 0x10000 → 0 < length (unit_bytes u)
unit_has_bytes u p = filled (unit_bytes u) u (unit_at_again u [] p)

-- A value that is present.
present_is : {A : Type 0} (o : Option A) (at : ℕ) (x : A) → present o at ≡ Ok x → o ≡ Some x
present_is (Some y) at x e = cc
present_is None at x e = absurd cc

-- A value that is absent, or the next step's fault.
absent_or : (o : Option (ℕ × List ℕ)) (place at : ℕ) (f : ℕ × List ℕ → Result (List ℕ) ℕ) → (present o place >>= f) ≡ Err at → ((o ≡ None) × (place ≡ at)) ⊎ ((x : ℕ × List ℕ) × (o ≡ Some x) × (f x ≡ Err at))
absent_or (Some x) place at f e = inr (x, refl, e)
absent_or None place at f e = inl (refl, cc)

-- The value of a step that didn't fail.
step_ok : {A B : Type 0} (r : Result A ℕ) (f : A → Result B ℕ) (y : B) → (r >>= f) ≡ Ok y → (x : A) × (r ≡ Ok x) × (f x ≡ Ok y)
step_ok (Ok x) f y e = (x, refl, e)
step_ok (Err d) f y e = absurd cc

-- The fault of a step after which nothing fails.
step_err : (r : Result (List ℕ) ℕ) (u at : ℕ) → (r >>= λ us. Ok (u ∷ us)) ≡ Err at → r ≡ Err at
step_err (Ok us) u at e = absurd cc
step_err (Err d) u at e = cc

-- The bytes of a text with one more unit at its front.
pub encoded-cons : (u : ℕ) (us : List ℕ) → bytes_of_text (u ∷ us) ≡ unit_bytes u ++ bytes_of_text us
unfolding bytes_of_text
encoded-cons u us = refl

-- The bytes of the empty text.
pub encoded-nil : bytes_of_text [] ≡ []
unfolding bytes_of_text
encoded-nil = refl

-- The bytes of two texts, one after the other.
pub encoded-append : (us vs : List ℕ) → bytes_of_text (us ++ vs) ≡ bytes_of_text us ++ bytes_of_text vs
unfolding bytes_of_text
encoded-append us vs = flat_map-append unit_bytes us vs

-- If a unit is read, decoding continues after it.
pub decoded_from-unit : (most place : ℕ) (bytes : List ℕ) (u : ℕ) (rest : List ℕ) → unit_at bytes ≡ Some (u, rest)
    → decoded_from (suc most) place bytes ≡ (decoded_from most (place + (length bytes - length rest)) rest >>= λ us. Ok (u ∷ us))
unfolding unit_at decoded_from
decoded_from-unit most place [] u rest e = absurd (none_is_not (u, rest) e)
decoded_from-unit most place (x ∷ more) u rest e = rw e refl

-- If no unit is read and bytes are left, decoding ends.
pub decoded_from-bad : (most place : ℕ) (bytes : List ℕ) → 0 < length bytes → unit_at bytes ≡ None → decoded_from most place bytes ≡ Err place
unfolding decoded_from
decoded_from-bad most place [] p e = absurd (omega arith)
decoded_from-bad zero place (x ∷ more) p e = refl
decoded_from-bad (suc most) place (x ∷ more) p e = rw e refl

-- The result of decoding a text.
abbrev decoded_to : List ℕ → Result (List ℕ) ℕ
decoded_to us = Ok us

-- Equal `Ok`s have equal texts.
ok_is : (us vs : List ℕ) → decoded_to us ≡ decoded_to vs → us ≡ vs
ok_is us vs e = cc

-- An `Ok` is no `Err`.
ok_is_not_err : (us : List ℕ) (at : ℕ) → decoded_to us ≡ Err at → ⊥
ok_is_not_err us at e = cc

-- No bytes are the empty text.
pub decoded_from-nil : (most place : ℕ) → decoded_from most place [] ≡ Ok []
unfolding decoded_from
decoded_from-nil zero place = refl
decoded_from-nil (suc most) place = refl

-- The empty text is coded by no bytes.
nil_codes : Codes [] []
nil_codes = (tt, sym encoded-nil)

-- A text with one more unit at its front.
codes_more : (bytes : List ℕ) (front : ℕ × List ℕ) (us : List ℕ) → unit_at bytes ≡ Some front → Codes front.1 us → Codes bytes (front.0 ∷ us)
codes_more bytes front us e codes =
    let found = unit_at_is_front bytes front e in
    ((found.1, codes.0), found.0 ∙ ap (λ (w : List ℕ). unit_bytes front.0 ++ w) codes.1 ∙ sym (encoded-cons front.0 us))

-- A text that is decoded from a place on is coded by the bytes.
pub decoded_from_codes : (most place : ℕ) (bytes us : List ℕ) → decoded_from most place bytes ≡ Ok us → Codes bytes us
unfolding decoded_from
decoded_from_codes most place [] us e = subst (Codes []) (ok_is [] us (sym (decoded_from-nil most place) ∙ e)) nil_codes
decoded_from_codes zero place (x ∷ more) us e = absurd cc
decoded_from_codes (suc most) place (x ∷ more) us e =
    let first = step_ok (present (unit_at (x ∷ more)) place) (λ unit. decoded_from most (place + (length (x ∷ more) - length unit.1)) unit.1 >>= λ vs. Ok (unit.0 ∷ vs)) us e in
    let front = first.0 in
    let behind = place + (length (x ∷ more) - length front.1) in
    let others = step_ok (decoded_from most behind front.1) (λ vs. Ok (front.0 ∷ vs)) us first.2 in
    let whole = codes_more (x ∷ more) front others.0 (present_is (unit_at (x ∷ more)) place front first.1) (decoded_from_codes most behind front.1 others.0 others.1) in
    subst (Codes (x ∷ more)) (ok_is (front.0 ∷ others.0) us others.2) whole

-- A text that is decoded is coded by the bytes.
pub decoded_is_encoded : (bytes us : List ℕ) → text_of_bytes bytes ≡ Ok us → Codes bytes us
decoded_is_encoded bytes us e = decoded_from_codes (length bytes) 0 bytes us e

-- A text is decoded from its bytes, with steps enough.
pub decoded_from_encoded : (most place : ℕ) (us : List ℕ) → IsText us → length (bytes_of_text us) ≤ most → decoded_from most place (bytes_of_text us) ≡ Ok us
decoded_from_encoded most place [] text enough = rw encoded-nil (decoded_from-nil most place)
decoded_from_encoded zero place (u ∷ us) text enough =
    let bytes : length (bytes_of_text (u ∷ us)) ≡ length (unit_bytes u) + length (bytes_of_text us) = ap length (encoded-cons u us) ∙ length-append (unit_bytes u) (bytes_of_text us) in
    absurd (omega (arith, unit_has_bytes u text.0))
decoded_from_encoded (suc most) place (u ∷ us) text enough =
    let bytes : length (bytes_of_text (u ∷ us)) ≡ length (unit_bytes u) + length (bytes_of_text us) = ap length (encoded-cons u us) ∙ length-append (unit_bytes u) (bytes_of_text us) in
    let others = decoded_from_encoded most (place + (length (unit_bytes u ++ bytes_of_text us) - length (bytes_of_text us))) us text.1 (omega (arith, unit_has_bytes u text.0)) in
    ap (decoded_from (suc most) place) (encoded-cons u us) ∙ decoded_from-unit most place (unit_bytes u ++ bytes_of_text us) u (bytes_of_text us) (unit_at_again u (bytes_of_text us) text.0) ∙ rw others refl

-- A text is decoded from its bytes.
pub encoded_is_decoded : (us : List ℕ) → IsText us → text_of_bytes (bytes_of_text us) ≡ Ok us
encoded_is_decoded us text = decoded_from_encoded (length (bytes_of_text us)) 0 us text (omega arith)

-- Bytes from which no unit is read begin with none.
pub no_unit_at : (bytes : List ℕ) → unit_at bytes ≡ None → (u : ℕ) (rest : List ℕ) → u < 0x10000 → bytes ≡ unit_bytes u ++ rest → ⊥
no_unit_at bytes e u rest p is = none_is_not (u, rest) (sym e ∙ ap unit_at is ∙ unit_at_again u rest p)

-- No unit begins at this place, and the bytes before it code a text.
abbrev pub IsFault : List ℕ → ℕ → Type 0
IsFault bytes at = (at < length bytes) × ((us : List ℕ) × Codes (take at bytes) us) × ((u : ℕ) (rest : List ℕ) → u < 0x10000 → drop at bytes ≡ unit_bytes u ++ rest → ⊥)

-- A fault after a unit is a fault of the whole.
fault_more : (u : ℕ) (rest : List ℕ) (at : ℕ) → u < 0x10000 → IsFault rest at → IsFault (unit_bytes u ++ rest) (length (unit_bytes u) + at)
fault_more u rest at p fault =
    let front = fault.1 in (
      omega (arith, length-append (unit_bytes u) rest),
      (u ∷ front.0, ((p, front.1.0), take-append-add (unit_bytes u) rest at ∙ ap (λ (w : List ℕ). unit_bytes u ++ w) front.1.1 ∙ sym (encoded-cons u front.0))),
      λ v after q e. fault.2 v after q (sym (drop-append-add (unit_bytes u) rest at) ∙ e),
    )

-- A fault after a unit that is read from the bytes is a fault of the bytes.
fault_behind : (bytes : List ℕ) (front : ℕ × List ℕ) (at : ℕ) → unit_at bytes ≡ Some front → IsFault front.1 at → IsFault bytes (length bytes - length front.1 + at)
fault_behind bytes front at e fault =
    let found = unit_at_is_front bytes front e in
    let size : length (unit_bytes front.0) ≡ length bytes - length front.1 = omega (arith, ap length found.0, length-append (unit_bytes front.0) front.1) in
    subst (λ (k : ℕ). IsFault bytes (k + at)) size (subst (λ (w : List ℕ). IsFault w (length (unit_bytes front.0) + at)) (sym found.0) (fault_more front.0 front.1 at found.1 fault))

-- The bytes after a unit are fewer.
pub shorter_behind : (bytes : List ℕ) (front : ℕ × List ℕ) → unit_at bytes ≡ Some front → length front.1 < length bytes
shorter_behind bytes front e =
    let found = unit_at_is_front bytes front e in
    omega (arith, unit_has_bytes front.0 found.1, ap length found.0, length-append (unit_bytes front.0) front.1)

-- Decoding fails at the first place where no unit begins.
pub decoded_from_fault : (most place : ℕ) (bytes : List ℕ) (at : ℕ) → length bytes ≤ most → decoded_from most place bytes ≡ Err at → (n : ℕ) × (at ≡ place + n) × IsFault bytes n
unfolding decoded_from
decoded_from_fault most place [] at enough e = absurd (ok_is_not_err [] at (sym (decoded_from-nil most place) ∙ e))
decoded_from_fault zero place (x ∷ more) at enough e = absurd (omega arith)
decoded_from_fault (suc most) place (x ∷ more) at enough e =
    elim (absent_or (unit_at (x ∷ more)) place at (λ unit. decoded_from most (place + (length (x ∷ more) - length unit.1)) unit.1 >>= λ us. Ok (unit.0 ∷ us)) e) [
      | inl absent ↦ (0, omega (arith, absent.1), (omega arith, ([], nil_codes), no_unit_at (x ∷ more) absent.0))
      | inr read ↦
          let front = read.0 in
          let behind = place + (length (x ∷ more) - length front.1) in
          let later = decoded_from_fault most behind front.1 at (omega (arith, shorter_behind (x ∷ more) front read.1)) (step_err (decoded_from most behind front.1) front.0 at read.2) in
          (length (x ∷ more) - length front.1 + later.0, omega (arith, later.1), fault_behind (x ∷ more) front later.0 read.1 later.2)
    ]

-- The fault of bytes that code no text is the first place where no unit begins.
pub fault_is_first : (bytes : List ℕ) (at : ℕ) → text_of_bytes bytes ≡ Err at → IsFault bytes at
fault_is_first bytes at e =
    let found = decoded_from_fault (length bytes) 0 bytes at (omega arith) e in
    let same : found.0 ≡ at = omega (arith, found.1) in
    subst (IsFault bytes) same found.2

-- Bytes code at most one text.
pub one_text : (bytes us vs : List ℕ) → Codes bytes us → Codes bytes vs → us ≡ vs
one_text bytes us vs p q = ok_is us vs (sym (encoded_is_decoded us p.0) ∙ ap text_of_bytes (sym p.1 ∙ q.1) ∙ encoded_is_decoded vs q.0)
