-- Steps that may fail, one after another: what a result that is no fault implies for each of them. Each lemma passes on
-- the result of one step, so that proofs follow the order of the steps.
use Rattle.std.proofs.Common.{◌≡◌, ℕ, ◌^◌, ◌<◌, Bool, true, false, cond, List, ◌∷◌, ◌++◌, length, Result, Ok, Err, refl, sym, ap, ◌∙◌, append_assoc}
use Rattle.jvms_file.specs.Results.{◌>>=◌, want}
use Rattle.jvms_file.specs.Bytes.{u1_at, u2_at, u4_at, u8_at, bytes_at}
use Rattle.jvms_file.specs.Spelling.{u2, u4, u8, IsU1, IsU2, IsU4}
use Rattle.classfile_laws.proofs.Numbers.{IsBytes, u1_found, u2_found, u4_found, u8_found, bytes_found}

-- A step that gave a value, followed by the next one.
pub step : {A B E : Type 0} {G : Type 0} (r : Result A E) (f : A → Result B E) (y : B) → (r >>= f) ≡ Ok y → ((x : A) → r ≡ Ok x → f x ≡ Ok y → G) → G
step (Ok x) f y e next = next x refl e
step (Err d) f y e next = absurd cc

-- A test that passed.
pub want_step : {B E : Type 0} {G : Type 0} (b : Bool) (d : E) (f : Unit {0} → Result B E) (y : B) → (want b d >>= f) ≡ Ok y → (b ≡ true → f tt ≡ Ok y → G) → G
want_step true d f y e next = next refl e
want_step false d f y e next = absurd cc

-- The cases of a test.
pub choose : {A : Type 0} {G : Type 0} (b : Bool) (x y z : A) → cond b x y ≡ z → (b ≡ true → x ≡ z → G) → (b ≡ false → y ≡ z → G) → G
choose true x y z e met unmet = met refl e
choose false x y z e met unmet = unmet refl e

-- The value of the last step.
pub answered : {A E : Type 0} (x y : A) (behind rest : List ℕ) → ◌≡◌ {A = Result (A × List ℕ) E} (Ok (x, behind)) (Ok (y, rest)) → (x ≡ y) × (behind ≡ rest)
answered {A = A} x y behind rest e = let same : (x, behind) ≡ (y, rest) = cc in (ap (λ (p : A × List ℕ). p.0) same, ap (λ (p : A × List ℕ). p.1) same)

-- A thing that was read from bytes is at their front, before the rest, and is spelled so.
pub record Found {A : Type 0} (P : List ℕ → A → Type 0) (bytes : List ℕ) (x : A) (rest : List ℕ) : Type 0 where
  pub first : List ℕ
  pub parts : bytes ≡ first ++ rest
  pub spells : P first x
  pub left : IsBytes rest

-- Two parts, one after the other, are one.
pub joined : (first second rest bytes behind end : List ℕ) → bytes ≡ first ++ behind → behind ≡ second ++ end → end ≡ rest → bytes ≡ (first ++ second) ++ rest
joined first second rest bytes behind end p q r = p ∙ ap (λ (w : List ℕ). first ++ w) (q ∙ ap (λ (w : List ℕ). second ++ w) r) ∙ sym (append_assoc first second rest)

-- A thing that was read, followed by a step.
pub found_step : {A B E : Type 0} {G : Type 0} (P : List ℕ → A → Type 0) (bytes : List ℕ) (r : Result (A × List ℕ) E) (f : A × List ℕ → Result B E) (y : B)
    → ((x : A) (rest : List ℕ) → r ≡ Ok (x, rest) → Found P bytes x rest) → (r >>= f) ≡ Ok y
    → ((x : A) (first rest : List ℕ) → P first x → bytes ≡ first ++ rest → IsBytes rest → f (x, rest) ≡ Ok y → G) → G
found_step P bytes r f y find e next = step r f y e (λ x is more. let found = find x.0 x.1 is in next x.0 found.first x.1 found.spells found.parts found.left more)

-- A number of one byte that was read, followed by a step.
pub u1_step : {B E : Type 0} {G : Type 0} (cut : E) (bytes : List ℕ) (f : ℕ × List ℕ → Result B E) (y : B) → IsBytes bytes → (u1_at cut bytes >>= f) ≡ Ok y
    → ((n : ℕ) (rest : List ℕ) → IsU1 n → bytes ≡ n ∷ rest → IsBytes rest → f (n, rest) ≡ Ok y → G) → G
u1_step cut bytes f y are e next = step (u1_at cut bytes) f y e (λ x is more. let found = u1_found cut bytes x.0 x.1 are is in next x.0 x.1 found.0 found.1 found.2 more)

-- A number of two bytes that was read, followed by a step.
pub u2_step : {B E : Type 0} {G : Type 0} (cut : E) (bytes : List ℕ) (f : ℕ × List ℕ → Result B E) (y : B) → IsBytes bytes → (u2_at cut bytes >>= f) ≡ Ok y
    → ((n : ℕ) (rest : List ℕ) → IsU2 n → bytes ≡ u2 n ++ rest → IsBytes rest → f (n, rest) ≡ Ok y → G) → G
u2_step cut bytes f y are e next = step (u2_at cut bytes) f y e (λ x is more. let found = u2_found cut bytes x.0 x.1 are is in next x.0 x.1 found.0 found.1 found.2 more)

-- A number of four bytes that was read, followed by a step.
pub u4_step : {B E : Type 0} {G : Type 0} (cut : E) (bytes : List ℕ) (f : ℕ × List ℕ → Result B E) (y : B) → IsBytes bytes → (u4_at cut bytes >>= f) ≡ Ok y
    → ((n : ℕ) (rest : List ℕ) → IsU4 n → bytes ≡ u4 n ++ rest → IsBytes rest → f (n, rest) ≡ Ok y → G) → G
u4_step cut bytes f y are e next = step (u4_at cut bytes) f y e (λ x is more. let found = u4_found cut bytes x.0 x.1 are is in next x.0 x.1 found.0 found.1 found.2 more)

-- A number of eight bytes that was read, followed by a step.
pub u8_step : {B E : Type 0} {G : Type 0} (cut : E) (bytes : List ℕ) (f : ℕ × List ℕ → Result B E) (y : B) → IsBytes bytes → (u8_at cut bytes >>= f) ≡ Ok y
    → ((n : ℕ) (rest : List ℕ) → n < 2 ^ 64 → bytes ≡ u8 n ++ rest → IsBytes rest → f (n, rest) ≡ Ok y → G) → G
u8_step cut bytes f y are e next = step (u8_at cut bytes) f y e (λ x is more. let found = u8_found cut bytes x.0 x.1 are is in next x.0 x.1 found.0 found.1 found.2 more)

-- Bytes that were read, followed by a step.
pub bytes_step : {B E : Type 0} {G : Type 0} (cut : E) (n : ℕ) (bytes : List ℕ) (f : List ℕ × List ℕ → Result B E) (y : B) → IsBytes bytes → (bytes_at cut n bytes >>= f) ≡ Ok y
    → ((first rest : List ℕ) → length first ≡ n → bytes ≡ first ++ rest → IsBytes first → IsBytes rest → f (first, rest) ≡ Ok y → G) → G
bytes_step cut n bytes f y are e next = step (bytes_at cut n bytes) f y e (λ x is more. let found = bytes_found cut n bytes x.0 x.1 are is in next x.0 x.1 found.0 found.1 found.2 found.3 more)
