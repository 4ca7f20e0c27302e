-- Derives facts about each step of a sequence that may fail, from a result without a fault.
use Rattle.std.proofs.Common.{◌≡◌, Bool, true, false, cond, Result, Ok, Err, refl}
use Rattle.jvms_file.specs.Results.{◌>>=◌, want}

-- A sequence of two steps has a value only if its first step has one.
pub step : {A B E : Type 0} {G : Type 0} (r : Result A E) (f : A → Result B E) (y : B) → (r >>= f) ≡ Ok y → ((x : A) → r ≡ Ok x → f x ≡ Ok y → G) → G
step (Ok x) f y e next = next x refl e
step (Err d) f y e next = absurd cc

-- A test before other steps holds if they have a value.
pub want_step : {B E : Type 0} {G : Type 0} (b : Bool) (d : E) (f : Unit {0} → Result B E) (y : B) → (want b d >>= f) ≡ Ok y → (b ≡ true → f tt ≡ Ok y → G) → G
want_step true d f y e next = next refl e
want_step false d f y e next = absurd cc

-- A conditional has the value of one of its branches.
pub choose : {A : Type 0} {G : Type 0} (b : Bool) (x y z : A) → cond b x y ≡ z → (b ≡ true → x ≡ z → G) → (b ≡ false → y ≡ z → G) → G
choose true x y z e met unmet = met refl e
choose false x y z e met unmet = unmet refl e

-- A fault isn't a value.
pub no_answer : {A E : Type 0} {G : Type 0} (d : E) (x : A) → ◌≡◌ {A = Result A E} (Err d) (Ok x) → G
no_answer d x e = absurd cc

-- Equal results without a fault have equal values.
pub same_Ok : {A E : Type 0} (x y : A) → ◌≡◌ {A = Result A E} (Ok x) (Ok y) → x ≡ y
same_Ok x y e = cc
