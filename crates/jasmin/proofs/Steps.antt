-- Eliminates results that are present, one step at a time. Each lemma passes on the facts of one step, so that a proof
-- reads in the order of the steps.
use Rattle.std.proofs.Common.{◌≡◌, Bool, true, false, cond, Option, Some, None, refl}
use Rattle.std.proofs.lemmas.Option.{none-some, same_Some}
use Rattle.std.specs.Option.{option_and_then, option_map}

-- A conditional has the value of one of its branches.
pub choose : {A : Type 0} {G : Type 0} (b : Bool) (x y z : A) → cond b x y ≡ z → (b ≡ true → x ≡ z → G) → (b ≡ false → y ≡ z → G) → G
choose true x y z e met unmet = met refl e
choose false x y z e met unmet = unmet refl e

-- A mapped result is the function's value at a result that is present.
pub mapped : {A B : Type 0} {G : Type 0} (f : A → B) (o : Option A) (y : B) → option_map f o ≡ Some y → ((x : A) → o ≡ Some x → f x ≡ y → G) → G
mapped f None y e next = absurd (none-some y e)
mapped f (Some x) y e next = next x refl (same_Some (f x) y e)

-- A result of a second step has a result of the first.
pub before : {A B : Type 0} {G : Type 0} (f : A → Option B) (o : Option A) (y : B) → option_and_then f o ≡ Some y → ((x : A) → o ≡ Some x → f x ≡ Some y → G) → G
before f None y e next = absurd (none-some y e)
before f (Some x) y e next = next x refl e
