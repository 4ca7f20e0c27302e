-- Steps that may fail and succeeded, taken apart.
use Rattle.std.proofs.Common.{◌≡◌, Bool, true, false, List, ◌∷◌, Option, Some, None, Result, Ok, Err, refl, ap}
use Rattle.std.specs.Option.{option_and_then, option_map}
use Rattle.std.proofs.lemmas.Option.{same_Some}
use Rattle.jvms_file.specs.Results.{◌>>=◌, want, present}

-- A step that gave a value, followed by the next one.
pub record Step {A B E : Type 0} (r : Result A E) (f : A → Result B E) (y : B) : Type 0 where
  pub value : A
  pub is : r ≡ Ok value
  pub goes : f value ≡ Ok y

pub step : {A B E : Type 0} (r : Result A E) (f : A → Result B E) (y : B) → (r >>= f) ≡ Ok y → Step r f y
step (Ok x) f y h = record { value = x; is = refl; goes = h }
step (Err e) f y h = absurd cc

pub tested : {B E : Type 0} (test : Bool) (cut : E) (r : Result B E) (y : B) → (want test cut >>= λ _. r) ≡ Ok y → (test ≡ true) × (r ≡ Ok y)
tested true cut r y h = (refl, h)
tested false cut r y h = absurd cc

pub record IsThere {A B E : Type 0} (o : Option A) (f : A → Result B E) (y : B) : Type 0 where
  pub value : A
  pub is : o ≡ Some value
  pub goes : f value ≡ Ok y

pub there : {A B E : Type 0} (o : Option A) (cut : E) (f : A → Result B E) (y : B) → (present o cut >>= f) ≡ Ok y → IsThere o f y
there (Some x) cut f y h = record { value = x; is = refl; goes = h }
there None cut f y h = absurd cc

-- The two parts of a value that was read.
pub read_parts : {A B E : Type 0} (a x : A) (b y : B) → ◌≡◌ {A = Result (A × B) E} (Ok (a, b)) (Ok (x, y)) → (a ≡ x) × (b ≡ y)
read_parts {A} {B} {E} a x b y h =
    let same : ◌≡◌ {A = A × B} (a, b) (x, y) = cc in
    (ap (λ (p : A × B). p.0) same, ap (λ (p : A × B). p.1) same)

pub record Mapped {A B : Type 0} (f : A → B) (o : Option A) (y : B) : Type 0 where
  pub value : A
  pub is : o ≡ Some value
  pub gives : f value ≡ y

pub mapped : {A B : Type 0} (f : A → B) (o : Option A) (y : B) → option_map f o ≡ Some y → Mapped f o y
mapped f (Some x) y h = record { value = x; is = refl; gives = same_Some (f x) y h }
mapped f None y h = absurd cc

pub record Chained {A B : Type 0} (f : A → Option B) (o : Option A) (y : B) : Type 0 where
  pub value : A
  pub is : o ≡ Some value
  pub gives : f value ≡ Some y

pub chained : {A B : Type 0} (f : A → Option B) (o : Option A) (y : B) → option_and_then f o ≡ Some y → Chained f o y
chained f (Some x) y h = record { value = x; is = refl; gives = h }
chained f None y h = absurd cc

-- A value that has to be there is there.
pub present_is : {A E : Type 0} (o : Option A) (cut : E) (x : A) → present o cut ≡ Ok x → o ≡ Some x
present_is (Some y) cut x h = cc
present_is None cut x h = absurd cc

-- The values of two steps are one list.
pub record Joined {A E : Type 0} (first : Result A E) (others : Result (List A) E) (all : List A) : Type 0 where
  pub head : A
  pub tail : List A
  pub first_is : first ≡ Ok head
  pub others_are : others ≡ Ok tail
  pub gives : all ≡ head ∷ tail

pub joined : {A E : Type 0} (first : Result A E) (others : Result (List A) E) (all : List A) → (first >>= λ x. (others >>= λ xs. Ok (x ∷ xs))) ≡ Ok all → Joined first others all
joined (Ok x) (Ok xs) all h = record { head = x; tail = xs; first_is = refl; others_are = refl; gives = cc }
joined (Ok x) (Err e) all h = absurd cc
joined (Err e) others all h = absurd cc
