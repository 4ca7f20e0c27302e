-- Derives facts from results without a fault and from tests that hold.
use Rattle.std.proofs.Common.{◌≡◌, Bool, true, false, ◌||◌, Option, Some, None, is_some, Result, Ok, Err, refl, sym}
use Rattle.std.specs.Option.{option_and_then}
use Rattle.std.proofs.lemmas.Bool.{false≢true}
use Rattle.jvms_file.specs.Results.{want}

-- Equal results without a fault have equal values.
pub same_Ok : {A E : Type 0} (x y : A) → ◌≡◌ {A = Result A E} (Ok x) (Ok y) → x ≡ y
same_Ok x y e = cc

-- A fault isn't a value.
pub no_answer : {A E : Type 0} {G : Type 0} (d : E) (x : A) → ◌≡◌ {A = Result A E} (Err d) (Ok x) → G
no_answer d x e = absurd cc

-- A last test holds if it has a value.
pub want_held : {E : Type 0} (b : Bool) (d : E) → want b d ≡ Ok tt → b ≡ true
want_held true d e = refl
want_held false d e = absurd cc

-- If a disjunction holds and its first part doesn't, its second part does.
pub other_holds : (x y : Bool) → (x || y) ≡ true → x ≡ false → y ≡ true
other_holds true y e lost = absurd (false≢true (sym lost))
other_holds false y e lost = e

-- An optional value is present if a further step from it has a result.
pub some_inside : {A B : Type 0} (f : A → Option B) (r : Option A) → is_some (option_and_then f r) ≡ true → is_some r ≡ true
some_inside f None e = e
some_inside f (Some a) e = refl
