-- Proves what is appended to a list in steps.
use Rattle.std.proofs.Common.{◌≡◌, ℕ, List, ◌++◌, Result, Ok, Err, ap, ◌∙◌, append_assoc}
use Rattle.std.specs.Result.{OnOk}

pub behind : {E : Type 0} (r : Result (Unit {0}) E) (new mid old x y z : List ℕ) → x ++ y ≡ z → mid ≡ old ++ x → OnOk r (new ≡ mid ++ y) → OnOk r (new ≡ old ++ z)
behind (Ok u) new mid old x y z whole first last =
    last ∙ ap (λ (w : List ℕ). w ++ y) first ∙ append_assoc old x y ∙ ap (λ (w : List ℕ). old ++ w) whole
behind (Err e) new mid old x y z whole first last = last

pub then : {E : Type 0} (r : Result (Unit {0}) E) (new mid old x y : List ℕ) → mid ≡ old ++ x → OnOk r (new ≡ mid ++ y) → OnOk r (new ≡ old ++ (x ++ y))
then (Ok u) new mid old x y first last = last ∙ ap (λ (w : List ℕ). w ++ y) first ∙ append_assoc old x y
then (Err e) new mid old x y first last = last
