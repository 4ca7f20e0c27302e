-- Steps that may fail, in order. The first fault is the result.
use Rattle.std.specs.Prelude.{ℕ, zero, suc, ◌++◌, Bool, true, false, Option, Some, None, Result, Ok, Err, List, [], ◌∷◌}

infixl 10 ◌>>=◌
abbrev pub ◌>>=◌ : {A B E : Type 0} → Result A E → (A → Result B E) → Result B E
(Ok x) >>= f = f x
(Err e) >>= f = Err e

-- Tests that a condition is true, and returns the fault if it is not.
abbrev pub want : {E : Type 0} → Bool → E → Result (Unit {0}) E
want true e = Ok tt
want false e = Err e

-- Returns a value that has to be there, else the fault.
abbrev pub present : {A E : Type 0} → Option A → E → Result A E
present (Some x) e = Ok x
present None e = Err e

-- Returns the results of the items of a list, in order, or the first fault.
abbrev pub results_of : {A B E : Type 0} → (A → Result B E) → List A → Result (List B) E
results_of f [] = Ok []
results_of f (x ∷ xs) = f x >>= λ y. (results_of f xs >>= λ ys. Ok (y ∷ ys))

-- Reads as many consecutive things as the count says, each in view of those before it. The result has those in `seen`,
-- followed by these.
unfoldable pub part_list_onto : {A E : Type 0} → (List A → List ℕ → Result (A × List ℕ) E) → List A → ℕ → List ℕ → Result (List A × List ℕ) E
part_list_onto thing seen zero bytes = Ok (seen, bytes)
part_list_onto thing seen (suc left) bytes = thing seen bytes >>= λ x. part_list_onto thing (seen ++ x.0 ∷ []) left x.1

-- Reads as many consecutive things as the count says.
abbrev pub part_list : {A E : Type 0} → (List ℕ → Result (A × List ℕ) E) → ℕ → List ℕ → Result (List A × List ℕ) E
part_list thing count bytes = part_list_onto (λ seen. thing) [] count bytes
