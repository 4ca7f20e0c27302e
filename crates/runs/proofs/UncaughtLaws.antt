-- The threads that ended with an exception, one after another.
use Rattle.std.proofs.Common.{◌≡◌, ℕ, zero, suc, ◌+◌, ◌<◌, List, [], ◌∷◌, ◌++◌, length, drop, refl, ap, sym, ◌∙◌, arith, add-one, append_assoc, slice_get}
use Rattle.std.specs.Option.{option_and_then}
use Rattle.jvms_machine.specs.State.{Object, Thread}
use Rattle.machine.specs.Machine.{Machine}
use Rattle.machine.specs.Views.{uncaught, uncaught_in}
use Rattle.runs.specs.Endings.{uncaught_of, uncaught_from}

-- The first of the remaining threads comes first, followed by those after it.
one_found : (heap : List Object) (xs : List Thread) (t k : ℕ) → k < length xs → uncaught_from heap t (drop k xs) ≡ uncaught_of t (option_and_then (λ x. uncaught_in heap x.ended x.pending) (slice_get xs k)) ++ uncaught_from heap (suc t) (drop (suc k) xs)
one_found heap [] t k below = absurd (omega arith)
one_found heap (x ∷ xs) t zero below = refl
one_found heap (x ∷ xs) t (suc k) below = one_found heap xs t k (omega arith)

-- Returns the threads that were found, followed by those to be found from a number on.
abbrev pub with_left : Machine → List (ℕ × List ℕ) → ℕ → List (ℕ × List ℕ)
with_left m seen t = seen ++ uncaught_from m.state.heap t (drop t m.state.threads)

-- Inspecting one more thread keeps the list of all.
pub one_more : (m : Machine) (seen more all : List (ℕ × List ℕ)) (t : ℕ) → t < length m.state.threads → more ≡ seen ++ uncaught_of t (uncaught m t) → with_left m seen t ≡ all → with_left m more (t + 1) ≡ all
one_more m seen more all t below is whole =
    rw (is, add-one) (append_assoc seen _ _ ∙ ap (λ l. seen ++ l) (sym (one_found m.state.heap m.state.threads t t below)) ∙ whole)
