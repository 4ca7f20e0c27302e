-- The rest of a list from an index, and its texts.
use Rattle.std.proofs.Common.{◌≡◌, ℕ, zero, suc, ◌+◌, List, [], ◌∷◌, ◌++◌, drop, flat_map, refl, sym, add-one}
use Rattle.std.proofs.lemmas.List.{append_assoc}
use Rattle.std.specs.List.{enumerate_from, slice_get}
use Rattle.machine_text.specs.Parts.{if_there}

module _ {X : Type 0} where
  -- The texts of a rest are that of its first item and those after it.
  first_of_rest : (f : X → List ℕ) (xs : List X) (i : ℕ) →
      flat_map f (drop i xs) ≡ if_there f (slice_get xs i) ++ flat_map f (drop (suc i) xs)
  first_of_rest f [] zero = refl
  first_of_rest f [] (suc i) = refl
  first_of_rest f (x ∷ xs) zero = refl
  first_of_rest f (x ∷ xs) (suc i) = first_of_rest f xs i

  first_of_numbered : (f : ℕ × X → List ℕ) (xs : List X) (i n : ℕ) →
      flat_map f (enumerate_from n (drop i xs))
      ≡ if_there (λ x. f (n, x)) (slice_get xs i) ++ flat_map f (enumerate_from (n + 1) (drop (suc i) xs))
  first_of_numbered f [] zero n = refl
  first_of_numbered f [] (suc i) n = refl
  first_of_numbered f (x ∷ xs) zero n = refl
  first_of_numbered f (x ∷ xs) (suc i) n = first_of_numbered f xs i n

  next_rest : (xs : List X) (i : ℕ) → drop (i + 1) xs ≡ drop (suc i) xs
  next_rest xs i = rw add-one refl

  -- The text of one more item, followed by those of the rest after it.
  pub one_more : (f : X → List ℕ) (xs : List X) (i : ℕ) (before now all : List ℕ) →
      now ≡ before ++ if_there f (slice_get xs i) → before ++ flat_map f (drop i xs) ≡ all →
      now ++ flat_map f (drop (i + 1) xs) ≡ all
  one_more f xs i before now all h so_far =
      rw (h, next_rest, append_assoc, sym (first_of_rest f xs i)) so_far

  -- The text of one more numbered item, followed by those of the rest after it.
  pub one_more_numbered : (f : ℕ × X → List ℕ) (xs : List X) (i : ℕ) (before now all : List ℕ) →
      now ≡ before ++ if_there (λ x. f (i, x)) (slice_get xs i) →
      before ++ flat_map f (enumerate_from i (drop i xs)) ≡ all →
      now ++ flat_map f (enumerate_from (i + 1) (drop (i + 1) xs)) ≡ all
  one_more_numbered f xs i before now all h so_far =
      rw (h, next_rest, append_assoc, sym (first_of_numbered f xs i i)) so_far
