-- Lists with one more item at the end.
use Rattle.std.proofs.Common.{◌≡◌, ℕ, zero, suc, ◌+◌, ◌-◌, ◌<◌, ◌≤◌, List, [], ◌∷◌, ◌++◌, length, take, slice_get, Some, refl, sym, ap, ◌∙◌, arith}
use Rattle.std.specs.List.{AllByRecursion}
use Rattle.std.proofs.lemmas.List.{length-append, take-append-le}
use Rattle.std.proofs.lemmas.Option.{none-some, same_Some}
use Rattle.jvms_machine.proofs.ListLaws.{appended_at}

module _ {X : Type 0} where
  take_one_more : (xs : List X) (i : ℕ) (x : X) → slice_get xs i ≡ Some x → take (suc i) xs ≡ take i xs ++ x ∷ []
  take_one_more [] i x is = absurd (none-some x is)
  take_one_more (y ∷ xs) zero x is = ap (λ z. z ∷ []) (same_Some y x is)
  take_one_more (y ∷ xs) (suc i) x is = ap (λ l. y ∷ l) (take_one_more xs i x is)

  pub take_more : (xs : List X) (i : ℕ) (x : X) → slice_get xs i ≡ Some x → take (i + 1) xs ≡ take i xs ++ x ∷ []
  take_more xs i x is = let e : i + 1 ≡ suc i = omega arith in ap (λ n. take n xs) e ∙ take_one_more xs i x is

  pub take_whole : (xs : List X) (i : ℕ) → length xs ≤ i → take i xs ≡ xs
  take_whole [] zero all = refl
  take_whole [] (suc i) all = refl
  take_whole (x ∷ xs) zero all = absurd (omega (arith, all))
  take_whole (x ∷ xs) (suc i) all = ap (λ l. x ∷ l) (take_whole xs i (omega (arith, all)))

  all_but_one : (xs : List X) (x : X) → length (xs ++ x ∷ []) - 1 ≡ length xs
  all_but_one xs x = let e = length-append xs (x ∷ []) in omega arith

  pub last_at : (xs : List X) (x : X) → slice_get (xs ++ x ∷ []) (length (xs ++ x ∷ []) - 1) ≡ Some x
  last_at xs x = ap (λ n. slice_get (xs ++ x ∷ []) n) (all_but_one xs x) ∙ appended_at xs x

  front : (xs : List X) (x : X) → take (length (xs ++ x ∷ []) - 1) (xs ++ x ∷ []) ≡ xs
  front xs x = ap (λ n. take n (xs ++ x ∷ [])) (all_but_one xs x) ∙ take-append-le (length xs) xs (x ∷ []) (omega arith) ∙ take_whole xs (length xs) (omega arith)

  pub same_front : (xs ys : List X) (x y : X) → xs ++ x ∷ [] ≡ ys ++ y ∷ [] → xs ≡ ys
  same_front xs ys x y is = sym (front xs x) ∙ ap (λ l. take (length l - 1) l) is ∙ front ys y

  -- The items before the last.
  pub but_last : (xs rest : List X) (x : X) (n : ℕ) → n ≡ length xs → rest ≡ take (n - 1) xs → slice_get xs (length xs - 1) ≡ Some x → xs ≡ rest ++ x ∷ []
  but_last [] rest x n many is last = absurd (none-some x last)
  but_last (y ∷ xs) rest x n many is last =
      sym (take_whole (y ∷ xs) ((length (y ∷ xs) - 1) + 1) (omega arith)) ∙ take_more (y ∷ xs) (length (y ∷ xs) - 1) x last
      ∙ ap (λ k. take (k - 1) (y ∷ xs) ++ x ∷ []) (sym many) ∙ ap (λ l. l ++ x ∷ []) (sym is)

  pub some_at : (xs : List X) (i : ℕ) → i < length xs → (x : X) × (slice_get xs i ≡ Some x)
  some_at [] i below = absurd (omega (arith, below))
  some_at (x ∷ xs) zero below = (x, refl)
  some_at (x ∷ xs) (suc i) below = some_at xs i (omega (arith, below))

  pub all_front : (P : X → Type 0) (xs ys : List X) → AllByRecursion P (xs ++ ys) → AllByRecursion P xs
  all_front P [] ys all = tt
  all_front P (x ∷ xs) ys all = (all.0, all_front P xs ys all.1)
