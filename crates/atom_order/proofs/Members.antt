-- Membership in lists.
use Rattle.std.proofs.Common.{◌≡◌, ℕ, Bool, true, false, not, cond, ◌||◌, ◌==◌, ◌⊎◌, inl, inr, List, [], ◌∷◌, ◌++◌, refl, sym, ap, subst, ◌∙◌}
use Rattle.std.proofs.lemmas.Bool.{eq-eqb, eqb-true, or_cases, false≢true, cases_Bool}
use Rattle.std.specs.List.{AllByRecursion, filter}
use Rattle.velodrome.specs.Cycles.{IsIn}
use Rattle.atom_order.specs.Reaching.{is_among}

pub in_left : {X : Type 0} (x : X) (xs ys : List X) → IsIn x xs → IsIn x (xs ++ ys)
in_left x [] ys h = absurd h
in_left x (z ∷ xs) ys (inl e) = inl e
in_left x (z ∷ xs) ys (inr h) = inr (in_left x xs ys h)

pub in_right : {X : Type 0} (x : X) (xs ys : List X) → IsIn x ys → IsIn x (xs ++ ys)
in_right x [] ys h = h
in_right x (z ∷ xs) ys h = inr (in_right x xs ys h)

pub in_cases : {X : Type 0} (x : X) (xs ys : List X) → IsIn x (xs ++ ys) → IsIn x xs ⊎ IsIn x ys
in_cases x [] ys h = inr h
in_cases x (z ∷ xs) ys (inl e) = inl (inl e)
in_cases x (z ∷ xs) ys (inr h) = elim (in_cases x xs ys h) [ inl l ↦ inl (inr l) | inr r ↦ inr r ]

pub all_in : {X : Type 0} (P : X → Type 0) (xs : List X) (x : X) → AllByRecursion P xs → IsIn x xs → P x
all_in P [] x a h = absurd h
all_in P (y ∷ ys) x a (inl e) = subst P (sym e) a.0
all_in P (y ∷ ys) x a (inr h) = all_in P ys x a.1 h

pub in_all : {X : Type 0} (P : X → Type 0) (xs : List X) → ((x : X) → IsIn x xs → P x) → AllByRecursion P xs
in_all P [] each = tt
in_all P (y ∷ ys) each = (each y (inl refl), in_all P ys (λ x h. each x (inr h)))

pub among_from_in : (x : ℕ) (ys : List ℕ) → IsIn x ys → is_among x ys ≡ true
among_from_in x [] h = absurd h
among_from_in x (y ∷ ys) (inl e) = ap (λ b. b || is_among x ys) (eq-eqb x y e)
among_from_in x (y ∷ ys) (inr h) = ap (λ b. (x == y) || b) (among_from_in x ys h) ∙ by (x == y)
  where
    by : (b : Bool) → (b || true) ≡ true
    by true = refl
    by false = refl

pub in_from_among : (x : ℕ) (ys : List ℕ) → is_among x ys ≡ true → IsIn x ys
in_from_among x [] h = absurd (false≢true h)
in_from_among x (y ∷ ys) h =
    elim (or_cases (x == y) (is_among x ys) h) [ inl e ↦ inl (eqb-true x y e) | inr r ↦ inr (in_from_among x ys r) ]

-- ---- What a filter selects

module _ {X : Type 0} (P : X → Bool) where
  pub in_filter : (x : X) (xs : List X) → P x ≡ true → IsIn x xs → IsIn x (filter P xs)
  in_filter x [] p h = absurd h
  in_filter x (y ∷ ys) p (inl e) = subst (λ b. IsIn x (cond b (y ∷ filter P ys) (filter P ys))) (sym (ap P (sym e) ∙ p)) (inl e)
  in_filter x (y ∷ ys) p (inr h) = by (in_filter x ys p h) (P y)
    where
      by : IsIn x (filter P ys) → (b : Bool) → IsIn x (cond b (y ∷ filter P ys) (filter P ys))
      by more true = inr more
      by more false = more

  pub filter_in : (x : X) (xs : List X) → IsIn x (filter P xs) → IsIn x xs × (P x ≡ true)
  filter_in x [] h = absurd h
  filter_in x (y ∷ ys) h = by (filter_in x ys) (P y) refl h
    where
      by : (IsIn x (filter P ys) → IsIn x ys × (P x ≡ true)) → (b : Bool) → P y ≡ b → IsIn x (cond b (y ∷ filter P ys) (filter P ys))
          → IsIn x (y ∷ ys) × (P x ≡ true)
      by behind true is (inl e) = (inl e, ap P e ∙ is)
      by behind true is (inr g) = let more = behind g in (inr more.0, more.1)
      by behind false is g = let more = behind g in (inr more.0, more.1)

-- Each element is on one side of a test.
pub in_sides : {X : Type 0} (P : X → Bool) (x : X) (xs : List X) → IsIn x xs → IsIn x (filter (λ y. not (P y)) xs ++ filter P xs)
in_sides {X} P x xs h =
    elim (cases_Bool (P x)) [
      | inl is ↦ in_right x (filter (λ y. not (P y)) xs) (filter P xs) (in_filter P x xs is h)
      | inr is ↦ in_left x (filter (λ y. not (P y)) xs) (filter P xs) (in_filter (λ y. not (P y)) x xs (ap not is) h)
    ]

pub sides_in : {X : Type 0} (P : X → Bool) (x : X) (xs : List X) → IsIn x (filter (λ y. not (P y)) xs ++ filter P xs) → IsIn x xs
sides_in P x xs h =
    elim (in_cases x (filter (λ y. not (P y)) xs) (filter P xs) h) [
      | inl l ↦ (filter_in (λ y. not (P y)) x xs l).0
      | inr r ↦ (filter_in P x xs r).0
    ]
