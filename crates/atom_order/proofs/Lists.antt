-- Lists at an index, and filters.
use Rattle.std.proofs.Common.{◌≡◌, ◌≢◌, ℕ, zero, suc, ◌+◌, ◌<◌, ◌≤◌, Bool, true, false, cond, ◌||◌, ◌&&◌, ◌⊎◌, inl, inr, List, [], ◌∷◌, ◌++◌, length, drop, get_or, set, refl, sym, ap, subst, ◌∙◌, arith}
use Rattle.std.proofs.lemmas.Bool.{cases_eq, or_cases, false≢true, true≢false}
use Rattle.std.proofs.lemmas.List.{get_or_default, get_or-set_same, get_or-set_other, length-set, drop_more}
use Rattle.std.specs.List.{filter, list_any}
use Rattle.velodrome.specs.Cycles.{IsIn}
use Rattle.atom_order.specs.Reaching.{is_among}
use Rattle.atom_order.proofs.Members.{among_from_in}

pub at_in : {X : Type 0} (d : X) (xs : List X) (i : ℕ) → i < length xs → IsIn (get_or xs i d) xs
at_in d [] i h = absurd (omega arith)
at_in d (x ∷ xs) zero h = inl refl
at_in d (x ∷ xs) (suc i) h = inr (at_in d xs i (omega arith))

pub in_at : {X : Type 0} (d : X) (xs : List X) (x : X) → IsIn x xs → (i : ℕ) × (i < length xs) × (get_or xs i d ≡ x)
in_at d [] x h = absurd h
in_at d (y ∷ ys) x (inl e) = (0, omega arith, sym e)
in_at d (y ∷ ys) x (inr h) = let more = in_at d ys x h in let bound = more.1 in (suc more.0, omega arith, more.2)

-- Reading a list at an index.
pub read_at : (xs : List ℕ) (i x : ℕ) → x ≡ get_or xs i x → i < length xs → get_or xs i 0 ≡ x
read_at xs i x is less = get_or_default xs i 0 x less ∙ sym is

-- After a write, an element is the new one, or is at another index.
pub set_in : {X : Type 0} (d : X) (xs : List X) (k : ℕ) (v x : X) → IsIn x (set xs k v) → (x ≡ v) ⊎ ((j : ℕ) × (j < length xs) × (j ≢ k) × (get_or xs j d ≡ x))
set_in d xs k v x h =
    let found = in_at d (set xs k v) x h in
    let bound = found.1 in
    let long = length-set xs k v in
    let less : found.0 < length xs = omega arith in
    elim (cases_eq found.0 k) [
      | inl same ↦ inl (sym (sym (get_or-set_same xs k v d (subst (λ i. i < length xs) same less)) ∙ ap (λ i. get_or (set xs k v) i d) (sym same) ∙ found.2))
      | inr other ↦ inr (found.0, less, other, sym (get_or-set_other xs k found.0 v d other) ∙ found.2)
    ]

-- The rest of a list from an index on begins with the element there.
pub cut_at : {X : Type 0} (d : X) (i : ℕ) (x : X) (xs : List X) → i < length xs → get_or xs i d ≡ x → drop i xs ≡ x ∷ drop (i + 1) xs
cut_at d i x xs less is = drop_more xs i d less ∙ ap (λ y. y ∷ drop (i + 1) xs) is

-- ---- Filters

pub filter_append : (P : ℕ → Bool) (xs ys : List ℕ) → filter P (xs ++ ys) ≡ filter P xs ++ filter P ys
filter_append P [] ys = refl
filter_append P (x ∷ xs) ys = by (filter_append P xs ys) (P x)
  where
    by : filter P (xs ++ ys) ≡ filter P xs ++ filter P ys → (b : Bool) → cond b (x ∷ filter P (xs ++ ys)) (filter P (xs ++ ys)) ≡ cond b (x ∷ filter P xs) (filter P xs) ++ filter P ys
    by more true = ap (λ l. x ∷ l) more
    by more false = more

pub filter_all : (P : ℕ → Bool) (xs : List ℕ) → ((x : ℕ) → IsIn x xs → P x ≡ true) → filter P xs ≡ xs
filter_all P [] each = refl
filter_all P (x ∷ xs) each = ap (λ b. cond b (x ∷ filter P xs) (filter P xs)) (each x (inl refl)) ∙ ap (λ l. x ∷ l) (filter_all P xs (λ y h. each y (inr h)))

pub filter_none : (P : ℕ → Bool) (xs : List ℕ) → ((x : ℕ) → IsIn x xs → P x ≡ false) → filter P xs ≡ []
filter_none P [] each = refl
filter_none P (x ∷ xs) each = ap (λ b. cond b (x ∷ filter P xs) (filter P xs)) (each x (inl refl)) ∙ filter_none P xs (λ y h. each y (inr h))

pub filter_same : (P Q : ℕ → Bool) (xs : List ℕ) → ((x : ℕ) → IsIn x xs → P x ≡ Q x) → filter P xs ≡ filter Q xs
filter_same P Q [] each = refl
filter_same P Q (x ∷ xs) each =
    ap (λ b. cond b (x ∷ filter P xs) (filter P xs)) (each x (inl refl)) ∙ ap (λ l. cond (Q x) (x ∷ l) l) (filter_same P Q xs (λ y h. each y (inr h)))

pub filter_twice : (P Q : ℕ → Bool) (xs : List ℕ) → filter P (filter Q xs) ≡ filter (λ x. Q x && P x) xs
filter_twice P Q [] = refl
filter_twice P Q (x ∷ xs) = by (filter_twice P Q xs) (Q x)
  where
    by : filter P (filter Q xs) ≡ filter (λ y. Q y && P y) xs → (b : Bool)
        → filter P (cond b (x ∷ filter Q xs) (filter Q xs)) ≡ cond (b && P x) (x ∷ filter (λ y. Q y && P y) xs) (filter (λ y. Q y && P y) xs)
    by more true = ap (λ l. cond (P x) (x ∷ l) l) more
    by more false = more

-- The numbers of a list that are in it are all.
pub filter_own : (xs : List ℕ) → filter (λ x. is_among x xs) xs ≡ xs
filter_own xs = filter_all (λ x. is_among x xs) xs (λ x h. among_from_in x xs h)

pub length-filter : (P : ℕ → Bool) (xs : List ℕ) → length (filter P xs) ≤ length xs
length-filter P [] = omega arith
length-filter P (x ∷ xs) = by (length-filter P xs) (P x)
  where
    by : length (filter P xs) ≤ length xs → (b : Bool) → length (cond b (x ∷ filter P xs) (filter P xs)) ≤ length (x ∷ xs)
    by more true = omega arith
    by more false = omega arith

pub any_push : {X : Type 0} (test : X → Bool) (xs : List X) (x : X) → list_any test (xs ++ x ∷ []) ≡ (list_any test xs || test x)
any_push test [] x = last (test x)
  where
    last : (b : Bool) → (b || false) ≡ (false || b)
    last true = refl
    last false = refl
any_push test (y ∷ ys) x = ap (λ b. test y || b) (any_push test ys x) ∙ turned (test y) (list_any test ys) (test x)
  where
    turned : (a b c : Bool) → (a || (b || c)) ≡ ((a || b) || c)
    turned true b c = refl
    turned false b c = refl

pub any_append : {X : Type 0} (test : X → Bool) (xs ys : List X) → list_any test xs ≡ false → list_any test (xs ++ ys) ≡ list_any test ys
any_append test [] ys none = refl
any_append {X} test (x ∷ xs) ys none = by (any_append test xs ys) (test x) none
  where
    by : (list_any test xs ≡ false → list_any test (xs ++ ys) ≡ list_any test ys) → (b : Bool) → (b || list_any test xs) ≡ false → (b || list_any test (xs ++ ys)) ≡ list_any test ys
    by more true is = absurd (true≢false is)
    by more false is = more is

pub any_in : {X : Type 0} (test : X → Bool) (xs : List X) → list_any test xs ≡ true → (x : X) × IsIn x xs × (test x ≡ true)
any_in test [] is = absurd (false≢true is)
any_in test (x ∷ xs) is = elim (or_cases (test x) (list_any test xs) is) [
  | inl h ↦ (x, inl refl, h)
  | inr g ↦ let more = any_in test xs g in (more.0, inr more.1, more.2)
]

pub none_in : {X : Type 0} (test : X → Bool) (xs : List X) → list_any test xs ≡ false → (x : X) → IsIn x xs → test x ≡ false
none_in {X} test [] is x h = absurd h
none_in {X} test (y ∷ ys) is x h = by (none_in test ys) (test y) refl is h
  where
    by : (list_any test ys ≡ false → (z : X) → IsIn z ys → test z ≡ false) → (b : Bool) → test y ≡ b → (b || list_any test ys) ≡ false → (x ≡ y) ⊎ IsIn x ys → test x ≡ false
    by more true e g m = absurd (true≢false g)
    by more false e g (inl same) = ap test same ∙ e
    by more false e g (inr m) = more g x m

pub all_none : {X : Type 0} (test : X → Bool) (xs : List X) → ((x : X) → IsIn x xs → test x ≡ false) → list_any test xs ≡ false
all_none test [] each = refl
all_none test (x ∷ xs) each = ap (λ b. b || list_any test xs) (each x (inl refl)) ∙ all_none test xs (λ y h. each y (inr h))
