-- A list that is cut at the first of a byte has one cut.
use Rattle.std.proofs.Common.{◌≡◌, ◌≢◌, ℕ, suc, ◌+◌, ◌-◌, ◌<◌, ◌==◌, nat_lt, ◌||◌, Bool, true, false, cond, List, [], ◌∷◌, ◌++◌, length, get_or, take, drop, Some, None, refl, sym, ap, ◌∙◌, arith}
use Rattle.std.specs.List.{before_first, after_first, position, position_or_len}
use Rattle.std.proofs.lemmas.Bool.{or_parts, or_from, ltb-true, eqb-true, eqb-false, eq-eqb, true≢false}
use Rattle.std.proofs.lemmas.List.{take_rest}
use Rattle.std.proofs.lemmas.List.Sums.{split_at_first, passes_at_first}
use Rattle.std.proofs.lemmas.Option.{cond_some}
use Rattle.jvms_file.proofs.DescriptorLaws.{any_is_inside}
use Rattle.escapes.specs.Cuts.{has, IsCut, IsCutTwice}

one-plus : (n : ℕ) → 1 + n ≡ suc n
one-plus n = omega arith

none_if : (any inside : Bool) (place : ℕ) → any ≡ inside → cond inside (Some place) None ≡ None → any ≡ false
none_if any true place same none = absurd cc
none_if any false place same none = same

-- Without a place there is no such byte.
pub no_place : (b : ℕ) (xs : List ℕ) → position (λ x. x == b) xs ≡ None → has b xs ≡ false
no_place b xs e =
    none_if (has b xs) (nat_lt (position_or_len (λ x. x == b) xs) (length xs)) (position_or_len (λ x. x == b) xs) (any_is_inside (λ x. x == b) xs) e

-- Before the first such byte there is none.
clear_step : (b x : ℕ) (xs : List ℕ) (is : Bool) → (x == b) ≡ is → has b (take (position_or_len (λ y. y == b) xs) xs) ≡ false → has b (take (position_or_len (λ y. y == b) (x ∷ xs)) (x ∷ xs)) ≡ false
clear_step b x xs true e further = rw e refl
clear_step b x xs false e further = rw (e, one-plus (position_or_len (λ y. y == b) xs)) (or_from (x == b) (has b (take (position_or_len (λ y. y == b) xs) xs)) e further)

clear_before : (b : ℕ) (xs : List ℕ) → has b (take (position_or_len (λ x. x == b) xs) xs) ≡ false
clear_before b [] = refl
clear_before b (x ∷ xs) = clear_step b x xs (x == b) refl (clear_before b xs)

-- The list is the part before the first such byte, the byte, and the part after it.
pub place_cuts : (b : ℕ) (xs : List ℕ) (place : ℕ) → position (λ x. x == b) xs ≡ Some place → IsCut b xs (Some (take place xs, take (length xs - (place + 1)) (drop (place + 1) xs)))
place_cuts b xs place e =
    let both = cond_some (nat_lt (position_or_len (λ x. x == b) xs) (length xs)) (position_or_len (λ x. x == b) xs) place e in
    let inside : position_or_len (λ x. x == b) xs < length xs = ltb-true (position_or_len (λ x. x == b) xs) (length xs) both.0 in
    let whole = split_at_first (λ x. x == b) xs 0 inside in
    let byte = eqb-true (get_or xs (position_or_len (λ x. x == b) xs) 0) b (passes_at_first (λ x. x == b) xs 0 inside) in
    rw (take_rest xs (place + 1), ← both.1) (whole ∙ ap (λ (x : ℕ). before_first (λ y. y == b) xs ++ x ∷ after_first (λ y. y == b) xs) byte, clear_before b xs)

-- ---- The uniqueness of a split

head_is : (x y : ℕ) (xs ys : List ℕ) → x ∷ xs ≡ y ∷ ys → (x ≡ y) × (xs ≡ ys)
head_is x y xs ys e = (cc, cc)

not_first : (b x : ℕ) (xs : List ℕ) → has b (x ∷ xs) ≡ false → b ≡ x → ⊥
not_first b x xs none same =
    let both = or_parts (x == b) (has b xs) none in
    eqb-false x b both.0 (sym same)

behind_first : (b x : ℕ) (xs : List ℕ) → has b (x ∷ xs) ≡ false → has b xs ≡ false
behind_first b x xs none = (or_parts (x == b) (has b xs) none).1

-- A list that is split at a byte that neither front has is split at one place.
pub one_cut : (b : ℕ) (xs ys us vs : List ℕ) → has b xs ≡ false → has b us ≡ false → xs ++ b ∷ ys ≡ us ++ b ∷ vs → (xs ≡ us) × (ys ≡ vs)
one_cut b [] ys [] vs left right e = (refl, (head_is b b ys vs e).1)
one_cut b [] ys (u ∷ us) vs left right e = absurd (not_first b u us right (head_is b u ys (us ++ b ∷ vs) e).0)
one_cut b (x ∷ xs) ys [] vs left right e = absurd (not_first b x xs left (sym (head_is x b (xs ++ b ∷ ys) vs e).0))
one_cut b (x ∷ xs) ys (u ∷ us) vs left right e =
    let parts = head_is x u (xs ++ b ∷ ys) (us ++ b ∷ vs) e in
    let rest = one_cut b xs ys us vs (behind_first b x xs left) (behind_first b u us right) parts.1 in
    (cc, rest.1)

-- ---- Two splits

or_true : (b : Bool) → (b || true) ≡ true
or_true true = refl
or_true false = refl

has_between : (b : ℕ) (xs ys : List ℕ) → has b (xs ++ b ∷ ys) ≡ true
has_between b [] ys = rw (eq-eqb b b refl) refl
has_between b (x ∷ xs) ys = rw (has_between b xs ys) (or_true (x == b))

-- A list without such a byte isn't split at one.
pub no_first : (b : ℕ) (bytes xs ys : List ℕ) → has b bytes ≡ false → bytes ≢ xs ++ b ∷ ys
no_first b bytes xs ys none e = true≢false (sym (has_between b xs ys) ∙ ap (has b) (sym e) ∙ none)

pub none_at_all : (b : ℕ) (bytes : List ℕ) → has b bytes ≡ false → IsCutTwice b bytes None
none_at_all b bytes none xs ys zs left right e = no_first b bytes xs (ys ++ b ∷ zs) none e

pub none_behind : (b : ℕ) (bytes first behind : List ℕ) → bytes ≡ first ++ b ∷ behind → has b first ≡ false → has b behind ≡ false → IsCutTwice b bytes None
none_behind b bytes first behind whole before none xs ys zs left right e =
    let parts = one_cut b first behind xs (ys ++ b ∷ zs) before left (sym whole ∙ e) in
    no_first b behind ys zs none parts.1

pub cuts_join : (b : ℕ) (bytes first behind second third : List ℕ) → bytes ≡ first ++ b ∷ behind → behind ≡ second ++ b ∷ third → bytes ≡ first ++ b ∷ (second ++ b ∷ third)
cuts_join b bytes first behind second third whole rest = whole ∙ ap (λ (x : List ℕ). first ++ b ∷ x) rest
