-- Some numbers of a list, in its order.
use Rattle.std.proofs.Common.{◌≡◌, ℕ, true, false, cond, ◌||◌, ◌==◌, ◌⊎◌, inl, inr, List, [], ◌∷◌, ◌++◌, refl, sym, ap, ◌∙◌}
use Rattle.std.proofs.lemmas.Bool.{cases_Bool, eq-eqb, eqb-false, ne_eqb}
use Rattle.std.specs.List.{filter}
use Rattle.velodrome.specs.Cycles.{IsIn}
use Rattle.atom_order.specs.Reaching.{is_among, ArePart}
use Rattle.atom_order.proofs.Lists.{filter_none, filter_same}
use Rattle.atom_order.proofs.Members.{in_right, all_in, in_from_among}
use Rattle.atom_order.proofs.Pairs.{Pairs, Differ}

-- The first list is the second one without some.
abbrev pub IsSub : List ℕ → List ℕ → Type 0
IsSub [] ys = Unit {0}
IsSub (x ∷ xs) [] = ⊥
IsSub (x ∷ xs) (y ∷ ys) = ((x ≡ y) × IsSub xs ys) ⊎ IsSub (x ∷ xs) ys

pub sub_in : (xs ys : List ℕ) (z : ℕ) → IsSub xs ys → IsIn z xs → IsIn z ys
sub_in [] ys z sub h = absurd h
sub_in (x ∷ xs) [] z sub h = absurd sub
sub_in (x ∷ xs) (y ∷ ys) z (inl s) (inl e) = inl (e ∙ s.0)
sub_in (x ∷ xs) (y ∷ ys) z (inl s) (inr h) = inr (sub_in xs ys z s.1 h)
sub_in (x ∷ xs) (y ∷ ys) z (inr s) h = inr (sub_in (x ∷ xs) ys z s h)

sub_one : (ys : List ℕ) (x : ℕ) → IsIn x ys → IsSub (x ∷ []) ys
sub_one [] x h = absurd h
sub_one (y ∷ ys) x (inl e) = inl (e, tt)
sub_one (y ∷ ys) x (inr h) = inr (sub_one ys x h)

-- One more is after the others.
pub sub_end : (xs ys zs : List ℕ) (x : ℕ) → IsSub xs ys → IsIn x zs → IsSub (xs ++ x ∷ []) (ys ++ zs)
sub_end [] ys zs x sub h = sub_one (ys ++ zs) x (in_right x ys zs h)
sub_end (a ∷ xs) [] zs x sub h = absurd sub
sub_end (a ∷ xs) (y ∷ ys) zs x (inl s) h = inl (s.0, sub_end xs ys zs x s.1 h)
sub_end (a ∷ xs) (y ∷ ys) zs x (inr s) h = inr (sub_end (a ∷ xs) ys zs x s h)

pub sub_more : (xs ys zs : List ℕ) → IsSub xs ys → IsSub xs (ys ++ zs)
sub_more [] ys zs sub = tt
sub_more (x ∷ xs) [] zs sub = absurd sub
sub_more (x ∷ xs) (y ∷ ys) zs (inl s) = inl (s.0, sub_more xs ys zs s.1)
sub_more (x ∷ xs) (y ∷ ys) zs (inr s) = inr (sub_more (x ∷ xs) ys zs s)

pub sub_part : (xs ys : List ℕ) → Pairs Differ ys → IsSub xs ys → ArePart xs ys
sub_part [] ys apart sub = sym (filter_none (λ x. is_among x []) ys (λ x h. refl))
sub_part (x ∷ xs) [] apart sub = absurd sub
sub_part (x ∷ xs) (y ∷ ys) apart (inl s) =
    ap (λ z. z ∷ xs) s.0
    ∙ ap (λ l. y ∷ l) (sub_part xs ys apart.1 s.1 ∙ filter_same (λ z. is_among z xs) (λ z. is_among z (x ∷ xs)) ys (λ z h. ap (λ b. b || is_among z xs) (sym (apart_from z h))))
    ∙ sym (ap (λ b. cond (b || is_among y xs) (y ∷ filter (λ z. is_among z (x ∷ xs)) ys) (filter (λ z. is_among z (x ∷ xs)) ys)) (eq-eqb y x (sym s.0)))
  where
    apart_from : (z : ℕ) → IsIn z ys → (z == x) ≡ false
    apart_from z h = ne_eqb z x (λ same. eqb-false y z (all_in (Differ y) ys z apart.0 h) (sym s.0 ∙ sym same))
sub_part (x ∷ xs) (y ∷ ys) apart (inr s) =
    sub_part (x ∷ xs) ys apart.1 s ∙ sym (ap (λ b. cond b (y ∷ filter (λ z. is_among z (x ∷ xs)) ys) (filter (λ z. is_among z (x ∷ xs)) ys)) (not_in (cases_Bool (is_among y (x ∷ xs)))))
  where
    not_in : (is_among y (x ∷ xs) ≡ true) ⊎ (is_among y (x ∷ xs) ≡ false) → is_among y (x ∷ xs) ≡ false
    not_in (inl is) = absurd (eqb-false y y (all_in (Differ y) ys y apart.0 (sub_in (x ∷ xs) ys y s (in_from_among y (x ∷ xs) is))) refl)
    not_in (inr is) = is
