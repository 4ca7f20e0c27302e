-- The transactions that links lead from, by the places of the links.
use Rattle.std.proofs.Common.{◌≡◌, ℕ, zero, suc, ◌+◌, ◌<◌, ◌≤◌, inl, inr, List, [], ◌∷◌, ◌++◌, Some, None, length, get_or, refl, sym, ap, ◌∙◌, arith}
use Rattle.std.proofs.lemmas.Option.{none-some, same_Some}
use Rattle.velodrome.specs.Cycles.{IsIn}
use Rattle.atom_order.specs.declared.link.Link.{Link}
use Rattle.atom_order.specs.Exits.{source_at}

abbrev pub no_link : Link
no_link = record { from = 0; pair = record { earlier = 0; later = 0 } }

pub source_past : (links : List Link) (i : ℕ) → length links ≤ i → source_at links i ≡ None
source_past [] i far = refl
source_past (l ∷ links) zero far = absurd (omega arith)
source_past (l ∷ links) (suc i) far = source_past links i (omega arith)

pub source_read : (links : List Link) (i : ℕ) (d : Link) → i < length links → source_at links i ≡ Some (get_or links i d).from
source_read [] i d less = absurd (omega arith)
source_read (l ∷ links) zero d less = refl
source_read (l ∷ links) (suc i) d less = source_read links i d (omega arith)

pub source_within : (links : List Link) (i x : ℕ) → source_at links i ≡ Some x → i < length links
source_within [] i x is = absurd (none-some x is)
source_within (l ∷ links) zero x is = omega arith
source_within (l ∷ links) (suc i) x is = let less = source_within links i x is in omega arith

pub source_in : (links : List Link) (i x : ℕ) → source_at links i ≡ Some x → (l : Link) × IsIn l links × (l.from ≡ x)
source_in [] i x is = absurd (none-some x is)
source_in (l ∷ links) zero x is = (l, inl refl, same_Some l.from x is)
source_in (l ∷ links) (suc i) x is = let more = source_in links i x is in (more.0, inr more.1, more.2)

pub in_source : (links : List Link) (l : Link) → IsIn l links → (i : ℕ) × (source_at links i ≡ Some l.from)
in_source [] l h = absurd h
in_source (k ∷ links) l (inl same) = (0, ap (λ (m : Link). Some m.from) (sym same))
in_source (k ∷ links) l (inr h) = let more = in_source links l h in (suc more.0, more.1)

pub source_left : (xs ys : List Link) (i : ℕ) → i < length xs → source_at (xs ++ ys) i ≡ source_at xs i
source_left [] ys i less = absurd (omega arith)
source_left (x ∷ xs) ys zero less = refl
source_left (x ∷ xs) ys (suc i) less = source_left xs ys i (omega arith)

pub source_right : (xs ys : List Link) (i : ℕ) → source_at (xs ++ ys) (length xs + i) ≡ source_at ys i
source_right [] ys i = let e : 0 + i ≡ i = omega arith in ap (λ j. source_at ys j) e
source_right (x ∷ xs) ys i =
    let e : suc (length xs) + i ≡ suc (length xs + i) = omega arith in
    ap (λ j. source_at (x ∷ (xs ++ ys)) j) e ∙ source_right xs ys i
