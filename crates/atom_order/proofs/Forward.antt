-- Orders in which links lead forward, and their parts from a transaction on.
use Rattle.std.proofs.Common.{◌≡◌, ℕ, Bool, true, false, not, cond, ◌==◌, ◌⊎◌, inl, inr, List, [], ◌∷◌, ◌++◌, refl, sym, ap, subst, ◌∙◌}
use Rattle.std.proofs.lemmas.Bool.{eqb-false, false≢true, cases_Bool, cases_eq}
use Rattle.std.proofs.lemmas.List.{append-nil}
use Rattle.std.specs.List.{filter}
use Rattle.velodrome.specs.Cycles.{IsIn}
use Rattle.atom_order.specs.declared.link.Link.{Link}
use Rattle.atom_order.specs.Keeping.{IsClosed, sides, IsKeptLive, IsLeft}
use Rattle.atom_order.specs.Reaching.{is_among, LeadForward}
use Rattle.atom_order.proofs.Members.{in_left, in_right, in_cases, among_from_in, in_from_among}
use Rattle.atom_order.proofs.Lists.{filter_append, filter_all, filter_none}
use Rattle.atom_order.proofs.Pairs.{Pairs, Differ, pairs_across}
use Rattle.atom_order.proofs.Kept.{passed_by}

pub forward_front : (into : ℕ → List Link) (xs ys : List ℕ) → LeadForward into (xs ++ ys) → LeadForward into xs
forward_front into [] ys f = tt
forward_front into (x ∷ xs) ys f = (λ l g h. f.0 l g (in_left l.from (x ∷ xs) ys h), forward_front into xs ys f.1)

pub forward_back : (into : ℕ → List Link) (xs ys : List ℕ) → LeadForward into (xs ++ ys) → LeadForward into ys
forward_back into [] ys f = f
forward_back into (x ∷ xs) ys f = forward_back into xs ys f.1

-- No link leads into the front part from the rest.
pub forward_across : (into : ℕ → List Link) (xs ys : List ℕ) (x : ℕ) (l : Link) → LeadForward into (xs ++ ys) → IsIn x xs → IsIn l (into x) → IsIn l.from ys → ⊥
forward_across into [] ys x l f h g m = absurd h
forward_across into (z ∷ xs) ys x l f (inl e) g m = f.0 l (subst (λ v. IsIn l (into v)) e g) (inr (in_right l.from xs ys m))
forward_across into (z ∷ xs) ys x l f (inr h) g m = forward_across into xs ys x l f.1 h g m

-- With fewer links they lead forward too.
pub forward_less : (into onto : ℕ → List Link) (xs : List ℕ) → ((y : ℕ) (l : Link) → IsIn y xs → IsIn l (onto y) → IsIn l (into y)) → LeadForward into xs → LeadForward onto xs
forward_less into onto [] less f = tt
forward_less into onto (x ∷ xs) less f = (λ l g h. f.0 l (less x l (inl refl) g) h, forward_less into onto xs (λ y l h g. less y l (inr h) g) f.1)

-- ---- All from a transaction on

module _ (into : ℕ → List Link) (front : List ℕ) (t : ℕ) (behind : List ℕ) (f : LeadForward into (front ++ t ∷ behind)) where
  abbrev region : List ℕ
  region = t ∷ behind

  -- If nothing needs to be searched, all from t on count as reached.
  pub all_closed : IsClosed (front ++ region) into (λ x. is_among x region)
  all_closed y l stands g is =
      elim (in_cases y front region stands) [
        | inl h ↦ absurd (forward_across into front region y l f h g (in_from_among l.from region is))
        | inr h ↦ among_from_in y region h
      ]

  pub all_apart : (l : Link) → IsIn l (into t) → is_among l.from region ≡ false
  all_apart l g = elim (cases_Bool (is_among l.from region)) [
    | inl is ↦ absurd ((forward_back into front region f).0 l g (in_from_among l.from region is))
    | inr is ↦ is
  ]

  pub all_sides : Pairs Differ (front ++ region) → sides (λ x. is_among x region) (front ++ region) ≡ front ++ region
  all_sides apart =
      let one = filter_append (λ x. not (is_among x region)) front region in
      let two = filter_append (λ x. is_among x region) front region in
      let three = filter_all (λ x. not (is_among x region)) front (λ x h. ap not (outside x h)) in
      let four = filter_none (λ x. is_among x region) front outside in
      let five = filter_none (λ x. not (is_among x region)) region (λ x h. ap not (among_from_in x region h)) in
      let six = filter_all (λ x. is_among x region) region (λ x h. among_from_in x region h) in
      ap (λ l. l ++ filter (λ x. is_among x region) (front ++ region)) (one ∙ ap (λ l. l ++ filter (λ x. not (is_among x region)) region) three ∙ ap (λ l. front ++ l) five ∙ append-nil front)
      ∙ ap (λ l. front ++ l) (two ∙ ap (λ l. l ++ filter (λ x. is_among x region) region) four ∙ six)
    where
      outside : (x : ℕ) → IsIn x front → is_among x (t ∷ behind) ≡ false
      outside x h = elim (cases_Bool (is_among x (t ∷ behind))) [
        | inl is ↦ absurd (eqb-false x x (pairs_across Differ front (t ∷ behind) apart x x h (in_from_among x (t ∷ behind) is)) refl)
        | inr is ↦ is
      ]

-- ---- If the transaction that is closed stays live, all do

pub was_open : (b v : Bool) → cond b false v ≡ true → v ≡ true
was_open true v g = absurd (false≢true g)
was_open false v g = g

pub all_left : (opens : ℕ → Bool) (into : ℕ → List Link) (live : List ℕ) (t : ℕ) → ((y : ℕ) → IsIn y live → IsKeptLive live opens into y)
    → ((y : ℕ) → opens y ≡ true → IsIn y live) → (dropped : List ℕ) (l : Link) → IsIn l (into t) → IsIn l.from live
    → IsLeft t (λ x. is_among x live) (record { dropped = dropped; live = live; is_open = opens; into = into })
all_left opens into live t held live_opens dropped link g from = record {
  closed = λ y l stands g is. among_from_in y live stands;
  opens = λ y is. among_from_in y live (live_opens y (was_open (y == t) (opens y) is));
  live = λ y h is. by y (cases_eq y t) (held y h);
}
  where
    by : (y : ℕ) → (y ≡ t) ⊎ (y ≡ t → ⊥) → IsKeptLive live opens into y
        → (cond (y == t) false (opens y) ≡ true) ⊎ ((l : Link) × IsIn l (into y) × IsIn l.from live × (is_among l.from live ≡ true))
    by y (inl same) old = inr (link, subst (λ v. IsIn link (into v)) (sym same) g, from, among_from_in link.from live from)
    by y (inr other) (inl o) = inl (passed_by y t false (opens y) other ∙ o)
    by y (inr other) (inr old) = inr (old.0, old.1, old.2, among_from_in old.0.from live old.2)
