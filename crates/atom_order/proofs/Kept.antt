-- What is kept stays right when a transaction begins, when an event is added, and when one is closed.
use Rattle.std.proofs.Common.{◌≡◌, ◌≢◌, ℕ, suc, ◌&&◌, ◌+◌, ◌<◌, ◌≤◌, Bool, true, false, not, cond, ◌==◌, ◌⊎◌, inl, inr, List, [], ◌∷◌, ◌++◌, length, refl, sym, ap, subst, ◌∙◌, arith, length-append}
use Rattle.std.proofs.lemmas.Bool.{eq-eqb, eqb-false, ne_eqb, both_ways, cases_eq, false≢true, not-true}
use Rattle.std.proofs.lemmas.List.{append_assoc, length_push}
use Rattle.std.specs.List.{filter}
use Rattle.velodrome.specs.Conflicts.{conflict}
use Rattle.velodrome.specs.Cycles.{IsIn, IsEdge}
use Rattle.velodrome.specs.Orders.{AreNumbersTo, NoneLeadsBack}
use Rattle.velodrome.specs.Transactions.{Event}
use Rattle.velodrome.specs.Verdicts.{ArePairNumbers}
use Rattle.atom_order.specs.declared.link.Link.{Link}
use Rattle.atom_order.specs.Keeping.{IsClosed, Leads, sides, IsKeptLive, Order, IsKept, with_new, with_links, IsReach, with_drop, IsLeft}
use Rattle.atom_order.specs.Reaching.{is_among, LeadForward}
use Rattle.atom_order.proofs.Members.{in_left, in_right, in_cases, all_in, in_all, in_filter, filter_in, in_sides, sides_in, among_from_in, in_from_among}
use Rattle.atom_order.proofs.Pairs.{Pairs, pairs_joined, pairs_back, pairs_across, pairs_of_all, pairs_both, pairs_sides, Differ, distinct_pairs, pairs_distinct, NotBack, order_pairs, pairs_order, differ_sides}
use Rattle.atom_order.proofs.Edges.{IsTied, edge_more, pair_within}

-- ---- Leading

pub leads_on : (live : List ℕ) (into : ℕ → List Link) (a b c : ℕ) → Leads live into a b → Leads live into b c → Leads live into a c
leads_on live into a b c p q P closed h = q P closed (p P closed h)

pub leads_to_live : (live : List ℕ) (into : ℕ → List Link) (a b : ℕ) → IsIn a live → Leads live into a b → IsIn b live
leads_to_live live into a b h leads =
    in_from_among b live (leads (λ x. is_among x live) (λ y l stands _ _. among_from_in y live stands) (among_from_in a live h))

pub leads_by_link : (live : List ℕ) (into : ℕ → List Link) (y : ℕ) (l : Link) → IsIn y live → IsIn l (into y) → Leads live into l.from y
leads_by_link live into y l h g P closed is = closed y l h g is

-- With more transactions and more links everything that led still leads.
pub leads_more : (live more : List ℕ) (into onto : ℕ → List Link) (a b : ℕ) → ((y : ℕ) → IsIn y live → IsIn y more)
    → ((y : ℕ) (l : Link) → IsIn y live → IsIn l (into y) → IsIn l (onto y)) → Leads live into a b → Leads more onto a b
leads_more live more into onto a b grows gains leads P closed h =
    leads P (λ y l stands link is. closed y l (grows y stands) (gains y l stands link) is) h

-- ---- Links lead forward

pub forward : (events : List Event) (into : ℕ → List Link) (xs : List ℕ)
    → ((y : ℕ) (l : Link) → IsIn y xs → IsIn l (into y) → (l.from ≢ y) × ArePairNumbers events l.from y l.pair)
    → Pairs (NotBack events) xs → LeadForward into xs
forward events into [] ties p = tt
forward events into (y ∷ ys) ties p = (here, forward events into ys (λ z l h g. ties z l (inr h) g) p.1)
  where
    here : (l : Link) → IsIn l (into y) → IsIn l.from (y ∷ ys) → ⊥
    here l g (inl same) = (ties y l (inl refl) g).0 same
    here l g (inr h) =
        let tie = ties y l (inl refl) g in
        all_in (NotBack events y) ys l.from p.0 h (tie.0, tie.1.0, tie.1.1, tie.1.2)

pub links_lead_forward : (events : List Event) (n : ℕ) (o : Order) → IsKept events n o → LeadForward o.into o.live
links_lead_forward events n o k = forward events o.into o.live k.ties (pairs_back (NotBack events) o.dropped o.live (order_pairs events (o.dropped ++ o.live) k.ordered))

-- ---- The two sides of a test have the same members

pub length_sides : (P : ℕ → Bool) (xs : List ℕ) → length (sides P xs) ≡ length xs
length_sides P [] = refl
length_sides P (x ∷ xs) = by (length_sides P xs) (P x)
  where
    by : length (sides P xs) ≡ length xs → (b : Bool) → length (cond (not b) (x ∷ filter (λ y. not (P y)) xs) (filter (λ y. not (P y)) xs) ++ cond b (x ∷ filter P xs) (filter P xs)) ≡ suc (length xs)
    by more true =
        let one = length-append (filter (λ y. not (P y)) xs) (x ∷ filter P xs) in
        let two = length-append (filter (λ y. not (P y)) xs) (filter P xs) in
        omega arith
    by more false = omega arith

module _ (P : ℕ → Bool) (front xs : List ℕ) where
  in_both_sides : (x : ℕ) → IsIn x (front ++ xs) → IsIn x (front ++ sides P xs)
  in_both_sides x h = elim (in_cases x front xs h) [ inl l ↦ in_left x front (sides P xs) l | inr r ↦ in_right x front (sides P xs) (in_sides P x xs r) ]

  both_sides_in : (x : ℕ) → IsIn x (front ++ sides P xs) → IsIn x (front ++ xs)
  both_sides_in x h = elim (in_cases x front (sides P xs) h) [ inl l ↦ in_left x front xs l | inr r ↦ in_right x front xs (sides_in P x xs r) ]

  numbers_sides : (n : ℕ) → AreNumbersTo n (front ++ xs) → AreNumbersTo n (front ++ sides P xs)
  numbers_sides n c = (
    length-append front (sides P xs) ∙ ap (λ m. length front + m) (length_sides P xs) ∙ sym (length-append front xs) ∙ c.0,
    pairs_distinct (front ++ sides P xs) (pairs_sides Differ P front xs (distinct_pairs (front ++ xs) c.1) (λ x y _ _ p q. differ_sides P x y p q)),
    in_all (λ k. (0 < k) × (k ≤ n)) (front ++ sides P xs) (λ x h. all_in (λ k. (0 < k) × (k ≤ n)) (front ++ xs) x c.2 (both_sides_in x h)),
  )

-- ---- Choices by number

pub chosen : {X : Type 0} (y t : ℕ) (a b : X) → y ≡ t → cond (y == t) a b ≡ a
chosen y t a b same = ap (λ c. cond c a b) (eq-eqb y t same)

pub passed_by : {X : Type 0} (y t : ℕ) (a b : X) → (y ≡ t → ⊥) → cond (y == t) a b ≡ b
passed_by y t a b other = ap (λ c. cond c a b) (ne_eqb y t other)

-- ---- A transaction begins

new_numbers : (n : ℕ) (all : List ℕ) → AreNumbersTo n all → AreNumbersTo (n + 1) (all ++ (n + 1) ∷ [])
new_numbers n all c = (
  length_push all (n + 1) ∙ ap (λ m. m + 1) c.0,
  pairs_distinct (all ++ (n + 1) ∷ []) (pairs_joined Differ all ((n + 1) ∷ []) (distinct_pairs all c.1) (tt, tt) apart),
  in_all (λ k. (0 < k) × (k ≤ n + 1)) (all ++ (n + 1) ∷ []) (λ x h. bound x (in_cases x all ((n + 1) ∷ []) h)),
)
  where
    apart : (x y : ℕ) → IsIn x all → IsIn y ((n + 1) ∷ []) → Differ x y
    apart x y h (inl same) = let small = all_in (λ k. (0 < k) × (k ≤ n)) all x c.2 h in let upper = small.1 in ne_eqb x y (λ e. omega arith)
    apart x y h (inr none) = absurd none

    bound : (x : ℕ) → IsIn x all ⊎ IsIn x ((n + 1) ∷ []) → (0 < x) × (x ≤ n + 1)
    bound x (inl h) = let small = all_in (λ k. (0 < k) × (k ≤ n)) all x c.2 h in let lower = small.0 in let upper = small.1 in (lower, omega arith)
    bound x (inr (inl same)) = (omega arith, omega arith)
    bound x (inr (inr none)) = absurd none

module _ (events : List Event) (n : ℕ) (o : Order) (k : IsKept events n o) where
  abbrev t : ℕ
  t = n + 1

  abbrev all : List ℕ
  all = o.dropped ++ o.live

  regrouped : all ++ t ∷ [] ≡ o.dropped ++ (o.live ++ t ∷ [])
  regrouped = append_assoc o.dropped o.live (t ∷ [])

  small : (x : ℕ) → IsIn x all → x ≤ n
  small x h = (all_in (λ m. (0 < m) × (m ≤ n)) all x k.counted.2 h).1

  not_new : (y : ℕ) → IsIn y o.live → y ≡ t → ⊥
  not_new y h same = let bound = small y (in_right y o.dropped o.live h) in omega arith

  none_from_new : (x : ℕ) → IsEdge events t x → ⊥
  none_from_new x d = let bound = small d.1.transaction (k.placed d.1 d.3.0) in let is = d.3.2 in omega arith

  grows : (y : ℕ) → IsIn y o.live → IsIn y (o.live ++ t ∷ [])
  grows y h = in_left y o.live (t ∷ []) h

  into_old : (y : ℕ) → IsIn y o.live → cond (y == t) [] (o.into y) ≡ o.into y
  into_old y h = passed_by y t [] (o.into y) (not_new y h)

  pub begins : IsKept events (n + 1) (with_new (n + 1) o)
  begins = record {
    numbered = k.numbered;
    counted = subst (AreNumbersTo (n + 1)) regrouped (new_numbers n all k.counted);
    ordered = subst (NoneLeadsBack events) regrouped (pairs_order events (all ++ t ∷ [])
        (pairs_joined (NotBack events) all (t ∷ []) (order_pairs events all k.ordered) (tt, tt) across));
    placed = λ e h. subst (IsIn e.transaction) regrouped (in_left e.transaction all (t ∷ []) (k.placed e h));
    opens = λ y is. opens y is (cases_eq y t);
    live = λ y h. held y (in_cases y o.live (t ∷ []) h);
    ties = λ y l h g. ties y l (in_cases y o.live (t ∷ []) h) g;
    covers = λ a b h d. covers a b d (in_cases a o.live (t ∷ []) h);
  }
    where
      across : (x y : ℕ) → IsIn x all → IsIn y (t ∷ []) → NotBack events x y
      across x y h (inl same) d = none_from_new x (subst (λ v. IsEdge events v x) same d)
      across x y h (inr none) d = none

      opens : (y : ℕ) → cond (y == t) true (o.is_open y) ≡ true → (y ≡ t) ⊎ (y ≡ t → ⊥) → IsIn y (o.live ++ t ∷ [])
      opens y is (inl same) = in_right y o.live (t ∷ []) (inl same)
      opens y is (inr other) = grows y (k.opens y (sym (passed_by y t true (o.is_open y) other) ∙ is))

      held : (y : ℕ) → IsIn y o.live ⊎ IsIn y (t ∷ []) → IsKeptLive (o.live ++ t ∷ []) (λ y. cond (y == t) true (o.is_open y)) (λ y. cond (y == t) [] (o.into y)) y
      held y (inl h) = elim (k.live y h) [
        | inl is ↦ inl (passed_by y t true (o.is_open y) (not_new y h) ∙ is)
        | inr link ↦ inr (link.0, subst (IsIn link.0) (sym (into_old y h)) link.1, grows link.0.from link.2)
      ]
      held y (inr (inl same)) = inl (chosen y t true (o.is_open y) same)
      held y (inr (inr none)) = absurd none

      ties : (y : ℕ) (l : Link) → IsIn y o.live ⊎ IsIn y (t ∷ []) → IsIn l (cond (y == t) [] (o.into y)) → (l.from ≢ y) × ArePairNumbers events l.from y l.pair
      ties y l (inl h) g = k.ties y l h (subst (IsIn l) (into_old y h) g)
      ties y l (inr (inl same)) g = absurd (subst (IsIn l) (chosen y t [] (o.into y) same) g)
      ties y l (inr (inr none)) g = absurd none

      covers : (a b : ℕ) → IsEdge events a b → IsIn a o.live ⊎ IsIn a (t ∷ []) → Leads (o.live ++ t ∷ []) (λ y. cond (y == t) [] (o.into y)) a b
      covers a b d (inl h) = leads_more o.live (o.live ++ t ∷ []) o.into (λ y. cond (y == t) [] (o.into y)) a b grows (λ y l stands g. subst (IsIn l) (sym (into_old y stands)) g) (k.covers a b h d)
      covers a b d (inr (inl same)) = absurd (none_from_new b (subst (λ v. IsEdge events v b) same d))
      covers a b d (inr (inr none)) = absurd none

-- ---- An event is added

module _ (events : List Event) (n : ℕ) (o : Order) (f : Event) (links : List Link) (P : ℕ → Bool) (k : IsKept events n o)
    (numbered : f.number ≡ length events + 1) (there : IsIn f.transaction o.live) (reach : IsReach f.transaction links P o)
    (sound : (l : Link) → IsIn l links → (l.from ≢ f.transaction) × ArePairNumbers (events ++ f ∷ []) l.from f.transaction l.pair)
    (near : (e : Event) → IsIn e events → conflict e.item f.item ≡ true → IsIn e.transaction o.live
    → (x : ℕ) × Leads o.live o.into e.transaction x × ((x ≡ f.transaction) ⊎ ((l : Link) × IsIn l links × (l.from ≡ x)))) where
  abbrev now : List Event
  now = events ++ f ∷ []

  abbrev u : ℕ
  u = f.transaction

  abbrev onto : ℕ → List Link
  onto y = cond (y == u) (o.into y ++ links) (o.into y)

  abbrev order : List ℕ
  order = o.dropped ++ sides P o.live

  behind : (e : Event) → IsIn e events → e.number < f.number
  behind e h = let bound = k.numbered e h in omega arith

  gains : (y : ℕ) (l : Link) → IsIn y o.live → IsIn l (o.into y) → IsIn l (onto y)
  gains y l stands h = by (y == u)
    where
      by : (b : Bool) → IsIn l (cond b (o.into y ++ links) (o.into y))
      by true = in_left l (o.into y) links h
      by false = h

  onto_cases : (y : ℕ) (l : Link) → IsIn l (onto y) → IsIn l (o.into y) ⊎ ((y ≡ u) × IsIn l links)
  onto_cases y l h = elim (cases_eq y u) [
    | inl same ↦ elim (in_cases l (o.into y) links (subst (IsIn l) (chosen y u (o.into y ++ links) (o.into y) same) h)) [ inl old ↦ inl old | inr new ↦ inr (same, new) ]
    | inr other ↦ inl (subst (IsIn l) (passed_by y u (o.into y ++ links) (o.into y) other) h)
  ]

  spreads : (y : ℕ) → IsIn y o.live → IsIn y (sides P o.live)
  spreads y h = in_sides P y o.live h

  leads_still : (a b : ℕ) → Leads o.live o.into a b → Leads (sides P o.live) onto a b
  leads_still a b = leads_more o.live (sides P o.live) o.into onto a b spreads gains

  link_leads : (l : Link) → IsIn l links → Leads (sides P o.live) onto l.from u
  link_leads l h = leads_by_link (sides P o.live) onto u l (spreads u there)
      (subst (IsIn l) (sym (chosen u u (o.into u ++ links) (o.into u) refl)) (in_right l (o.into u) links h))

  -- If an earlier event conflicts with the new one, its transaction leads to the new one's.
  pub leads_now : (e : Event) → IsIn e events → conflict e.item f.item ≡ true → IsIn e.transaction o.live → Leads (sides P o.live) onto e.transaction u
  leads_now e h against stands =
      let next = near e h against stands in
      elim next.2 [
        | inl same ↦ subst (λ v. Leads (sides P o.live) onto e.transaction v) same (leads_still e.transaction next.0 next.1)
        | inr link ↦
            leads_on (sides P o.live) onto e.transaction next.0 u (leads_still e.transaction next.0 next.1)
            (subst (λ v. Leads (sides P o.live) onto v u) link.2 (link_leads link.0 link.1))
      ]

  -- The new event's transaction doesn't reach one that conflicts with the event.
  tied_apart : (a : ℕ) → IsIn a o.live → a ≢ u → IsTied events f a → P a ≡ true → ⊥
  tied_apart a h other tied is = elim next.2 [
    | inl same ↦ both_ways (P next.0 && not (next.0 == u)) (subst (λ v. (P v && not (v == u)) ≡ false) (sym same) none) ends
    | inr link ↦ both_ways (P next.0) (subst (λ v. P v ≡ false) link.2 (reach.apart link.0 (inr link.1))) (first_part (P next.0) (not (next.0 == u)) ends)
  ]
    where
      first_part : (x y : Bool) → (x && y) ≡ true → x ≡ true
      first_part true y h = refl
      first_part false y h = h

      both : (x y : Bool) → x ≡ true → y ≡ false → (x && not y) ≡ true
      both x y p q = ap (λ b. b && not y) p ∙ ap (λ b. true && not b) q

      closed : IsClosed o.live o.into (λ z. P z && not (z == u))
      closed y l stands g was =
          let inside = reach.closed y l stands g (first_part (P l.from) (not (l.from == u)) was) in
          both (P y) (y == u) inside (ne_eqb y u (λ same. both_ways (P l.from) (reach.apart l (inl (subst (λ v. IsIn l (o.into v)) same g))) (first_part (P l.from) (not (l.from == u)) was)))

      next : (x : ℕ) × Leads o.live o.into a x × ((x ≡ u) ⊎ ((l : Link) × IsIn l links × (l.from ≡ x)))
      next = subst (λ v. (x : ℕ) × Leads o.live o.into v x × ((x ≡ u) ⊎ ((l : Link) × IsIn l links × (l.from ≡ x)))) tied.2
          (near tied.0 tied.1 tied.3 (subst (λ v. IsIn v o.live) (sym tied.2) h))

      ends : (P next.0 && not (next.0 == u)) ≡ true
      ends = next.1 (λ z. P z && not (z == u)) closed (both (P a) (a == u) is (ne_eqb a u other))

      none : (P u && not (u == u)) ≡ false
      none = by (P u) (u == u) (eq-eqb u u refl)
        where
          by : (x y : Bool) → y ≡ true → (x && not y) ≡ false
          by true y h = ap not h
          by false y h = refl

  -- No edge of the new event leads from y back to x.
  abbrev NotNew : ℕ → ℕ → Type 0
  NotNew x y = x ≡ u → y ≢ u → IsTied events f y → ⊥

  none_new_back : Pairs NotNew order
  none_new_back =
      pairs_joined NotNew o.dropped (sides P o.live) (pairs_of_all NotNew o.dropped (λ x y h _ same. absurd (not_dropped x h same)))
      (pairs_joined NotNew (filter (λ y. not (P y)) o.live) (filter P o.live)
      (pairs_of_all NotNew (filter (λ y. not (P y)) o.live) (λ x y h _ same. absurd (not_outside x h same)))
      (pairs_of_all NotNew (filter P o.live) (λ x y _ g same other tied. let inside = filter_in P y o.live g in tied_apart y inside.0 other tied inside.1))
      (λ x y h _ same. absurd (not_outside x h same)))
      (λ x y h _ same. absurd (not_dropped x h same))
    where
      not_outside : (x : ℕ) → IsIn x (filter (λ y. not (P y)) o.live) → x ≡ u → ⊥
      not_outside x h same = let is = (filter_in (λ y. not (P y)) x o.live h).1 in both_ways (P x) (not-true (P x) is) (ap P same ∙ reach.itself)

      not_dropped : (x : ℕ) → IsIn x o.dropped → x ≡ u → ⊥
      not_dropped x h same = eqb-false x u (pairs_across Differ o.dropped o.live (distinct_pairs (o.dropped ++ o.live) k.counted.1) x u h there) same

  ordered_now : NoneLeadsBack now order
  ordered_now = pairs_order now order (pairs_both (NotBack events) NotNew (NotBack now) order each old none_new_back)
    where
      old : Pairs (NotBack events) (o.dropped ++ sides P o.live)
      old = pairs_sides (NotBack events) P o.dropped o.live (order_pairs events (o.dropped ++ o.live) k.ordered)
          (λ x y h g p q d. both_ways (P x) p (k.covers y x g d P reach.closed q))

      each : (x y : ℕ) → IsIn x (o.dropped ++ sides P o.live) → IsIn y (o.dropped ++ sides P o.live) → NotBack events x y → NotNew x y → NotBack (events ++ f ∷ []) x y
      each x y _ _ a b d = elim (edge_more events f behind y x d) [ inl e ↦ a e | inr e ↦ b e.1 (λ same. e.0 (same ∙ sym e.1)) e.2 ]

  pub adds : IsKept (events ++ f ∷ []) n (with_links f.transaction links P o)
  adds = record {
    numbered = λ e h. numbers e (in_cases e events (f ∷ []) h);
    counted = numbers_sides P o.dropped o.live n k.counted;
    ordered = ordered_now;
    placed = λ e h. places e (in_cases e events (f ∷ []) h);
    opens = λ y is. spreads y (k.opens y is);
    live = λ y h. let old = k.live y (sides_in P y o.live h) in elim old [
      | inl is ↦ inl is
      | inr link ↦ inr (link.0, gains y link.0 (sides_in P y o.live h) link.1, spreads link.0.from link.2)
    ];
    ties = λ y l h g. ties y l (sides_in P y o.live h) (onto_cases y l g);
    covers = λ a b h d. covers a b (sides_in P a o.live h) (edge_more events f behind a b d);
  }
    where
      numbers : (e : Event) → IsIn e events ⊎ IsIn e (f ∷ []) → e.number ≤ length (events ++ f ∷ [])
      numbers e (inl h) = let bound = k.numbered e h in let more = length_push events f in omega arith
      numbers e (inr (inl same)) = let is = ap (λ (g : Event). g.number) same in let more = length_push events f in omega arith
      numbers e (inr (inr none)) = absurd none

      places : (e : Event) → IsIn e events ⊎ IsIn e (f ∷ []) → IsIn e.transaction (o.dropped ++ sides P o.live)
      places e (inl h) = in_both_sides P o.dropped o.live e.transaction (k.placed e h)
      places e (inr (inl same)) = subst (λ (g : Event). IsIn g.transaction (o.dropped ++ sides P o.live)) (sym same) (in_right f.transaction o.dropped (sides P o.live) (spreads f.transaction there))
      places e (inr (inr none)) = absurd none

      ties : (y : ℕ) (l : Link) → IsIn y o.live → IsIn l (o.into y) ⊎ ((y ≡ f.transaction) × IsIn l links) → (l.from ≢ y) × ArePairNumbers (events ++ f ∷ []) l.from y l.pair
      ties y l h (inl g) =
          let old = k.ties y l h g in
          let pair = old.1 in
          (old.0, (pair.0, pair.1, pair_within events (events ++ f ∷ []) l.from y pair.0 pair.1 (λ e i. in_left e events (f ∷ []) i) pair.2, pair.3, pair.4))
      ties y l h (inr g) = subst (λ v. (l.from ≢ v) × ArePairNumbers (events ++ f ∷ []) l.from v l.pair) (sym g.0) (sound l g.1)

      covers : (a b : ℕ) → IsIn a o.live → IsEdge events a b ⊎ ((a ≢ b) × (b ≡ f.transaction) × IsTied events f a) → Leads (sides P o.live) (λ y. cond (y == f.transaction) (o.into y ++ links) (o.into y)) a b
      covers a b h (inl d) = leads_still a b (k.covers a b h d)
      covers a b h (inr d) =
          let tied = d.2 in
          subst (λ v. Leads (sides P o.live) (λ y. cond (y == f.transaction) (o.into y ++ links) (o.into y)) a v) (sym d.1)
          (subst (λ v. Leads (sides P o.live) (λ y. cond (y == f.transaction) (o.into y ++ links) (o.into y)) v f.transaction) tied.2
          (leads_now tied.0 tied.1 tied.3 (subst (λ v. IsIn v o.live) (sym tied.2) h)))

-- ---- A transaction is closed, and what is no longer reached is dropped

module _ (events : List Event) (n : ℕ) (o : Order) (c : ℕ) (P : ℕ → Bool) (k : IsKept events n o) (left : IsLeft c P o) where
  apart_now : o.dropped ++ sides P o.live ≡ (o.dropped ++ filter (λ x. not (P x)) o.live) ++ filter P o.live
  apart_now = sym (append_assoc o.dropped (filter (λ x. not (P x)) o.live) (filter P o.live))

  -- What led among all still leads among those that are left.
  pub leads_left : (a b : ℕ) → P a ≡ true → Leads o.live o.into a b → Leads (filter P o.live) o.into a b
  leads_left a b is leads Q closed h = second (P b) (Q b) (leads (λ x. P x && Q x) whole (ap (λ v. v && Q a) is ∙ h))
    where
      second : (x y : Bool) → (x && y) ≡ true → y ≡ true
      second true y g = g
      second false y g = absurd (false≢true g)

      first : (x y : Bool) → (x && y) ≡ true → x ≡ true
      first true y g = refl
      first false y g = g

      whole : IsClosed o.live o.into (λ x. P x && Q x)
      whole y l stands g was =
          let inside = left.closed y l stands g (first (P l.from) (Q l.from) was) in
          ap (λ v. v && Q y) inside ∙ closed y l (in_filter P y o.live inside stands) g (second (P l.from) (Q l.from) was)

  pub drops : IsKept events n (with_drop c P o)
  drops = record {
    numbered = k.numbered;
    counted = subst (AreNumbersTo n) apart_now (numbers_sides P o.dropped o.live n k.counted);
    ordered = subst (NoneLeadsBack events) apart_now (pairs_order events (o.dropped ++ sides P o.live)
        (pairs_sides (NotBack events) P o.dropped o.live (order_pairs events (o.dropped ++ o.live) k.ordered)
        (λ x y h g p q d. both_ways (P x) p (k.covers y x g d P left.closed q))));
    placed = λ e h. subst (IsIn e.transaction) apart_now (in_both_sides P o.dropped o.live e.transaction (k.placed e h));
    opens = λ y is. in_filter P y o.live (left.opens y is) (k.opens y (was_open (y == c) (o.is_open y) is));
    live = λ y h. let inside = filter_in P y o.live h in elim (left.live y inside.0 inside.1) [
      | inl is ↦ inl is
      | inr link ↦ inr (link.0, link.1, in_filter P link.0.from o.live link.3 link.2)
    ];
    ties = λ y l h g. k.ties y l (filter_in P y o.live h).0 g;
    covers = λ a b h d. let inside = filter_in P a o.live h in leads_left a b inside.1 (k.covers a b inside.0 d);
  }
    where
      was_open : (b v : Bool) → cond b false v ≡ true → v ≡ true
      was_open true v g = absurd (false≢true g)
      was_open false v g = g
