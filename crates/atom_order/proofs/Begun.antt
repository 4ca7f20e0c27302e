-- What is kept after a transaction begins with its first event.
use Rattle.std.proofs.Common.{◌≡◌, ◌≢◌, ℕ, ◌+◌, Bool, true, false, not, cond, ◌==◌, ◌&&◌, ◌||◌, ◌⊎◌, inl, inr, List, [], ◌∷◌, ◌++◌, length, get_or, refl, sym, ap, subst, ◌∙◌, arith}
use Rattle.std.proofs.lemmas.Bool.{cases_Bool, cases_eq, cases_lt, ne_eqb, eqb-false, and_parts, and_from, false≢true, not-true}
use Rattle.std.proofs.lemmas.List.{get_or_append_left, get_or_push, get_or_past, length_push, append-nil}
use Rattle.std.specs.List.{filter}
use Rattle.velodrome.specs.Conflicts.{conflict}
use Rattle.velodrome.specs.Cycles.{IsIn}
use Rattle.velodrome.specs.Transactions.{Event}
use Rattle.velodrome.specs.Verdicts.{ArePairNumbers}
use Rattle.atom_order.specs.declared.link.Link.{Link}
use Rattle.atom_order.specs.Keeping.{Order, IsKept, Leads, IsKeptLive, IsReach, IsLeft, with_new, with_links, with_drop}
use Rattle.atom_order.specs.Reaching.{is_among, LeadForward}
use Rattle.atom_order.specs.Shapes.{Shape, order_of, open_in, into_in, shape_after_begin, live_links, is_empty, IsUsable}
use Rattle.atom_order.proofs.Members.{in_left, in_right, in_cases, in_filter, filter_in, among_from_in, in_from_among}
use Rattle.atom_order.proofs.Pairs.{Pairs, Differ, pairs_across}
use Rattle.atom_order.proofs.Kept.{chosen, passed_by, begins, adds, drops, leads_on, leads_by_link, leads_more, links_lead_forward}
use Rattle.atom_order.proofs.Reached.{live_apart}
use Rattle.atom_order.proofs.Lists.{filter_append, filter_all, filter_none}
use Rattle.atom_order.proofs.Forward.{all_closed, all_apart, all_sides, all_left}
use Rattle.atom_order.proofs.Same.{kept_alike, usable_of_kept}

-- ---- The links from live transactions other than one

pub live_link_is : (t : ℕ) (live : List ℕ) (links : List Link) (l : Link) → IsIn l (live_links t live links) → IsIn l links × IsIn l.from live × (l.from ≢ t)
live_link_is t live links l h =
    let found = filter_in (λ (k : Link). is_among k.from live && not (k.from == t)) l links h in
    let parts = and_parts (is_among l.from live) (not (l.from == t)) found.1 in
    (found.0, in_from_among l.from live parts.0, eqb-false l.from t (not-true (l.from == t) parts.1))

pub in_live_links : (t : ℕ) (live : List ℕ) (links : List Link) (l : Link) → IsIn l links → IsIn l.from live → l.from ≢ t → IsIn l (live_links t live links)
in_live_links t live links l h stands other =
    in_filter (λ (k : Link). is_among k.from live && not (k.from == t)) l links
    (and_from (is_among l.from live) (not (l.from == t)) (among_from_in l.from live stands) (ap not (ne_eqb l.from t other))) h

-- ---- One more slot

pub get_or_more : {X : Type 0} (xs : List X) (x d : X) (y : ℕ) → get_or (xs ++ x ∷ []) y d ≡ cond (y == length xs) x (get_or xs y d)
get_or_more {X} xs x d y = elim (cases_eq y (length xs)) [
  | inl same ↦ get_or_push xs x d y (sym same) ∙ sym (chosen y (length xs) x (get_or xs y d) same)
  | inr other ↦ elim (cases_lt y (length xs)) [
    | inl less ↦ get_or_append_left xs (x ∷ []) d y less ∙ sym (passed_by y (length xs) x (get_or xs y d) other)
    | inr more ↦
        let long = length_push xs x in
        get_or_past (xs ++ x ∷ []) y d (elim (cases_lt (length xs) y) [ inl far ↦ omega arith | inr near ↦ absurd (other (omega arith)) ])
        ∙ sym (get_or_past xs y d more) ∙ sym (passed_by y (length xs) x (get_or xs y d) other)
  ]
]

-- Which transactions are open after one begins, if each has a slot.
pub begun_open : (is_open : Bool) (links : List Link) (s : Shape) → length s.is_open ≡ length s.into → (y : ℕ)
    → open_in (shape_after_begin is_open links s) y ≡ cond (y == length s.into) is_open (open_in s y)
begun_open is_open links s fits y = get_or_more s.is_open is_open false y ∙ ap (λ m. cond (y == m) is_open (get_or s.is_open y false)) fits

pub begun_into : (is_open : Bool) (links : List Link) (s : Shape) (y : ℕ) → into_in (shape_after_begin is_open links s) y ≡ cond (y == length s.into) links (into_in s y)
begun_into is_open links s y = get_or_more s.into links [] y

pub begun_slots : (is_open : Bool) (links : List Link) (s : Shape) (n : ℕ) → length s.into ≡ n + 1 → length (shape_after_begin is_open links s).into ≡ n + 2
begun_slots is_open links s n long = length_push s.into links ∙ (let e = long in omega arith)

pub begun_fits : (is_open : Bool) (links : List Link) (s : Shape) → length s.is_open ≡ length s.into → length (shape_after_begin is_open links s).is_open ≡ length (shape_after_begin is_open links s).into
begun_fits is_open links s fits = length_push s.is_open is_open ∙ ap (λ m. m + 1) fits ∙ sym (length_push s.into links)

-- Live transactions stay live, and only the new one may be added.
pub begun_live : (is_open : Bool) (links : List Link) (s : Shape) (y : ℕ) → IsIn y s.live → IsIn y (shape_after_begin is_open links s).live
begun_live is_open links s y h = by (is_open || not (is_empty links))
  where
    by : (b : Bool) → IsIn y (cond b (s.live ++ length s.into ∷ []) s.live)
    by true = in_left y s.live (length s.into ∷ []) h
    by false = h

pub begun_was_live : (is_open : Bool) (links : List Link) (s : Shape) (y : ℕ) → IsIn y (shape_after_begin is_open links s).live → IsIn y s.live ⊎ (y ≡ length s.into)
begun_was_live is_open links s y h = by (is_open || not (is_empty links)) h
  where
    last : IsIn y s.live ⊎ IsIn y (length s.into ∷ []) → IsIn y s.live ⊎ (y ≡ length s.into)
    last (inl old) = inl old
    last (inr (inl same)) = inr same
    last (inr (inr none)) = absurd none

    by : (b : Bool) → IsIn y (cond b (s.live ++ length s.into ∷ []) s.live) → IsIn y s.live ⊎ (y ≡ length s.into)
    by true g = last (in_cases y s.live (length s.into ∷ []) g)
    by false g = inl g

-- The new one is live if it is open or has a link.
pub new_is_live : (is_open : Bool) (links : List Link) (s : Shape) → (is_open ≡ true) ⊎ ((l : Link) × IsIn l links) → IsIn (length s.into) (shape_after_begin is_open links s).live
new_is_live true links s h = in_right (length s.into) s.live (length s.into ∷ []) (inl refl)
new_is_live false [] s (inl is) = absurd (false≢true is)
new_is_live false [] s (inr link) = absurd link.1
new_is_live false (l ∷ links) s h = in_right (length s.into) s.live (length s.into ∷ []) (inl refl)

-- ---- What the graph keeps

module _ (events : List Event) (n : ℕ) (s : Shape) (f : Event) (links : List Link) (k : IsKept events n (order_of s))
    (fits : length s.is_open ≡ length s.into) (long : length s.into ≡ n + 1) (newest : f.transaction ≡ n + 1) (numbered : f.number ≡ length events + 1)
    (sound : (l : Link) → IsIn l links → (l.from ≢ f.transaction) × ArePairNumbers (events ++ f ∷ []) l.from f.transaction l.pair)
    (from_live : (l : Link) → IsIn l links → IsIn l.from s.live)
    (near : (e : Event) → IsIn e events → conflict e.item f.item ≡ true → IsIn e.transaction s.live
    → (x : ℕ) × Leads s.live (into_in s) e.transaction x × ((x ≡ f.transaction) ⊎ ((l : Link) × IsIn l links × (l.from ≡ x)))) where
  abbrev t : ℕ
  t = f.transaction

  abbrev now : List Event
  now = events ++ f ∷ []

  abbrev all : List ℕ
  all = s.live ++ t ∷ []

  abbrev new : Order
  new = with_new t (order_of s)

  -- The new transaction is open and last, with its links.
  abbrev with_event : Order
  with_event = record {
    dropped = s.dropped;
    live = s.live ++ f.transaction ∷ [];
    is_open = λ y. cond (y == f.transaction) true (open_in s y);
    into = λ y. cond (y == f.transaction) links (into_in s y);
  }

  slot : t ≡ length s.into
  slot = newest ∙ sym long

  kept_new : IsKept events (n + 1) (with_new f.transaction (order_of s))
  kept_new = subst (λ v. IsKept events (n + 1) (with_new v (order_of s))) (sym newest) (begins events n (order_of s) k)

  new_forward : LeadForward new.into (s.live ++ t ∷ [])
  new_forward = links_lead_forward events (n + 1) new kept_new

  new_apart : Pairs Differ (s.live ++ t ∷ [])
  new_apart = live_apart events (n + 1) new kept_new

  not_live : IsIn f.transaction s.live → ⊥
  not_live h = eqb-false f.transaction f.transaction (pairs_across Differ s.live (f.transaction ∷ []) new_apart f.transaction f.transaction h (inl refl)) refl

  other : (y : ℕ) → IsIn y s.live → y ≡ f.transaction → ⊥
  other y h same = not_live (subst (λ v. IsIn v s.live) same h)

  reach : IsReach f.transaction links (λ x. is_among x (f.transaction ∷ [])) (with_new f.transaction (order_of s))
  reach = record {
    itself = among_from_in t (t ∷ []) (inl refl);
    closed = all_closed new.into s.live t [] new_forward;
    apart = λ l h. elim h [
      | inl g ↦ all_apart new.into s.live t [] new_forward l g
      | inr g ↦ ap (λ b. b || false) (ne_eqb l.from t (sound l g).0)
    ];
  }

  near_new : (e : Event) → IsIn e events → conflict e.item f.item ≡ true → IsIn e.transaction (s.live ++ f.transaction ∷ [])
      → (x : ℕ) × Leads (s.live ++ f.transaction ∷ []) (with_new f.transaction (order_of s)).into e.transaction x
      × ((x ≡ f.transaction) ⊎ ((l : Link) × IsIn l links × (l.from ≡ x)))
  near_new e h against stands = elim (in_cases e.transaction s.live (t ∷ []) stands) [
    | inl old ↦
        let next = near e h against old in (
          next.0,
          leads_more s.live all (into_in s) new.into e.transaction next.0 (λ y g. in_left y s.live (t ∷ []) g)
              (λ y l g m. subst (IsIn l) (sym (passed_by y t [] (into_in s y) (other y g))) m) next.1,
          next.2,
        )
    | inr same ↦ (f.transaction, by same, inl refl)
  ]
    where
      by : IsIn e.transaction (f.transaction ∷ []) → Leads (s.live ++ f.transaction ∷ []) (with_new f.transaction (order_of s)).into e.transaction f.transaction
      by (inl same) = subst (λ v. Leads all new.into e.transaction v) same (λ P closed is. is)
      by (inr none) = absurd none

  kept_event : IsKept (events ++ f ∷ []) (n + 1) with_event
  kept_event =
      kept_alike now (n + 1) (with_links t links (λ x. is_among x (t ∷ [])) new) with_event
      (record {
        dropped = refl;
        live = sym (all_sides new.into s.live t [] new_forward new_apart);
        is_open = λ y. refl;
        into = λ y _. onto (y == t) (into_in s y);
      })
      (adds events (n + 1) new f links (λ x. is_among x (t ∷ [])) kept_new numbered (in_right t s.live (t ∷ []) (inl refl)) reach sound near_new)
    where
      onto : (b : Bool) (old : List Link) → cond b links old ≡ cond b (cond b [] old ++ links) (cond b [] old)
      onto true old = refl
      onto false old = refl

  -- ---- It is open

  begun_kept_open : IsKept (events ++ f ∷ []) (n + 1) (order_of (shape_after_begin true links s))
  begun_kept_open =
      kept_alike now (n + 1) with_event (order_of (shape_after_begin true links s))
      (record {
        dropped = refl;
        live = ap (λ m. s.live ++ m ∷ []) (sym slot);
        is_open = λ y. begun_open true links s fits y ∙ ap (λ m. cond (y == m) true (open_in s y)) (sym slot);
        into = λ y _. begun_into true links s y ∙ ap (λ m. cond (y == m) links (into_in s y)) (sym slot);
      })
      kept_event

  -- ---- It is closed, and a link keeps it live

  closed_at_once : (y : ℕ) → cond (y == t) false (open_in s y) ≡ cond (y == t) false (cond (y == t) true (open_in s y))
  closed_at_once y = by (y == t) (open_in s y)
    where
      by : (b v : Bool) → cond b false v ≡ cond b false (cond b true v)
      by true v = refl
      by false v = refl

  held_left : (l : Link) → IsIn l links → IsLeft f.transaction (λ x. is_among x (s.live ++ f.transaction ∷ [])) with_event
  held_left l h =
      all_left with_event.is_open with_event.into all t kept_event.live kept_event.opens s.dropped l
      (subst (IsIn l) (sym (chosen t t links (into_in s t) refl)) h) (in_left l.from s.live (t ∷ []) (from_live l h))

  abbrev begun_held : Order
  begun_held = record {
    dropped = s.dropped;
    live = s.live ++ length s.into ∷ [];
    is_open = λ y. get_or (s.is_open ++ false ∷ []) y false;
    into = λ y. get_or (s.into ++ links ∷ []) y [];
  }

  begun_kept_held : (l : Link) → IsIn l links → IsKept (events ++ f ∷ []) (n + 1) begun_held
  begun_kept_held l h =
      kept_alike now (n + 1) (with_drop t (λ x. is_among x all) with_event) begun_held
      (record {
        dropped = sym (append-nil s.dropped) ∙ ap (λ d. s.dropped ++ d) (sym (filter_none (λ x. not (is_among x all)) all (λ x g. ap not (among_from_in x all g))));
        live = ap (λ m. s.live ++ m ∷ []) (sym slot) ∙ sym (filter_all (λ x. is_among x all) all (λ x g. among_from_in x all g));
        is_open = λ y. begun_open false links s fits y ∙ ap (λ m. cond (y == m) false (open_in s y)) (sym slot) ∙ closed_at_once y;
        into = λ y _. begun_into false links s y ∙ ap (λ m. cond (y == m) links (into_in s y)) (sym slot);
      })
      (drops now (n + 1) with_event t (λ x. is_among x all) kept_event (held_left l h))

  -- ---- It is closed, and nothing keeps it live

  abbrev begun_dropped : Order
  begun_dropped = record {
    dropped = s.dropped ++ length s.into ∷ [];
    live = s.live;
    is_open = λ y. get_or (s.is_open ++ false ∷ []) y false;
    into = λ y. get_or (s.into ++ links ∷ []) y [];
  }

  loose_left : links ≡ [] → IsLeft f.transaction (λ x. is_among x s.live) with_event
  loose_left none = record {
    closed = λ y l stands g _. closed y l (in_cases y s.live (f.transaction ∷ []) stands) g;
    opens = λ y is. among_from_in y s.live (k.opens y (opens y (cases_eq y f.transaction) is));
    live = λ y _ is. held y (in_from_among y s.live is) (k.live y (in_from_among y s.live is));
  }
    where
      closed : (y : ℕ) (l : Link) → IsIn y s.live ⊎ IsIn y (f.transaction ∷ []) → IsIn l (cond (y == f.transaction) links (into_in s y)) → is_among y s.live ≡ true
      closed y l (inl h) g = among_from_in y s.live h
      closed y l (inr (inl same)) g = absurd (subst (IsIn l) (chosen y f.transaction links (into_in s y) same ∙ none) g)
      closed y l (inr (inr nothing)) g = absurd nothing

      opens : (y : ℕ) → (y ≡ f.transaction) ⊎ (y ≡ f.transaction → ⊥) → cond (y == f.transaction) false (cond (y == f.transaction) true (open_in s y)) ≡ true → open_in s y ≡ true
      opens y (inl same) is = absurd (false≢true (sym (chosen y f.transaction false (cond (y == f.transaction) true (open_in s y)) same) ∙ is))
      opens y (inr apart) is =
          sym (passed_by y f.transaction true (open_in s y) apart) ∙ sym (passed_by y f.transaction false (cond (y == f.transaction) true (open_in s y)) apart) ∙ is

      held : (y : ℕ) → IsIn y s.live → IsKeptLive s.live (open_in s) (into_in s) y
          → (cond (y == f.transaction) false (cond (y == f.transaction) true (open_in s y)) ≡ true)
          ⊎ ((l : Link) × IsIn l (cond (y == f.transaction) links (into_in s y)) × IsIn l.from (s.live ++ f.transaction ∷ []) × (is_among l.from s.live ≡ true))
      held y h (inl is) = inl (passed_by y f.transaction false (cond (y == f.transaction) true (open_in s y)) (other y h) ∙ passed_by y f.transaction true (open_in s y) (other y h) ∙ is)
      held y h (inr link) = inr (
        link.0,
        subst (IsIn link.0) (sym (passed_by y f.transaction links (into_in s y) (other y h))) link.1,
        in_left link.0.from s.live (f.transaction ∷ []) link.2,
        among_from_in link.0.from s.live link.2,
      )

  not_among : is_among f.transaction s.live ≡ false
  not_among = elim (cases_Bool (is_among t s.live)) [ inl is ↦ absurd (not_live (in_from_among t s.live is)) | inr is ↦ is ]

  live_kept : filter (λ x. is_among x s.live) (s.live ++ f.transaction ∷ []) ≡ s.live
  live_kept =
      filter_append (λ x. is_among x s.live) s.live (t ∷ [])
      ∙ ap (λ l. l ++ filter (λ x. is_among x s.live) (t ∷ [])) (filter_all (λ x. is_among x s.live) s.live (λ x h. among_from_in x s.live h))
      ∙ ap (λ l. s.live ++ l) (ap (λ b. cond b (t ∷ []) []) not_among) ∙ append-nil s.live

  new_dropped : filter (λ x. not (is_among x s.live)) (s.live ++ f.transaction ∷ []) ≡ f.transaction ∷ []
  new_dropped =
      filter_append (λ x. not (is_among x s.live)) s.live (t ∷ [])
      ∙ ap (λ l. l ++ filter (λ x. not (is_among x s.live)) (t ∷ [])) (filter_none (λ x. not (is_among x s.live)) s.live (λ x h. ap not (among_from_in x s.live h)))
      ∙ ap (λ b. cond (not b) (t ∷ []) []) not_among

  begun_kept_dropped : links ≡ [] → IsKept (events ++ f ∷ []) (n + 1) begun_dropped
  begun_kept_dropped none =
      kept_alike now (n + 1) (with_drop t (λ x. is_among x s.live) with_event) begun_dropped
      (record {
        dropped = ap (λ m. s.dropped ++ m ∷ []) (sym slot) ∙ ap (λ d. s.dropped ++ d) (sym new_dropped);
        live = sym live_kept;
        is_open = λ y. begun_open false links s fits y ∙ ap (λ m. cond (y == m) false (open_in s y)) (sym slot) ∙ closed_at_once y;
        into = λ y _. begun_into false links s y ∙ ap (λ m. cond (y == m) links (into_in s y)) (sym slot);
      })
      (drops now (n + 1) with_event t (λ x. is_among x s.live) kept_event (loose_left none))

  -- ---- All three

  by_links : (now_links : List Link) → now_links ≡ links → IsKept (events ++ f ∷ []) (n + 1) (order_of (shape_after_begin false now_links s))
  by_links [] same = subst (λ v. IsKept now (n + 1) (record begun_dropped { into = λ y. get_or (s.into ++ v ∷ []) y [] })) (sym same) (begun_kept_dropped (sym same))
  by_links (l ∷ more) same =
      subst (λ v. IsKept now (n + 1) (record begun_held { into = λ y. get_or (s.into ++ v ∷ []) y [] })) (sym same) (begun_kept_held l (subst (IsIn l) same (inl refl)))

  pub begun_kept : (is_open : Bool) → IsKept (events ++ f ∷ []) (n + 1) (order_of (shape_after_begin is_open links s))
  begun_kept true = begun_kept_open
  begun_kept false = by_links links refl

  pub begun_usable : (is_open : Bool) → IsUsable (shape_after_begin is_open links s)
  begun_usable is_open = usable_of_kept now (n + 1) (shape_after_begin is_open links s) (begun_kept is_open)

  -- What led before still leads.
  pub begun_leads : (is_open : Bool) (a b : ℕ) → Leads s.live (into_in s) a b → Leads (shape_after_begin is_open links s).live (into_in (shape_after_begin is_open links s)) a b
  begun_leads is_open a b =
      leads_more s.live (shape_after_begin is_open links s).live (into_in s) (into_in (shape_after_begin is_open links s)) a b (begun_live is_open links s)
      (λ y l h g. subst (IsIn l) (sym (begun_into is_open links s y ∙ passed_by y (length s.into) links (into_in s y) (λ same. other y h (same ∙ sym slot)))) g)

  -- If an earlier event conflicts with the new one, its transaction leads to the new one's.
  pub begun_leads_now : (is_open : Bool) (e : Event) → IsIn e events → conflict e.item f.item ≡ true → IsIn e.transaction s.live
      → Leads (shape_after_begin is_open links s).live (into_in (shape_after_begin is_open links s)) e.transaction f.transaction
  begun_leads_now is_open e h against stands =
      let live = (shape_after_begin is_open links s).live in
      let into = into_in (shape_after_begin is_open links s) in
      let next = near e h against stands in
      let before = begun_leads is_open e.transaction next.0 next.1 in
      elim next.2 [
        | inl same ↦ subst (λ v. Leads live into e.transaction v) same before
        | inr link ↦
            leads_on live into e.transaction next.0 t before
            (subst (λ v. Leads live into v t) link.2
            (leads_by_link live into t link.0 (subst (λ v. IsIn v live) (sym slot) (new_is_live is_open links s (inr (link.0, link.1))))
            (subst (IsIn link.0) (sym (begun_into is_open links s t ∙ chosen t (length s.into) links (into_in s t) slot)) link.1)))
      ]
