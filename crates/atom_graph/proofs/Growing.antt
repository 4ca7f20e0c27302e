-- How an event, and the end of a transaction, change the graph.
use Rattle.std.proofs.Common.{◌≡◌, ◌≢◌, ℕ, ◌+◌, ◌<◌, ◌≤◌, Bool, true, false, not, cond, ◌||◌, ◌⊎◌, ◌↔◌, inl, inr, List, [], ◌∷◌, ◌++◌, length, take, sym, ap, subst, ◌∙◌, arith, length-append}
use Rattle.std.proofs.lemmas.Bool.{cases_eq, false≢true}
use Rattle.std.proofs.lemmas.List.{length_push, take-append-le}
use Rattle.velodrome.specs.Conflicts.{conflict}
use Rattle.velodrome.specs.Cycles.{AreAtomic, IsCycle, IsFirstAt, IsIn}
use Rattle.velodrome.specs.Reach.{IsOpen}
use Rattle.velodrome.specs.Transactions.{Event, TraceState}
use Rattle.velodrome.specs.Verdicts.{ArePairNumbers, IsShownCycle}
use Rattle.atom_order.specs.declared.link.Link.{Link}
use Rattle.atom_order.specs.Keeping.{IsKept, Leads}
use Rattle.atom_order.specs.Shapes.{IsClosing, Shape, shape_after_begin, into_in, is_empty, live_links, open_in, order_of}
use Rattle.atom_order.specs.Trails.{transactions_along}
use Rattle.atom_order.proofs.Begun.{begun_kept, begun_leads, begun_leads_now, begun_open, begun_slots, live_link_is}
use Rattle.atom_order.proofs.Closed.{closed_kept, closed_leads, closed_was_live}
use Rattle.atom_order.proofs.Kept.{chosen, passed_by}
use Rattle.atom_order.proofs.Linked.{closed_first, closed_shown, linked_kept, linked_leads, linked_leads_now, linked_open, linked_was_live}
use Rattle.atom_order.proofs.Members.{all_in, in_cases, in_right}
use Rattle.accesses.specs.Accesses.{Last}
use Rattle.accesses.specs.Rooms.{kept_of}
use Rattle.atom_graph.specs.declared.found.Found.{Found}
use Rattle.atom_graph.specs.declared.reduced.Reduced.{Reduced}
use Rattle.atom_graph.specs.declared.stay.Stay.TheVariants as stay
use Rattle.atom_graph.specs.Reduced.{IsClosedBy, IsTaken}
use Rattle.atom_graph.specs.Suffices.{Suffices}
use Rattle.atom_graph.specs.Watched.{IsFoundIn, IsGraphOf}
use Rattle.atom_graph.proofs.Suffices.{MeetByAccesses, near, sound, suffices_left, suffices_more}

-- ---- No event

-- A trace with the same events and the same open transactions has the same graph.
pub graph_same : (w v : TraceState) (s : Shape) (kept : List Last) → v.events ≡ w.events → v.transactions ≡ w.transactions → ((a : ℕ) → IsOpen v a ↔ IsOpen w a) → IsGraphOf w s kept → IsGraphOf v s kept
graph_same w v s kept events count opens g = record {
  keeps = subst (λ es. IsKept es v.transactions (order_of s)) (sym events) (subst (λ m. IsKept w.events m (order_of s)) (sym count) g.keeps);
  slots = g.slots ∙ ap (λ m. m + 1) (sym count);
  opens = λ a. (λ is. (opens a).1 ((g.opens a).0 is), λ is. (g.opens a).1 ((opens a).0 is));
  suffices = subst (λ es. Suffices es (order_of s) kept) (sym events) g.suffices;
}

-- A transaction is closed.
pub graph_closed : (w v : TraceState) (t : ℕ) (old new : Shape) (kept : List Last) → v.events ≡ w.events → v.transactions ≡ w.transactions
    → ((a : ℕ) → IsOpen v a ↔ (IsOpen w a × (a ≢ t))) → IsClosing t old new → IsGraphOf w old kept → IsGraphOf v new kept
graph_closed w v t old new kept events count opens closing g = record {
  keeps = subst (λ es. IsKept es v.transactions (order_of new)) (sym events) (subst (λ m. IsKept w.events m (order_of new)) (sym count) (closed_kept w.events w.transactions t old new g.keeps closing));
  slots = closing.slots ∙ g.slots ∙ ap (λ m. m + 1) (sym count);
  opens = λ a. (forth a (cases_eq a t), λ is. back a ((opens a).0 is));
  suffices = subst (λ es. Suffices es (order_of new) kept) (sym events)
      (suffices_left w.events (order_of old) (order_of new) kept g.suffices (λ y h. (closed_was_live w.events w.transactions t old new g.keeps closing y h).0) (closed_leads w.events w.transactions t old new g.keeps closing));
}
  where
    forth : (a : ℕ) → (a ≡ t) ⊎ (a ≡ t → ⊥) → open_in new a ≡ true → IsOpen v a
    forth a (inl same) is = absurd (false≢true (sym (chosen a t false (open_in old a) same) ∙ sym (closing.is_open a) ∙ is))
    forth a (inr other) is = (opens a).1 ((g.opens a).0 (sym (passed_by a t false (open_in old a) other) ∙ sym (closing.is_open a) ∙ is), other)

    back : (a : ℕ) → IsOpen w a × (a ≢ t) → open_in new a ≡ true
    back a is = closing.is_open a ∙ passed_by a t false (open_in old a) is.1 ∙ (g.opens a).1 is.0

-- ---- An event begins a transaction

module _ (meet : MeetByAccesses) (w v : TraceState) (f : Event) (old new : Reduced) (g : IsGraphOf w old.graph (kept_of old.accesses))
    (numbered : f.number ≡ length w.events + 1) (to_events : v.events ≡ w.events ++ f ∷ []) (is_open : Bool)
    (newest : f.transaction ≡ w.transactions + 1) (count : v.transactions ≡ w.transactions + 1)
    (opens : (a : ℕ) → IsOpen v a ↔ (((a ≡ f.transaction) × (is_open ≡ true)) ⊎ IsOpen w a))
    (taken : IsTaken f.number f.transaction (stay.Begins is_open) f.item old new) where
  abbrev s : Shape
  s = old.graph

  abbrev kept : List Last
  kept = kept_of old.accesses

  abbrev links : List Link
  links = live_links f.transaction old.graph.live taken.links

  abbrev now : Shape
  now = shape_after_begin is_open links old.graph

  small : (x : ℕ) → IsIn x (s.dropped ++ s.live) → x ≤ w.transactions
  small x h = (all_in (λ m. (0 < m) × (m ≤ w.transactions)) (s.dropped ++ s.live) x g.keeps.counted.2 h).1

  by_sound : (l : Link) → IsIn l links → (l.from ≢ f.transaction) × ArePairNumbers (w.events ++ f ∷ []) l.from f.transaction l.pair
  by_sound = sound meet w.events w.transactions (order_of s) kept g.keeps g.suffices f numbered taken.links taken.are

  by_near : (e : Event) → IsIn e w.events → conflict e.item f.item ≡ true → IsIn e.transaction s.live
      → (x : ℕ) × Leads s.live (into_in s) e.transaction x × ((x ≡ f.transaction) ⊎ ((l : Link) × IsIn l links × (l.from ≡ x)))
  by_near = near meet w.events w.transactions (order_of s) kept g.keeps g.suffices f numbered taken.links taken.are

  from_live : (l : Link) → IsIn l links → IsIn l.from s.live
  from_live l h = (live_link_is f.transaction s.live taken.links l h).1

  slot : f.transaction ≡ length s.into
  slot = newest ∙ sym g.slots

  fewer : (e : Event) → IsIn e w.events → IsIn e.transaction now.live → IsIn e.transaction s.live
  fewer e h = by (is_open || not (is_empty links))
    where
      bound : e.transaction ≡ length s.into → ⊥
      bound same = let less = small e.transaction (g.keeps.placed e h) in let long = g.slots in omega arith

      by : (b : Bool) → IsIn e.transaction (cond b (s.live ++ length s.into ∷ []) s.live) → IsIn e.transaction s.live
      by true lives = elim (in_cases e.transaction s.live (length s.into ∷ []) lives) [
        | inl stays ↦ stays
        | inr new ↦ elim new [ inl same ↦ absurd (bound same) | inr none ↦ absurd none ]
      ]
      by false lives = lives

  forth : (a : ℕ) → (a ≡ length s.into) ⊎ (a ≡ length s.into → ⊥) → open_in now a ≡ true → IsOpen v a
  forth a (inl same) is = (opens a).1 (inl (same ∙ sym slot, sym (chosen a (length s.into) is_open (open_in s a) same) ∙ sym (begun_open is_open links s taken.grown.1 a) ∙ is))
  forth a (inr other) is = (opens a).1 (inr ((g.opens a).0 (sym (passed_by a (length s.into) is_open (open_in s a) other) ∙ sym (begun_open is_open links s taken.grown.1 a) ∙ is)))

  back : (a : ℕ) → ((a ≡ f.transaction) × (is_open ≡ true)) ⊎ IsOpen w a → open_in now a ≡ true
  back a (inl new) = begun_open is_open links s taken.grown.1 a ∙ chosen a (length s.into) is_open (open_in s a) (new.0 ∙ slot) ∙ new.1
  back a (inr was) =
      let is = (g.opens a).1 was in
      let less = small a (in_right a s.dropped s.live (g.keeps.opens a is)) in
      let long = g.slots in
      let other : a ≡ length s.into → ⊥ = λ same. omega arith in
      begun_open is_open links s taken.grown.1 a ∙ passed_by a (length s.into) is_open (open_in s a) other ∙ is

  behind : IsGraphOf v now (kept_of new.accesses)
  behind = record {
    keeps = subst (λ es. IsKept es v.transactions (order_of now)) (sym to_events) (subst (λ m. IsKept (w.events ++ f ∷ []) m (order_of now)) (sym count)
        (begun_kept w.events w.transactions s f links g.keeps taken.grown.1 g.slots newest numbered by_sound from_live by_near is_open));
    slots = begun_slots is_open links s w.transactions g.slots ∙ (let e = count in omega arith);
    opens = λ a. (forth a (cases_eq a (length s.into)), λ is. back a ((opens a).0 is));
    suffices = subst (λ es. Suffices es (order_of now) (kept_of new.accesses)) (sym to_events)
        (suffices_more meet w.events (order_of s) (order_of now) kept (kept_of new.accesses) g.suffices f taken.noted fewer
        (λ a b h. begun_leads w.events w.transactions s f links g.keeps taken.grown.1 g.slots newest numbered by_sound from_live by_near is_open a b)
        (begun_leads_now w.events w.transactions s f links g.keeps taken.grown.1 g.slots newest numbered by_sound from_live by_near is_open));
  }

  pub graph_begun : IsGraphOf v new.graph (kept_of new.accesses)
  graph_begun = subst (λ (n : Shape). IsGraphOf v n (kept_of new.accesses)) (sym taken.grown.0) behind

-- ---- An event continues a transaction

module _ (meet : MeetByAccesses) (w v : TraceState) (f : Event) (old new : Reduced) (g : IsGraphOf w old.graph (kept_of old.accesses))
    (numbered : f.number ≡ length w.events + 1) (to_events : v.events ≡ w.events ++ f ∷ [])
    (count : v.transactions ≡ w.transactions) (there : IsIn f.transaction old.graph.live)
    (opens : (a : ℕ) → IsOpen v a ↔ IsOpen w a)
    (taken : IsTaken f.number f.transaction stay.KeepsGoing f.item old new) where
  abbrev r : Shape
  r = old.graph

  abbrev held : List Last
  held = kept_of old.accesses

  abbrev ties : List Link
  ties = live_links f.transaction old.graph.live taken.links

  ties_sound : (l : Link) → IsIn l ties → (l.from ≢ f.transaction) × ArePairNumbers (w.events ++ f ∷ []) l.from f.transaction l.pair
  ties_sound = sound meet w.events w.transactions (order_of r) held g.keeps g.suffices f numbered taken.links taken.are

  ties_near : (e : Event) → IsIn e w.events → conflict e.item f.item ≡ true → IsIn e.transaction r.live
      → (x : ℕ) × Leads r.live (into_in r) e.transaction x × ((x ≡ f.transaction) ⊎ ((l : Link) × IsIn l ties × (l.from ≡ x)))
  ties_near = near meet w.events w.transactions (order_of r) held g.keeps g.suffices f numbered taken.links taken.are

  pub graph_linked : IsGraphOf v new.graph (kept_of new.accesses)
  graph_linked = record {
    keeps = subst (λ es. IsKept es v.transactions (order_of new.graph)) (sym to_events) (subst (λ m. IsKept (w.events ++ f ∷ []) m (order_of new.graph)) (sym count)
        (linked_kept w.events w.transactions f ties r new.graph g.keeps numbered there ties_sound ties_near taken.grown));
    slots = taken.grown.slots ∙ g.slots ∙ ap (λ m. m + 1) (sym count);
    opens = λ a. (
      λ is. (opens a).1 ((g.opens a).0 (sym (linked_open f.transaction ties r new.graph taken.grown a) ∙ is)),
      λ is. linked_open f.transaction ties r new.graph taken.grown a ∙ (g.opens a).1 ((opens a).0 is),
    );
    suffices = subst (λ es. Suffices es (order_of new.graph) (kept_of new.accesses)) (sym to_events)
        (suffices_more meet w.events (order_of r) (order_of new.graph) held (kept_of new.accesses) g.suffices f taken.noted
        (λ e h lives. linked_was_live f.transaction ties r new.graph taken.grown e.transaction lives)
        (λ a b h. linked_leads f.transaction ties r new.graph taken.grown a b)
        (linked_leads_now w.events w.transactions f ties r new.graph g.keeps numbered there ties_sound ties_near taken.grown));
  }

-- ---- An event closes a cycle

module _ (meet : MeetByAccesses) (w : TraceState) (f : Event) (old : Reduced) (g : IsGraphOf w old.graph (kept_of old.accesses))
    (numbered : f.number ≡ length w.events + 1) (found : Found) (closed : IsClosedBy f.number f.transaction f.item old found) where
  abbrev now_events : List Event
  now_events = w.events ++ f ∷ []

  abbrev chain : List Link
  chain = live_links f.transaction old.graph.live closed.links

  chain_sound : (l : Link) → IsIn l chain → (l.from ≢ f.transaction) × ArePairNumbers (w.events ++ f ∷ []) l.from f.transaction l.pair
  chain_sound = sound meet w.events w.transactions (order_of old.graph) (kept_of old.accesses) g.keeps g.suffices f numbered closed.links closed.are

  pub cycle_found : IsFoundIn (w.events ++ f ∷ []) found
  cycle_found = record {
    within = let is = closed.found.first_at in let long = length_push w.events f in omega arith;
    first = subst (IsFirstAt now_events) (sym closed.found.first_at) (closed_first w.events w.transactions f chain old.graph g.keeps numbered chain_sound closed.closing closed.closes);
    shown =
        subst (λ n. IsShownCycle (take n now_events) n found.transactions found.pairs) (sym closed.found.first_at)
        (subst (λ ts. IsShownCycle (take f.number now_events) f.number ts found.pairs) (sym closed.found.transactions)
        (subst (λ ps. IsShownCycle (take f.number now_events) f.number (transactions_along (closed.closing.by.from ∷ []) closed.closing.trail.items) ps) (sym closed.found.pairs)
        (closed_shown w.events w.transactions f chain old.graph g.keeps numbered chain_sound closed.closing closed.closes)));
  }

-- A first cycle stays the first when more events follow.
pub found_more : (events more : List Event) (f : Found) → IsFoundIn events f → IsFoundIn (events ++ more) f
found_more events more f is = record {
  within = let bound = is.within in let long = length-append events more in omega arith;
  first = (
    (is.first.0.0, subst (λ es. IsCycle es is.first.0.0) (sym (front f.first_at is.within)) is.first.0.1),
    λ m less. subst AreAtomic (sym (front m (let bound = is.within in omega arith))) (is.first.1 m less),
  );
  shown = subst (λ es. IsShownCycle es f.first_at f.transactions f.pairs) (sym (front f.first_at is.within)) is.shown;
}
  where
    front : (m : ℕ) → m ≤ length events → take m (events ++ more) ≡ take m events
    front m less = take-append-le m events more less
