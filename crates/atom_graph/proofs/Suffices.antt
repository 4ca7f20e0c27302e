-- The remembered accesses yield the links of a new event, and still suffice after it and after a transaction ends.
use Rattle.std.proofs.Common.{◌≡◌, ◌≢◌, ℕ, ◌+◌, ◌<◌, true, not, ◌&&◌, ◌==◌, ◌⊎◌, ◌↔◌, inl, inr, List, [], ◌∷◌, ◌++◌, length, refl, sym, ap, subst, ◌∙◌, arith}
use Rattle.std.proofs.lemmas.Bool.{and_from, and_parts, both_ways, cases_eq, eq-eqb, not-true, ne_eqb}
use Rattle.jvms_machine.specs.declared.trace.Item.{Item}
use Rattle.jvms_machine.specs.Events.{thread_of}
use Rattle.velodrome.specs.Conflicts.{conflict}
use Rattle.velodrome.specs.Cycles.{IsIn}
use Rattle.velodrome.specs.Transactions.{Event}
use Rattle.velodrome.specs.Verdicts.{ArePairNumbers}
use Rattle.atom_order.specs.declared.link.Link.{Link}
use Rattle.atom_order.specs.Keeping.{IsKept, Leads, Order}
use Rattle.atom_order.specs.Reaching.{is_among}
use Rattle.atom_order.specs.Shapes.{live_links}
use Rattle.atom_order.proofs.Kept.{leads_on, leads_to_live}
use Rattle.atom_order.proofs.Members.{among_from_in, filter_in, in_cases, in_filter, in_left, in_right}
use Rattle.accesses.specs.Accesses.{Access, AreLinks, IsAgainst, IsNoted, Last, OfThread, TakesPlace, accesses_of, against, last_of, link_to, main_at}
use Rattle.atom_graph.specs.Suffices.{IsOf, StandsFor, Suffices}
use Rattle.atom_graph.proofs.Places.{against_covered, against_main, own_place, same_places}

-- Two items conflict if and only if two of their accesses conflict.
abbrev pub MeetByAccesses : Type 0
MeetByAccesses = (a b : Item) → (conflict a b ≡ true) ↔ ((x : Access) × (y : Access) × IsIn x (accesses_of a) × IsIn y (accesses_of b) × (against x y ≡ true))

module _ (meet : MeetByAccesses) (events : List Event) (n : ℕ) (o : Order) (kept : List Last) (k : IsKept events n o) (s : Suffices events o kept)
    (f : Event) (numbered : f.number ≡ length events + 1) (links : List Link) (are : AreLinks kept f.number f.item links) where
  abbrev found : List Link
  found = live_links f.transaction o.live links

  -- Each remaining link leads from another transaction, by a pair of events.
  pub sound : (l : Link) → IsIn l found → (l.from ≢ f.transaction) × ArePairNumbers (events ++ f ∷ []) l.from f.transaction l.pair
  sound l h =
      let in_links = filter_in (λ (m : Link). is_among m.from o.live && not (m.from == f.transaction)) l links h in
      let parts = and_parts (is_among l.from o.live) (not (l.from == f.transaction)) in_links.1 in
      let source = are.sound l in_links.0 in
      let event = s.are source.0 source.1 in
      let bound = k.numbered event.0 event.1 in
      let is = event.2 in
      let hit = source.2 in
      let meets : conflict event.0.item f.item ≡ true = (meet event.0.item f.item).1 (source.0.access, hit.0, is.access, hit.1, hit.2) in
      let before : event.0.number < f.number = omega arith in
      let pair : ArePairNumbers (events ++ f ∷ []) source.0.transaction f.transaction (link_to f.number source.0).pair =
      (event.0, f, (in_left event.0 events (f ∷ []) event.1, in_right f events (f ∷ []) (inl refl), is.transaction, refl, (before, meets)), is.number, refl) in (
        λ same. both_ways (l.from == f.transaction) (not-true (l.from == f.transaction) parts.1) (eq-eqb l.from f.transaction same),
        subst (λ (m : Link). ArePairNumbers (events ++ f ∷ []) m.from f.transaction m.pair) (sym source.3) pair,
      )

  -- An event of a live transaction that conflicts with the new one leads to where a link begins, or to the new one's
  -- transaction.
  pub near : (e : Event) → IsIn e events → conflict e.item f.item ≡ true → IsIn e.transaction o.live
      → (x : ℕ) × Leads o.live o.into e.transaction x × ((x ≡ f.transaction) ⊎ ((l : Link) × IsIn l found × (l.from ≡ x)))
  near e h is stands =
      let met = (meet e.item f.item).0 is in
      let other = s.stands e met.0 h stands met.2 in
      let last = other.0 in
      let for = other.2 in
      let hits : IsAgainst f.item last = (met.1, met.3, against_covered met.0 met.1 last.access for.place for.covers met.4) in
      (last.transaction, for.leads, reached last hits other.1 (leads_to_live o.live o.into e.transaction last.transaction stands for.leads) (cases_eq last.transaction f.transaction))
    where
      reached : (last : Last) → IsAgainst f.item last → IsIn last kept → IsIn last.transaction o.live → (last.transaction ≡ f.transaction) ⊎ (last.transaction ≡ f.transaction → ⊥)
          → (last.transaction ≡ f.transaction) ⊎ ((l : Link) × IsIn l found × (l.from ≡ last.transaction))
      reached last hits held lives (inl same) = inl same
      reached last hits held lives (inr apart) =
          inr (
            link_to f.number last,
            in_filter (λ (m : Link). is_among m.from o.live && not (m.from == f.transaction)) (link_to f.number last) links
                (and_from (is_among last.transaction o.live) (not (last.transaction == f.transaction)) (among_from_in last.transaction o.live lives) (ap not (ne_eqb last.transaction f.transaction apart)))
                (are.whole last held hits),
            refl,
          )

-- If fewer transactions are live, and what led among them still leads, the accesses still suffice.
pub suffices_left : (events : List Event) (o p : Order) (kept : List Last) → Suffices events o kept
    → ((y : ℕ) → IsIn y p.live → IsIn y o.live)
    → ((a b : ℕ) → IsIn a p.live → Leads o.live o.into a b → Leads p.live p.into a b)
    → Suffices events p kept
suffices_left events o p kept s fewer still = record {
  are = s.are;
  stands = λ e x h lives g.
      let other = s.stands e x h (fewer e.transaction lives) g in
      let for = other.2 in
      (other.0, other.1, record { place = for.place; covers = for.covers; leads = still e.transaction other.0.transaction lives for.leads });
}

module _ (meet : MeetByAccesses) (events : List Event) (o p : Order) (kept now : List Last) (s : Suffices events o kept) (f : Event)
    (noted : IsNoted f.number f.transaction f.item kept now)
    (fewer : (e : Event) → IsIn e events → IsIn e.transaction p.live → IsIn e.transaction o.live)
    (still : (a b : ℕ) → IsIn a o.live → Leads o.live o.into a b → Leads p.live p.into a b)
    (leads : (e : Event) → IsIn e events → conflict e.item f.item ≡ true → IsIn e.transaction o.live → Leads p.live p.into e.transaction f.transaction) where
  abbrev all : List Event
  all = events ++ f ∷ []

  own : (y : Access) → Last
  own y = last_of f.number f.transaction (thread_of f.item) y

  are_now : (k : Last) → IsIn k now → (e : Event) × IsIn e all × IsOf e k
  are_now k h = of (noted.only k h)
    where
      of : IsIn k kept ⊎ ((y : Access) × IsIn y (accesses_of f.item) × (k ≡ last_of f.number f.transaction (thread_of f.item) y)) → (e : Event) × IsIn e (events ++ f ∷ []) × IsOf e k
      of (inl old) = let event = s.are k old in (event.0, in_left event.0 events (f ∷ []) event.1, event.2)
      of (inr new) =
          let is : IsOf f (last_of f.number f.transaction (thread_of f.item) new.0) = record { number = refl; transaction = refl; thread = refl; access = new.1 } in
          (f, in_right f events (f ∷ []) (inl refl), subst (λ (j : Last). IsOf f j) (sym new.2) is)

  -- An event whose access a new one replaces conflicts with the new event.
  taken_conflicts : (k : Last) (y : Access) (e : Event) → IsOf e k → IsIn y (accesses_of f.item) → TakesPlace f.item k y → conflict e.item f.item ≡ true
  unfolding accesses_of
  taken_conflicts k y e is g takes = elim takes.conflicts [
    | inl main ↦ (meet e.item f.item).1 (k.access, y, is.access, g, against_main k.access y takes.place main)
    | inr same ↦
        let one : thread_of e.item ≡ thread_of f.item = is.thread ∙ same in
        (meet e.item f.item).1 (
          main_at (OfThread (thread_of e.item)),
          main_at (OfThread (thread_of f.item)),
          inl refl,
          inl refl,
          against_main (main_at (OfThread (thread_of e.item))) (main_at (OfThread (thread_of f.item))) (eq-eqb (thread_of e.item) (thread_of f.item) one) refl,
        )
  ]

  stands_old : (e : Event) (x : Access) → IsIn e events → IsIn e.transaction o.live → IsIn x (accesses_of e.item) → (k : Last) × IsIn k now × StandsFor p e.transaction x k
  stands_old e x h lives g =
      let other = s.stands e x h lives g in
      of other.0 other.2 (s.are other.0 other.1) (leads_to_live o.live o.into e.transaction other.0.transaction lives other.2.leads) (noted.left other.0 other.1)
    where
      of : (k : Last) → StandsFor o e.transaction x k → ((d : Event) × IsIn d events × IsOf d k) → IsIn k.transaction o.live
          → IsIn k now ⊎ ((y : Access) × IsIn y (accesses_of f.item) × TakesPlace f.item k y) → (j : Last) × IsIn j now × StandsFor p e.transaction x j
      of k for event stays (inl held) = (k, held, record { place = for.place; covers = for.covers; leads = still e.transaction k.transaction lives for.leads })
      of k for event stays (inr new) =
          let y = new.0 in
          let takes = new.2 in
          let d = event.0 in
          let is = event.2 in
          let meets = taken_conflicts k y d is new.1 takes in
          let d_lives : IsIn d.transaction o.live = subst (λ v. IsIn v o.live) (sym is.transaction) stays in
          let on : Leads p.live p.into k.transaction f.transaction = subst (λ v. Leads p.live p.into v f.transaction) is.transaction (leads d event.1 meets d_lives) in (
            last_of f.number f.transaction (thread_of f.item) y,
            noted.added y new.1,
            record {
              place = same_places x.place k.access.place y.place for.place takes.place;
              covers = λ main. takes.covers (for.covers main);
              leads = leads_on p.live p.into e.transaction k.transaction f.transaction (still e.transaction k.transaction lives for.leads) on;
            },
          )

  -- After an event is recorded the remembered accesses suffice.
  pub suffices_more : Suffices (events ++ f ∷ []) p now
  suffices_more = record {
    are = are_now;
    stands = λ e x h lives g. by e x lives g (in_cases e events (f ∷ []) h);
  }
    where
      by : (e : Event) (x : Access) → IsIn e.transaction p.live → IsIn x (accesses_of e.item) → IsIn e events ⊎ IsIn e (f ∷ []) → (k : Last) × IsIn k now × StandsFor p e.transaction x k
      by e x lives g (inl h) = stands_old e x h (fewer e h lives) g
      by e x lives g (inr (inl same)) = (
        last_of f.number f.transaction (thread_of f.item) x,
        noted.added x (subst (λ (d : Event). IsIn x (accesses_of d.item)) same g),
        record { place = own_place x.place; covers = λ main. main; leads = subst (λ (d : Event). Leads p.live p.into d.transaction f.transaction) (sym same) (λ P closed is. is) },
      )
      by e x lives g (inr (inr none)) = absurd none
