-- Searches forward along links, one transaction at a time.
use Rattle.std.proofs.Common.{◌≡◌, ℕ, ◌+◌, ◌-◌, ◌<◌, ◌≤◌, Bool, true, false, not, cond, ◌&&◌, ◌||◌, ◌==◌, ◌⊎◌, inl, inr, List, [], ◌∷◌, ◌++◌, length, take, drop, get_or, refl, sym, ap, subst, ◌∙◌, arith}
use Rattle.std.proofs.lemmas.Bool.{cases_Bool, cases_eq, cases_lt, eq-eqb, ne_eqb, both_ways, and_parts, and_from, not-true, false≢true}
use Rattle.std.proofs.lemmas.List.{take-append-drop, take-take}
use Rattle.std.specs.List.{IsDistinct, list_any}
use Rattle.std.specs.Ordering.{is_gt, nat_cmp}
use Rattle.std.proofs.lemmas.Bool.Decides.{nat_tests}
use Rattle.std.specs.BTreeMap.{is_at}
use Rattle.velodrome.specs.Cycles.{IsIn}
use Rattle.atom_order.specs.declared.link.Link.{Link}
use Rattle.atom_order.specs.Exits.{links_at}
use Rattle.atom_order.specs.LinkedOrder.{Ranked, shape_of}
use Rattle.atom_order.specs.Marking.{has_key}
use Rattle.atom_order.specs.Reaching.{is_among, ArePart, LeadForward}
use Rattle.atom_order.specs.Shapes.{ClosesSome, IsUsable, order_of}
use Rattle.atom_order.specs.Slots.{live_of, IsRank}
use Rattle.atom_order.specs.Sweeps.{AreGone, AreReached, IsFollowed}
use Rattle.atom_order.specs.Trails.{IsTrail}
use Rattle.atom_order.proofs.Forward.{was_open}
use Rattle.atom_order.proofs.Kept.{chosen, passed_by}
use Rattle.atom_order.proofs.Stored.{from_live}
use Rattle.atom_order.proofs.Gaps.{in_rank, live_append, rank_in}
use Rattle.atom_order.proofs.Lists.{any_in, none_in}
use Rattle.atom_order.proofs.Marked.{same_key}
use Rattle.atom_order.proofs.Members.{in_left, in_right, in_cases, among_from_in, in_from_among}
use Rattle.atom_order.proofs.Ordered.{one_rank_by, rank_between, rises}
use Rattle.atom_order.proofs.Pairs.{distinct_pairs}
use Rattle.atom_order.proofs.Parts.{IsSub, sub_end, sub_in, sub_more, sub_part}

-- ---- The least rank is taken out of a set

-- The set without its least key, and no key is below it.
pub record IsPopped (k : ℕ) (old new : List ℕ) : Type 0 where
  pub was : has_key old k ≡ true
  pub stays : (q : ℕ) → has_key old q ≡ true → (q ≡ k) ⊎ (has_key new q ≡ true)
  pub since : (q : ℕ) → has_key new q ≡ true → (has_key old q ≡ true) × (k < q)

-- How far the least key is from n.
abbrev pub far_from : ℕ → List ℕ → ℕ
far_from n [] = 0
far_from n (k ∷ keys) = n - k

-- ---- What a transaction reaches

module _ (o : Ranked) (t : ℕ) (links : List Link) where
  abbrev pub live : List ℕ
  live = live_of o.slots

  abbrev pub into : ℕ → List Link
  into = links_at o.into

  abbrev pub HasTrail : ℕ → Type 0
  HasTrail x = (trail : List Link) × IsTrail live into t x trail

  -- The state of the search: these are reached, and those at the ranks in the set are too.
  pub record IsReaching (work reached : List ℕ) : Type 0 where
    pub bound : ℕ
    pub waits : (k : ℕ) → has_key work k ≡ true → (bound ≤ k) × ((x : ℕ) × IsRank o.slots x k × HasTrail x)
    pub order : IsSub reached (live_of (take bound o.slots))
    pub trails : (x : ℕ) → IsIn x reached → HasTrail x
    pub closed : (y k : ℕ) (l : Link) → IsRank o.slots y k → IsIn l (into y) → IsIn l.from reached → IsIn y reached ⊎ (has_key work k ≡ true)
    pub start : IsIn t reached ⊎ ((k : ℕ) × IsRank o.slots t k × (has_key work k ≡ true))
    pub clean : (l : Link) → IsIn l links → IsIn l.from reached → ⊥

not_above : (k q : ℕ) → is_gt (nat_cmp k q) ≡ false → k ≤ q
not_above k q none = grind (arith, nat_tests)

pub popped : (k : ℕ) (old new : List ℕ) → has_key old k ≡ true → ((q : ℕ) → has_key old q ≡ true → is_gt (nat_cmp k q) ≡ false)
    → ((q : ℕ) → has_key new q ≡ cond (is_at (nat_cmp k) q) false (has_key old q)) → IsPopped k old new
popped k old new member least updates = record {
  was = member;
  stays = λ q is. elim (cases_eq q k) [ inl same ↦ inl same | inr other ↦ inr (left q other ∙ is) ];
  since = λ q is. elim (cases_eq q k) [
    | inl same ↦ absurd (false≢true (sym (updates q ∙ ap (λ b. cond b false (has_key old q)) (same_key k q ∙ eq-eqb q k same)) ∙ is))
    | inr other ↦
        let was = sym (left q other) ∙ is in
        let low = not_above k q (least q was) in
        (was, elim (cases_lt k q) [ inl less ↦ less | inr far ↦ absurd (other (omega arith)) ])
  ];
}
  where
    left : (q : ℕ) → (q ≡ k → ⊥) → has_key new q ≡ has_key old q
    left q other = updates q ∙ ap (λ b. cond b false (has_key old q)) (same_key k q ∙ ne_eqb q k other)

-- The least key is farther away afterwards.
pub nearer : (n k : ℕ) (keys next : List ℕ) → k < n → ((q : ℕ) → has_key next q ≡ true → (k < q) × (q < n)) → far_from n next < far_from n (k ∷ keys)
nearer n k keys [] less all = omega arith
nearer n k keys (q ∷ next) less all =
    let more = all q (ap (λ b. b || list_any (is_at (nat_cmp q)) next) (same_key q q ∙ eq-eqb q q refl)) in
    let a = more.0 in
    let b = more.1 in
    omega arith

pub no_key : (keys : List ℕ) → keys ≡ [] → (k : ℕ) → has_key keys k ≡ true → ⊥
no_key keys is k has = false≢true (sym (ap (λ ks. has_key ks k) is) ∙ has)

-- ---- Where a transaction at a rank is among the next ones

module _ (slots : List ℕ) (x k bound : ℕ) (r : IsRank slots x k) (far : bound ≤ k) (found : List ℕ) where
  pub next_sub : IsSub found (live_of (take bound slots)) → IsSub (found ++ x ∷ []) (live_of (take (k + 1) slots))
  next_sub sub =
      let between = rank_between slots x k bound r far in
      subst (λ (l : List ℕ). IsSub (found ++ x ∷ []) l) (sym between.0) (sub_end found (live_of (take bound slots)) (live_of (drop bound (take (k + 1) slots))) x sub between.1)

pub same_at : (slots : List ℕ) (x y k : ℕ) → IsRank slots x k → IsRank slots y k → y ≡ x
same_at slots x y k r q = sym q.here ∙ r.here

-- The next ones are the same up to a later rank.
sub_further : (slots found : List ℕ) (i j : ℕ) → i ≤ j → IsSub found (live_of (take i slots)) → IsSub found (live_of (take j slots))
sub_further slots found i j far sub =
    subst (λ (l : List ℕ). IsSub found l)
    (ap (λ l. live_of l ++ live_of (drop i (take j slots))) (sym (take-take i j slots far)) ∙ sym (live_append (take i (take j slots)) (drop i (take j slots))) ∙ ap live_of (take-append-drop i (take j slots)))
    (sub_more found (live_of (take i slots)) (live_of (drop i (take j slots))) sub)

all_part : (slots found : List ℕ) (bound : ℕ) → IsDistinct (λ x y. x == y) (live_of slots) → IsSub found (live_of (take bound slots)) → ArePart found (live_of slots)
all_part slots found bound distinct sub =
    sub_part found (live_of slots) (distinct_pairs (live_of slots) distinct)
    (subst (λ (l : List ℕ). IsSub found l) (sym (live_append (take bound slots) (drop bound slots)) ∙ ap live_of (take-append-drop bound slots))
    (sub_more found (live_of (take bound slots)) (live_of (drop bound slots)) sub))

-- ---- The search for what a transaction reaches

module _ (o : Ranked) (t : ℕ) (links : List Link) (distinct : IsDistinct (λ x y. x == y) (live_of o.slots)) (forward : LeadForward (links_at o.into) (live_of o.slots)) where
  abbrev State : List ℕ → List ℕ → Type 0
  State work reached = IsReaching o t links work reached

  abbrev Way : ℕ → Type 0
  Way x = (trail : List Link) × IsTrail (live_of o.slots) (links_at o.into) t x trail

  -- Along a trail the ranks rise from the start.
  trail_rises : (r0 : ℕ) → IsRank o.slots t r0 → (trail : List Link) (b k : ℕ) → IsTrail (live_of o.slots) (links_at o.into) t b trail → IsRank o.slots b k → r0 ≤ k
  trail_rises r0 r [] b k same q = let one = one_rank_by o.slots distinct t r0 k r (subst (λ v. IsRank o.slots v k) same q) in omega arith
  trail_rises r0 r (l ∷ trail) b k way q =
      let j = in_rank o.slots l.from (source_live trail way.2) in
      let up = rises (links_at o.into) o.slots b j.0 k l forward q way.1 j.1 in
      let low = trail_rises r0 r trail l.from j.0 way.2 j.1 in
      omega arith
    where
      source_live : (rest : List Link) → IsTrail (live_of o.slots) (links_at o.into) t l.from rest → IsIn l.from (live_of o.slots)
      source_live [] same = subst (λ v. IsIn v (live_of o.slots)) (sym same) (rank_in o.slots t r0 r)
      source_live (m ∷ rest) more = more.0

  pub reach_start : (r0 : ℕ) (work : List ℕ) → IsRank o.slots t r0 → ((q : ℕ) → has_key work q ≡ true → q ≡ r0) → has_key work r0 ≡ true → IsReaching o t links work []
  reach_start r0 work r only has = record {
    bound = 0;
    waits = λ k is. (omega arith, (t, subst (IsRank o.slots t) (sym (only k is)) r, ([], refl)));
    order = tt;
    trails = λ x h. absurd h;
    closed = λ y k l _ _ h. absurd h;
    start = inr (r0, r, has);
    clean = λ l _ h. h;
  }

  module _ (work rest next reached : List ℕ) (k x : ℕ) (state : IsReaching o t links work reached) (pop : IsPopped k work rest) (r : IsRank o.slots x k) where
    way : (trail : List Link) × IsTrail (live_of o.slots) (links_at o.into) t x trail
    way = let w = (state.waits k pop.was).1 in subst Way (same_at o.slots x w.0 k r w.1) w.2

    -- One of the links leads from there.
    pub reach_back : (l : Link) → IsIn l links → l.from ≡ x → ClosesSome t links (shape_of [] o [])
    reach_back l h same = let w = subst Way (sym same) way in (l, w.0, h, w.1)

    pub reach_step : ((l : Link) → IsIn l links → l.from ≡ x → ⊥) → IsFollowed x o [] rest next → IsReaching o t links next (reached ++ x ∷ [])
    reach_step clean follow = record {
      bound = k + 1;
      waits = λ q is. elim (follow.since q is) [
        | inl was ↦ let old = pop.since q was in let up = old.1 in (omega arith, (state.waits q old.0).1)
        | inr end ↦
            let l = end.1 in
            let up = rises (links_at o.into) o.slots end.0 k q l forward end.2 end.3 (subst (λ v. IsRank o.slots v k) (sym end.4) r) in
            let w = subst Way (sym end.4) way in
            (omega arith, (end.0, end.2, (l ∷ w.0, (rank_in o.slots end.0 q end.2, end.3, w.1))))
      ];
      order = next_sub o.slots x k state.bound r (state.waits k pop.was).0 reached state.order;
      trails = λ y h. elim (in_cases y reached (x ∷ []) h) [
        | inl old ↦ state.trails y old
        | inr last ↦ elim last [ inl same ↦ subst Way (sym same) way | inr none ↦ absurd none ]
      ];
      closed = λ y q l rank h from. elim (in_cases l.from reached (x ∷ []) from) [
        | inl old ↦ elim (state.closed y q l rank h old) [
          | inl in_it ↦ inl (in_left y reached (x ∷ []) in_it)
          | inr waits ↦ later y q rank waits
        ]
        | inr last ↦ elim last [
          | inl same ↦ inr (follow.enters y q l rank h same refl)
          | inr none ↦ absurd none
        ]
      ];
      start = elim state.start [
        | inl old ↦ inl (in_left t reached (x ∷ []) old)
        | inr waits ↦ elim (later t waits.0 waits.1 waits.2) [ inl h ↦ inl h | inr g ↦ inr (waits.0, waits.1, g) ]
      ];
      clean = λ l h from. elim (in_cases l.from reached (x ∷ []) from) [
        | inl old ↦ state.clean l h old
        | inr last ↦ elim last [ inl same ↦ clean l h same | inr none ↦ none ]
      ];
    }
      where
        later : (y q : ℕ) → IsRank o.slots y q → has_key work q ≡ true → IsIn y (reached ++ x ∷ []) ⊎ (has_key next q ≡ true)
        later y q rank waits = elim (pop.stays q waits) [
          | inl same ↦ inl (in_right y reached (x ∷ []) (inl (same_at o.slots x y k r (subst (IsRank o.slots y) same rank))))
          | inr left ↦ inr (follow.stays q left)
        ]

    -- The least rank rises.
    pub reach_nearer : (keys : List ℕ) → IsFollowed x o [] rest next → far_from (length o.slots) next < far_from (length o.slots) (k ∷ keys)
    reach_nearer keys follow =
        nearer (length o.slots) k keys next r.within
        (λ q is. elim (follow.since q is) [
          | inl was ↦ let old = pop.since q was in (old.1, (state.waits q old.0).1.1.within)
          | inr end ↦ (rises (links_at o.into) o.slots end.0 k q end.1 forward end.2 end.3 (subst (λ v. IsRank o.slots v k) (sym end.4) r), end.2.within)
        ])

  pub reach_end : (r0 : ℕ) (work reached : List ℕ) → IsRank o.slots t r0 → IsReaching o t links work reached → work ≡ [] → AreReached t links (order_of (shape_of [] o [])) reached
  reach_end r0 work reached r state is = record {
    part = all_part o.slots reached state.bound distinct state.order;
    reach = record {
      itself = elim state.start [ inl h ↦ among_from_in t reached h | inr waits ↦ absurd (no_key work is waits.0 waits.2) ];
      closed = λ y l stands g from.
          let k = in_rank o.slots y stands in
          elim (state.closed y k.0 l k.1 g (in_from_among l.from reached from)) [ inl h ↦ among_from_in y reached h | inr waits ↦ absurd (no_key work is k.0 waits) ];
      apart = λ l h. elim (cases_Bool (is_among l.from reached)) [
        | inl in_it ↦ absurd (apart l h (in_from_among l.from reached in_it))
        | inr out ↦ out
      ];
    };
  }
    where
      apart : (l : Link) → IsIn l (links_at o.into t) ⊎ IsIn l links → IsIn l.from reached → ⊥
      apart l (inr h) from = state.clean l h from
      apart l (inl h) from =
          let w = state.trails l.from from in
          let j = in_rank o.slots l.from (sub_live l.from from) in
          let up = rises (links_at o.into) o.slots t j.0 r0 l forward r h j.1 in
          let low = trail_rises r0 r w.0 l.from j.0 w.1 j.1 in
          absurd (omega arith)
        where
          sub_live : (y : ℕ) → IsIn y reached → IsIn y (live_of o.slots)
          sub_live y g =
              subst (λ (xs : List ℕ). IsIn y xs) (sym (live_append (take state.bound o.slots) (drop state.bound o.slots)) ∙ ap live_of (take-append-drop state.bound o.slots))
              (in_left y (live_of (take state.bound o.slots)) (live_of (drop state.bound o.slots)) (sub_in reached (live_of (take state.bound o.slots)) y state.order g))

pub empty_by : (keys : List ℕ) → (0 < length keys → false ≡ true) → keys ≡ []
empty_by [] none = refl
empty_by (k ∷ keys) none = absurd (false≢true (none (omega arith)))

pub rank_here : (slots : List ℕ) (x k : ℕ) → IsRank slots x k → IsRank slots (get_or slots k 0) k
rank_here slots x k r = record { within = r.within; here = refl; lives = λ same. r.lives (sym r.here ∙ same) }

-- ---- The search for what doesn't stay live

module _ (o : Ranked) (t : ℕ) (opens : List Bool) where
  -- The state of the search: these don't stay live, and those at the ranks in the set are to be looked at.
  pub record IsDropping (work gone : List ℕ) : Type 0 where
    pub bound : ℕ
    pub waits : (k : ℕ) → has_key work k ≡ true → (bound ≤ k) × ((x : ℕ) × IsRank o.slots x k × (get_or opens x false ≡ false))
    pub order : IsSub gone (live_of (take bound o.slots))
    pub first : IsIn t gone
    pub stays : (y k : ℕ) → IsRank o.slots y k → (IsIn y gone → ⊥)
        → (get_or opens y false ≡ true) ⊎ (((l : Link) × IsIn l (links_at o.into y) × IsIn l.from (live_of o.slots) × (IsIn l.from gone → ⊥)) ⊎ (has_key work k ≡ true))
    pub goes : (y : ℕ) → IsIn y gone → ((y ≡ t) ⊎ (get_or opens y false ≡ false)) × ((l : Link) → IsIn l (links_at o.into y) → IsIn l.from (live_of o.slots) → IsIn l.from gone)

  module _ (usable : IsUsable (shape_of [] o opens)) where
    abbrev Reason : List ℕ → List ℕ → ℕ → ℕ → Type 0
    Reason work gone y k =
        (get_or opens y false ≡ true) ⊎ (((l : Link) × IsIn l (links_at o.into y) × IsIn l.from (live_of o.slots) × (IsIn l.from gone → ⊥)) ⊎ (has_key work k ≡ true))

    -- One that was kept by a link from a transaction that goes.
    lost : (x y k : ℕ) (l : Link) (rest next : List ℕ) (gone : List ℕ) → IsFollowed x o opens rest next → IsRank o.slots y k → IsIn l (links_at o.into y) → l.from ≡ x → Reason next gone y k
    lost x y k l rest next gone follow rank h same = elim (cases_Bool (get_or opens y false)) [
      | inl is ↦ inl is
      | inr is ↦ inr (inr (follow.enters y k l rank h same is))
    ]

    pub drop_start : (r0 : ℕ) (none work : List ℕ) → none ≡ [] → IsRank o.slots t r0 → list_any (λ (l : Link). is_among l.from (live_of o.slots)) (links_at o.into t) ≡ false
        → IsFollowed t o opens none work → IsDropping work (t ∷ [])
    drop_start r0 none work empty r last follow = record {
      bound = r0 + 1;
      waits = λ k is. elim (follow.since k is) [
        | inl was ↦ absurd (no_key none empty k was)
        | inr end ↦
            let up = rises (links_at o.into) o.slots end.0 r0 k end.1 usable.leads end.2 end.3 (subst (λ v. IsRank o.slots v r0) (sym end.4) r) in
            (omega arith, (end.0, end.2, end.5))
      ];
      order = next_sub o.slots t r0 0 r (omega arith) [] tt;
      first = inl refl;
      stays = λ y k rank out. elim (usable.live y (rank_in o.slots y k rank)) [
        | inl is ↦ inl is
        | inr link ↦ elim (cases_eq link.0.from t) [
          | inl same ↦ lost t y k link.0 none work (t ∷ []) follow rank link.1 same
          | inr other ↦ inr (inl (link.0, link.1, link.2, λ h. elim h [ inl e ↦ other e | inr none ↦ none ]))
        ]
      ];
      goes = λ y h. elim h [
        | inl same ↦ (
          inl same,
          λ l g live. absurd (both_ways (is_among l.from (live_of o.slots))
              (none_in (λ (m : Link). is_among m.from (live_of o.slots)) (links_at o.into t) last l (subst (λ v. IsIn l (links_at o.into v)) same g)) (among_from_in l.from (live_of o.slots) live)),
        )
        | inr none ↦ absurd none
      ];
    }

    module _ (work rest gone : List ℕ) (k x : ℕ) (state : IsDropping work gone) (pop : IsPopped k work rest) (r : IsRank o.slots x k) where
      -- It stays live.
      pub drop_stay : list_any (from_live (live_of o.slots) gone) (links_at o.into x) ≡ true → IsDropping rest gone
      drop_stay held = record {
        bound = k + 1;
        waits = λ q is. let old = pop.since q is in let up = old.1 in (omega arith, (state.waits q old.0).1);
        order = sub_further o.slots gone state.bound (k + 1) (let low = (state.waits k pop.was).0 in omega arith) state.order;
        first = state.first;
        stays = λ y q rank out. elim (state.stays y q rank out) [
          | inl is ↦ inl is
          | inr more ↦ elim more [
            | inl link ↦ inr (inl link)
            | inr waits ↦ elim (pop.stays q waits) [
              | inl same ↦ inr (inl (subst (λ v. (l : Link) × IsIn l (links_at o.into v) × IsIn l.from (live_of o.slots) × (IsIn l.from gone → ⊥))
                  (sym (same_at o.slots x y k r (subst (IsRank o.slots y) same rank))) by_link))
              | inr left ↦ inr (inr left)
            ]
          ]
        ];
        goes = state.goes;
      }
        where
          by_link : (l : Link) × IsIn l (links_at o.into x) × IsIn l.from (live_of o.slots) × (IsIn l.from gone → ⊥)
          by_link =
              let some = any_in (from_live (live_of o.slots) gone) (links_at o.into x) held in
              let parts = and_parts (is_among some.0.from (live_of o.slots)) (not (is_among some.0.from gone)) some.2 in
              (some.0, some.1, in_from_among some.0.from (live_of o.slots) parts.0, λ h. both_ways (is_among some.0.from gone) (not-true (is_among some.0.from gone) parts.1) (among_from_in some.0.from gone h))

      -- It doesn't.
      pub drop_go : (next : List ℕ) → list_any (from_live (live_of o.slots) gone) (links_at o.into x) ≡ false → IsFollowed x o opens rest next → IsDropping next (gone ++ x ∷ [])
      drop_go next none follow = record {
        bound = k + 1;
        waits = λ q is. elim (follow.since q is) [
          | inl was ↦ let old = pop.since q was in let up = old.1 in (omega arith, (state.waits q old.0).1)
          | inr end ↦
              let up = rises (links_at o.into) o.slots end.0 k q end.1 usable.leads end.2 end.3 (subst (λ v. IsRank o.slots v k) (sym end.4) r) in
              (omega arith, (end.0, end.2, end.5))
        ];
        order = next_sub o.slots x k state.bound r (state.waits k pop.was).0 gone state.order;
        first = in_left t gone (x ∷ []) state.first;
        stays = λ y q rank out. elim (state.stays y q rank (λ h. out (in_left y gone (x ∷ []) h))) [
          | inl is ↦ inl is
          | inr more ↦ elim more [
            | inl link ↦ elim (cases_eq link.0.from x) [
              | inl same ↦ lost x y q link.0 rest next (gone ++ x ∷ []) follow rank link.1 same
              | inr other ↦ inr (inl (link.0, link.1, link.2, λ h. elim (in_cases link.0.from gone (x ∷ []) h) [ inl g ↦ link.3 g | inr g ↦ elim g [ inl e ↦ other e | inr none ↦ none ] ]))
            ]
            | inr waits ↦ elim (pop.stays q waits) [
              | inl same ↦ absurd (out (in_right y gone (x ∷ []) (inl (same_at o.slots x y k r (subst (IsRank o.slots y) same rank)))))
              | inr left ↦ inr (inr (follow.stays q left))
            ]
          ]
        ];
        goes = λ y h. elim (in_cases y gone (x ∷ []) h) [
          | inl old ↦ let was = state.goes y old in (was.0, λ l g live. in_left l.from gone (x ∷ []) (was.1 l g live))
          | inr last ↦ elim last [ inl same ↦ goes_now y same | inr none ↦ absurd none ]
        ];
      }
        where
          goes_now : (y : ℕ) → y ≡ x → ((y ≡ t) ⊎ (get_or opens y false ≡ false)) × ((l : Link) → IsIn l (links_at o.into y) → IsIn l.from (live_of o.slots) → IsIn l.from (gone ++ x ∷ []))
          goes_now y same =
              let w = (state.waits k pop.was).1 in (
                inr (subst (λ v. get_or opens v false ≡ false) (same_at o.slots y w.0 k (subst (λ v. IsRank o.slots v k) (sym same) r) w.1) w.2),
                λ l g live. in_left l.from gone (x ∷ []) (among l (subst (λ v. IsIn l (links_at o.into v)) same g) live (cases_Bool (is_among l.from gone))),
              )
            where
              among : (l : Link) → IsIn l (links_at o.into x) → IsIn l.from (live_of o.slots) → (is_among l.from gone ≡ true) ⊎ (is_among l.from gone ≡ false) → IsIn l.from gone
              among l g live (inl is) = in_from_among l.from gone is
              among l g live (inr is) =
                  absurd (both_ways (from_live (live_of o.slots) gone l) (none_in (from_live (live_of o.slots) gone) (links_at o.into x) none l g)
                  (and_from (is_among l.from (live_of o.slots)) (not (is_among l.from gone)) (among_from_in l.from (live_of o.slots) live) (ap not is)))

      pub drop_nearer : (next keys : List ℕ) → IsFollowed x o opens rest next → far_from (length o.slots) next < far_from (length o.slots) (k ∷ keys)
      drop_nearer next keys follow =
          nearer (length o.slots) k keys next r.within
          (λ q is. elim (follow.since q is) [
            | inl was ↦ let old = pop.since q was in (old.1, (state.waits q old.0).1.1.within)
            | inr end ↦ (rises (links_at o.into) o.slots end.0 k q end.1 usable.leads end.2 end.3 (subst (λ v. IsRank o.slots v k) (sym end.4) r), end.2.within)
          ])

      pub drop_nearer_too : (keys : List ℕ) → far_from (length o.slots) rest < far_from (length o.slots) (k ∷ keys)
      drop_nearer_too keys = nearer (length o.slots) k keys rest r.within (λ q is. let old = pop.since q is in (old.1, (state.waits q old.0).1.1.within))

    pub drop_end : (work gone : List ℕ) → IsDropping work gone → work ≡ [] → AreGone t (order_of (shape_of [] o opens)) gone
    drop_end work gone state empty = record {
      part = all_part o.slots gone state.bound usable.distinct state.order;
      left = record {
        closed = λ y l stands g is.
            let from = parts l.from is in
            keeps y stands (λ h. from.1 ((state.goes y h).1 l g from.0));
        opens = λ y is.
            let is_open = was_open (y == t) (get_or opens y false) is in
            keeps y (usable.opens y is_open) (λ h. elim (state.goes y h).0 [
              | inl same ↦ false≢true (sym (chosen y t false (get_or opens y false) same) ∙ is)
              | inr closed ↦ both_ways (get_or opens y false) closed is_open
            ]);
        live = λ y h is.
            let out = (parts y is).1 in
            let k = in_rank o.slots y h in
            elim (state.stays y k.0 k.1 out) [
              | inl is_open ↦ inl (passed_by y t false (get_or opens y false) (λ same. out (subst (λ v. IsIn v gone) (sym same) state.first)) ∙ is_open)
              | inr more ↦ elim more [
                | inl link ↦ inr (link.0, link.1, link.2, keeps link.0.from link.2 link.3)
                | inr waits ↦ absurd (no_key work empty k.0 waits)
              ]
            ];
      };
    }
      where
        keeps : (y : ℕ) → IsIn y (live_of o.slots) → (IsIn y gone → ⊥) → (is_among y (live_of o.slots) && not (is_among y gone)) ≡ true
        keeps y h out = and_from (is_among y (live_of o.slots)) (not (is_among y gone)) (among_from_in y (live_of o.slots) h) (elim (cases_Bool (is_among y gone)) [
          | inl is ↦ absurd (out (in_from_among y gone is))
          | inr is ↦ ap not is
        ])

        parts : (y : ℕ) → (is_among y (live_of o.slots) && not (is_among y gone)) ≡ true → IsIn y (live_of o.slots) × (IsIn y gone → ⊥)
        parts y is =
            let both = and_parts (is_among y (live_of o.slots)) (not (is_among y gone)) is in
            (in_from_among y (live_of o.slots) both.0, λ h. both_ways (is_among y gone) (not-true (is_among y gone) both.1) (among_from_in y gone h))

pub empty_len : (keys : List ℕ) → length keys ≡ 0 → keys ≡ []
empty_len [] is = refl
empty_len (k ∷ keys) is = absurd (omega arith)
