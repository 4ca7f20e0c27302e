-- Distances along links, found in one pass over an order in which links lead forward.
use Rattle.std.proofs.Common.{◌≡◌, ◌≢◌, ℕ, ◌+◌, ◌<◌, ◌≤◌, cond, ◌==◌, ◌⊎◌, inl, inr, List, [], ◌∷◌, ◌++◌, Some, length, take, drop, get_or, sym, ap, subst, ◌∙◌, arith}
use Rattle.std.proofs.lemmas.Bool.{cases_eq, eq-eqb, ne_eqb}
use Rattle.std.proofs.lemmas.Bool.Decides.{nat_tests}
use Rattle.std.proofs.lemmas.Option.{none-some, same_Some}
use Rattle.std.proofs.lemmas.List.{take-append-drop, take_more, take_all}
use Rattle.std.specs.Ordering.{nat_cmp}
use Rattle.std.specs.BTreeMap.{is_at}
use Rattle.velodrome.specs.Cycles.{IsIn}
use Rattle.atom_order.specs.declared.distances.Near.{Near}
use Rattle.atom_order.specs.declared.link.Link.{Link}
use Rattle.atom_order.specs.Distances.{IsDistance, distance_in, AreDistances, IsNearest, AreFar, IsNext}
use Rattle.atom_order.specs.Reaching.{LeadForward}
use Rattle.atom_order.specs.Trails.{IsTrail}
use Rattle.atom_order.proofs.Forward.{forward_back}
use Rattle.atom_order.proofs.Lists.{at_in, cut_at}
use Rattle.atom_order.proofs.Members.{in_cases}

module _ (live : List ℕ) (into : ℕ → List Link) (t : ℕ) where
  -- The distances that are stored after a part of the order.
  pub record AreSoFar (seen : List ℕ) (count : ℕ) (entries : List (ℕ × ℕ)) : Type 0 where
    pub kept : (x n : ℕ) → distance_in entries x ≡ Some n → IsDistance live into t x n × (n < count)
    pub all : (x : ℕ) (trail : List Link) → IsIn x seen → IsTrail live into t x trail → (n : ℕ) × (distance_in entries x ≡ Some n)

  pub none_so_far : (entries : List (ℕ × ℕ)) → entries ≡ [] → AreSoFar [] 0 entries
  none_so_far entries is = record {
    kept = λ x n at. absurd (none-some n (sym (ap (λ es. distance_in es x) is) ∙ at));
    all = λ x trail h way. absurd h;
  }

-- ---- One pass

module _ (live : List ℕ) (into : ℕ → List Link) (t : ℕ) (there : IsIn t live) (leads : LeadForward into live) where
  -- Links lead back only from live transactions.
  trail_live : (x : ℕ) (trail : List Link) → IsTrail live into t x trail → IsIn x live
  trail_live x [] same = subst (λ v. IsIn v live) (sym same) there
  trail_live x (l ∷ trail) way = way.0

  -- A link's transaction was visited before.
  earlier : (i y : ℕ) (l : Link) → i < length live → get_or live i 0 ≡ y → IsIn l (into y) → IsIn l.from live → IsIn l.from (take i live)
  earlier i y l low here g h =
      elim (in_cases l.from (take i live) (drop i live) (subst (IsIn l.from) (sym (take-append-drop i live)) h)) [
        | inl front ↦ front
        | inr back ↦ absurd ((subst (LeadForward into) (cut_at 0 i y live low here)
            (forward_back into (take i live) (drop i live) (subst (LeadForward into) (sym (take-append-drop i live)) leads))).0 l g
            (subst (IsIn l.from) (cut_at 0 i y live low here) back))
      ]

  module _ (i y : ℕ) (entries : List (ℕ × ℕ)) (low : i < length live) (here : get_or live i 0 ≡ y) (so : AreSoFar live into t (take i live) i entries) where
    y_live : IsIn y live
    y_live = subst (λ v. IsIn v live) here (at_in 0 live i low)

    -- A distance is stored where the first link of a trail leads from, and it is at most the length of the rest.
    back_from : (l : Link) (others : List Link) → IsIn l (into y) → IsTrail live into t l.from others → (m : ℕ) × (distance_in entries l.from ≡ Some m) × (m ≤ length others)
    back_from l others g way =
        let some = so.all l.from others (earlier i y l low here g (trail_live l.from others way)) way in
        (some.0, some.1, (so.kept l.from some.0 some.1).0.least others way)

    next_is : (n : ℕ) → IsNext t y (into y) entries n → IsDistance live into t y n × (n < i + 1)
    next_is n (inl start) =
        let zero_is = start.1 in (
          record { trail = []; way = start.0; long = sym start.1; least = λ others way. omega arith },
          omega arith,
        )
    next_is n (inr next) =
        let near = next.1 in
        let nearest = next.2 in
        let sum = next.3 in
        let far = so.kept near.link.from near.distance nearest.at in
        let bound = far.1 in
        let long = far.0.long in (
          record {
            trail = near.link ∷ far.0.trail;
            way = (y_live, nearest.among, far.0.way);
            long = omega arith;
            least = λ others way. by others way;
          },
          omega arith,
        )
      where
        by : (others : List Link) → IsTrail live into t y others → n ≤ length others
        by [] same = absurd (next.0 same)
        by (k ∷ others) way =
            let some = back_from k others way.1 way.2 in
            let one = next.2.least k some.0 way.1 some.1 in
            let two = some.2 in
            let sum = next.3 in
            omega arith

    no_trail : y ≢ t → AreFar (into y) entries → (trail : List Link) → IsTrail live into t y trail → ⊥
    no_trail other far [] same = other same
    no_trail other far (k ∷ others) way =
        let some = back_from k others way.1 way.2 in
        none-some some.0 (sym (far k way.1) ∙ some.1)

    seen_more : (x : ℕ) → IsIn x (take (i + 1) live) → IsIn x (take i live) ⊎ (x ≡ y)
    seen_more x h = elim (in_cases x (take i live) (y ∷ []) (subst (IsIn x) (take_more live i 0 low ∙ ap (λ z. take i live ++ z ∷ []) here) h)) [
      | inl front ↦ inl front
      | inr last ↦ elim last [ inl same ↦ inr same | inr none ↦ absurd none ]
    ]

    -- One more distance is stored.
    pub one_more : (more : List (ℕ × ℕ)) (n : ℕ) → IsNext t y (into y) entries n → ((q : ℕ) → distance_in more q ≡ cond (is_at (nat_cmp y) q) (Some n) (distance_in entries q))
        → AreSoFar live into t (take (i + 1) live) (i + 1) more
    one_more more n next updates = record {
      kept = λ x m at. elim (cases_eq x y) [
        | inl same ↦ subst (λ v. IsDistance live into t v m × (m < i + 1)) (sym same) (subst (λ v. IsDistance live into t y v × (v < i + 1)) (same_Some n m (sym (at_here x same) ∙ at)) (next_is n next))
        | inr other ↦ let old = so.kept x m (sym (at_other x other) ∙ at) in let bound = old.1 in (old.0, omega arith)
      ];
      all = λ x trail h way. elim (cases_eq x y) [
        | inl same ↦ (n, at_here x same)
        | inr other ↦ elim (seen_more x h) [
          | inl front ↦ let old = so.all x trail front way in (old.0, at_other x other ∙ old.1)
          | inr same ↦ absurd (other same)
        ]
      ];
    }
      where
        same_key : (q : ℕ) → is_at (nat_cmp y) q ≡ (q == y)
        same_key q = grind (arith, nat_tests)

        at_here : (x : ℕ) → x ≡ y → distance_in more x ≡ Some n
        at_here x same = updates x ∙ ap (λ b. cond b (Some n) (distance_in entries x)) (same_key x ∙ eq-eqb x y same)

        at_other : (x : ℕ) → x ≢ y → distance_in more x ≡ distance_in entries x
        at_other x other = updates x ∙ ap (λ b. cond b (Some n) (distance_in entries x)) (same_key x ∙ ne_eqb x y other)

    -- No links lead back.
    pub none_more : y ≢ t → AreFar (into y) entries → AreSoFar live into t (take (i + 1) live) (i + 1) entries
    none_more other far = record {
      kept = λ x m at. let old = so.kept x m at in let bound = old.1 in (old.0, omega arith);
      all = λ x trail h way. elim (seen_more x h) [
        | inl front ↦ so.all x trail front way
        | inr same ↦ absurd (no_trail other far trail (subst (λ v. IsTrail live into t v trail) same way))
      ];
    }

  pub all_so_far : (i : ℕ) (entries : List (ℕ × ℕ)) → length live ≤ i → AreSoFar live into t (take i live) i entries → AreDistances live into t entries
  all_so_far i entries far so = record {
    kept = λ x n at. (so.kept x n at).0;
    all = λ x trail way. so.all x trail (subst (IsIn x) (sym (take_all i live far)) (trail_live x trail way)) way;
  }

-- ---- The way back

module _ (live : List ℕ) (into : ℕ → List Link) (t : ℕ) (entries : List (ℕ × ℕ)) (are : AreDistances live into t entries) where
  -- A nearest link is the first of a shortest trail.
  pub step_back : (x n : ℕ) (near : Near) → distance_in entries x ≡ Some n → x ≢ t → IsNearest (into x) entries near → IsIn x live × (near.distance + 1 ≡ n)
  step_back x n near at other nearest = by (are.kept x n at).trail (are.kept x n at).way (are.kept x n at).long
    where
      by : (trail : List Link) → IsTrail live into t x trail → length trail ≡ n → IsIn x live × (near.distance + 1 ≡ n)
      by [] same long = absurd (other same)
      by (k ∷ others) way long =
          let some = are.all k.from others way.2 in
          let low = (are.kept k.from some.0 some.1).least others way.2 in
          let least = nearest.least k some.0 way.1 some.1 in
          let far = are.kept near.link.from near.distance nearest.at in
          let far_long = far.long in
          let high = (are.kept x n at).least (near.link ∷ far.trail) (way.0, nearest.among, far.way) in
          (way.0, omega arith)

  pub leads_on : (x n : ℕ) → distance_in entries x ≡ Some n → x ≢ t → AreFar (into x) entries → ⊥
  leads_on x n at other far = by (are.kept x n at).trail (are.kept x n at).way
    where
      by : (trail : List Link) → IsTrail live into t x trail → ⊥
      by [] same = other same
      by (k ∷ others) way = let some = are.all k.from others way.2 in none-some some.0 (sym (far k way.1) ∙ some.1)

  pub ends_at : (x n : ℕ) → distance_in entries x ≡ Some n → x ≡ t → n ≡ 0
  ends_at x n at same = let low = (are.kept x n at).least [] same in omega arith

  -- Any trail back from a link is at least as long as the nearest one's.
  pub no_shorter : (links : List Link) (near : Near) → IsNearest links entries near → (l : Link) (others : List Link) → IsIn l links → IsTrail live into t l.from others → near.distance ≤ length others
  no_shorter links near nearest l others h way =
      let some = are.all l.from others way in
      let one = nearest.least l some.0 h some.1 in
      let two = (are.kept l.from some.0 some.1).least others way in
      omega arith

  pub closes_none : (links : List Link) → AreFar links entries → (l : Link) (trail : List Link) → IsIn l links → IsTrail live into t l.from trail → ⊥
  closes_none links far l trail h way = let some = are.all l.from trail way in none-some some.0 (sym (far l h) ∙ some.1)
