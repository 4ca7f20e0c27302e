-- The stored links stay right when transactions begin, get links, move and are dropped.
use Rattle.std.proofs.Common.{◌≡◌, ◌≢◌, ℕ, ◌+◌, ◌-◌, ◌<◌, ◌≤◌, Bool, true, false, not, cond, ◌==◌, ◌&&◌, nat_lt, ◌⊎◌, inl, inr, List, [], ◌∷◌, ◌++◌, Some, Result, Ok, Err, OnOk, OnErr, length, get_or, set, take, drop, refl, sym, ap, subst, ◌∙◌, arith, length-append}
use Rattle.std.proofs.lemmas.Bool.{cases_Bool, cases_eq, cases_lt, both_ways, ne_eqb, and_parts, not-true}
use Rattle.std.proofs.lemmas.Option.{same_Some}
use borrow.Author.Tests.{ltb-true}
use Rattle.std.specs.List.{list_any}
use Rattle.std.proofs.lemmas.List.{take-append-drop, length-take-le, get_or_append_left, get_or_push, get_or_default, length_push}
use Rattle.velodrome.specs.Cycles.{IsIn}
use Rattle.atom_order.specs.declared.link.Link.{Link}
use Rattle.atom_order.specs.declared.slots.Exit.{Exit}
use Rattle.atom_order.specs.declared.slots.Slot.{Slot}
use Rattle.atom_order.specs.Exits.{links_at, source_at, exit_to, AreAdded, AreExits, AreLinked, AreNoted, ArePassed, HasMoreExits}
use Rattle.atom_order.specs.Reaching.{is_among, LeadForward}
use Rattle.atom_order.specs.Slots.{gap, numbers_of, live_of, IsRank}
use Rattle.atom_order.proofs.Forward.{forward_across, forward_back, forward_front, forward_less}
use Rattle.atom_order.proofs.Gaps.{live_append, live_one, numbers_len, numbers_push, numbers_same, rank_in, rank_read}
use Rattle.atom_order.proofs.Lists.{all_none, any_append, at_in, set_in}
use Rattle.atom_order.proofs.Kept.{chosen, passed_by}
use Rattle.atom_order.proofs.Members.{in_left, in_cases, in_filter, among_from_in, in_from_among}
use Rattle.atom_order.proofs.Sources.{in_source, source_in, source_left, source_right, source_within}

abbrev pub lives : List Slot → List ℕ
lives slots = live_of (numbers_of slots)

-- A slot of a live transaction comes from one of these, with at least its exits.
abbrev pub Comes : List Slot → Slot → Type 0
Comes slots s = (o : Slot) × IsIn o slots × (s.transaction ≡ o.transaction) × (s.passed ≡ o.passed) × ((e : Exit) → IsIn e o.exits → IsIn e s.exits)

abbrev pub AllCome : List Slot → List Slot → Type 0
AllCome slots new = (s : Slot) → IsIn s new → IsIn s.transaction (lives new) → Comes slots s

-- ---- Parts of what is stored

module _ (slots new : List Slot) (into onto : List (List Link)) (come : AllCome slots new) (stay : (y : ℕ) → IsIn y (lives new) → IsIn y (lives slots))
    (same : (y : ℕ) → IsIn y (lives new) → links_at onto y ≡ links_at into y) where
  pub exits_kept : AreExits slots into → AreExits new onto
  exits_kept exits s y i h live there is =
      let o = come s h live in
      o.4 (exit_to y i)
      (exits o.0 y i o.1 (subst (λ v. IsIn v (lives slots)) o.2 (stay s.transaction live)) (stay y there)
      (ap (λ l. source_at l i) (sym (same y there)) ∙ is ∙ ap (λ v. Some v) o.2))

  pub passed_kept : length into ≤ length onto → ArePassed slots into → ArePassed new onto
  passed_kept long passed = record {
    within = λ s h live.
        let o = come s h live in
        let within = passed.within o.0 o.1 (subst (λ v. IsIn v (lives slots)) o.2 (stay s.transaction live)) in
        let a = o.3 in
        let b = ap (λ (l : List Link). length l) (same s.transaction live ∙ ap (links_at into) o.2) in
        omega arith;
    dropped = λ s i x h live less is.
        let o = come s h live in
        let before : i < o.0.passed = subst (λ n. i < n) o.3 less in
        let old = passed.dropped o.0 i x o.1 (subst (λ v. IsIn v (lives slots)) o.2 (stay s.transaction live)) before
        (ap (λ l. source_at l i) (sym (same s.transaction live ∙ ap (links_at into) o.2)) ∙ is) in
        let low = old.0 in
        (omega arith, not_live x old.1 (cases_Bool (is_among x (lives new))));
  }
    where
      not_live : (x : ℕ) → is_among x (lives slots) ≡ false → (is_among x (lives new) ≡ true) ⊎ (is_among x (lives new) ≡ false) → is_among x (lives new) ≡ false
      not_live x none (inl is) = absurd (both_ways (is_among x (lives slots)) none (among_from_in x (lives slots) (stay x (in_from_among x (lives new) is))))
      not_live x none (inr is) = is

-- ---- Exits are noted

module _ (slots now : List Slot) (more : HasMoreExits slots now) where
  pub more_come : AllCome slots now
  more_come s h live = more.slots s h

  pub more_stay : (y : ℕ) → IsIn y (lives now) → IsIn y (lives slots)
  more_stay y h = subst (λ xs. IsIn y (live_of xs)) more.numbers h

  pub more_linked : (into : List (List Link)) → AreLinked slots into → AreLinked now into
  more_linked into linked = record {
    some = linked.some;
    known = λ y h. linked.known y (more_stay y h);
    exits = λ f. exits_kept slots now into into more_come more_stay (λ y h. refl) (linked.exits (subst (λ xs. LeadForward (links_at into) (live_of xs)) more.numbers f));
    passed = passed_kept slots now into into more_come more_stay (λ y h. refl) (omega arith) linked.passed;
  }

  -- ---- Links are added

  module _ (t : ℕ) (links : List Link) (into onto : List (List Link)) (noted : AreNoted t (length (links_at into t)) links now) (added : AreAdded t links into onto) where
    source_now : (y i : ℕ) → i < length (links_at into y) → source_at (links_at onto y) i ≡ source_at (links_at into y) i
    source_now y i less = ap (λ l. source_at l i) (added.into y) ∙ by (y == t)
      where
        by : (b : Bool) → source_at (cond b (links_at into y ++ links) (links_at into y)) i ≡ source_at (links_at into y) i
        by true = source_left (links_at into y) links i less
        by false = refl

    longer : (y : ℕ) → length (links_at into y) ≤ length (links_at onto y)
    longer y = subst (λ (l : List Link). length (links_at into y) ≤ length l) (sym (added.into y)) (by (y == t))
      where
        by : (b : Bool) → length (links_at into y) ≤ length (cond b (links_at into y ++ links) (links_at into y))
        by true = let long = length-append (links_at into y) links in omega arith
        by false = omega arith

    pub exits_added : AreExits slots into → AreExits now onto
    exits_added exits s y i h live there is = elim (cases_lt i (length (links_at into y))) [
      | inl less ↦
          exits_kept slots now into into more_come more_stay (λ z g. refl) exits s y i h live there (sym (source_now y i less) ∙ is)
      | inr far ↦ elim (cases_eq y t) [
        | inl same ↦
            let first = length (links_at into t) in
            let at : first + (i - first) ≡ i = let e = ap (λ v. length (links_at into v)) same in omega arith in
            let links_now : links_at onto y ≡ links_at into t ++ links = added.into y ∙ chosen y t (links_at into y ++ links) (links_at into y) same ∙ ap (λ v. links_at into v ++ links) same in
            subst (λ e. IsIn e s.exits) (ap (λ j. exit_to t j) at ∙ ap (λ v. exit_to v i) (sym same))
            (noted s (i - first) h live (sym (source_right (links_at into t) links (i - first)) ∙ ap (λ j. source_at (links_at into t ++ links) j) at ∙ ap (λ l. source_at l i) (sym links_now) ∙ is))
        | inr other ↦
            let none : links_at onto y ≡ links_at into y = added.into y ∙ passed_by y t (links_at into y ++ links) (links_at into y) other in
            let low = source_within (links_at into y) i s.transaction (ap (λ l. source_at l i) (sym none) ∙ is) in
            absurd (omega arith)
      ]
    ]

    pub passed_added : ArePassed slots into → ArePassed now onto
    passed_added passed =
        let kept = passed_kept slots now into into more_come more_stay (λ y h. refl) (omega arith) passed in
        let long = added.len in
        record {
          within = λ s h live. let a = kept.within s h live in let b = longer s.transaction in omega arith;
          dropped = λ s i x h live less is.
              let within = kept.within s h live in
              let old = kept.dropped s i x h live less (sym (source_now s.transaction i (omega arith)) ∙ is) in
              let low = old.0 in
              (omega arith, old.1);
        }

    fewer : (y : ℕ) (l : Link) → IsIn l (links_at into y) → IsIn l (links_at onto y)
    fewer y l h = subst (IsIn l) (sym (added.into y)) (by (y == t))
      where
        by : (b : Bool) → IsIn l (cond b (links_at into y ++ links) (links_at into y))
        by true = in_left l (links_at into y) links h
        by false = h

    pub added_linked : AreLinked slots into → AreLinked now onto
    added_linked linked =
        let long = added.len in
        record {
          some = let some = linked.some in omega arith;
          known = λ y h. let low = linked.known y (more_stay y h) in omega arith;
          exits = λ f. exits_added (linked.exits (forward_less (links_at onto) (links_at into) (lives slots) (λ y l _ g. fewer y l g) (subst (λ xs. LeadForward (links_at onto) (live_of xs)) more.numbers f)));
          passed = passed_added linked.passed;
        }

-- ---- Slots are removed or moved

module _ (slots new : List Slot) (into onto : List (List Link)) (come : (s : Slot) → IsIn s new → s.transaction ≢ 0 → IsIn s slots)
    (stay : (y : ℕ) → IsIn y (lives new) → IsIn y (lives slots)) (lives_only : (y : ℕ) → IsIn y (lives new) → y ≢ 0)
    (same : (y : ℕ) → IsIn y (lives new) → links_at onto y ≡ links_at into y) (long : length onto ≡ length into) where
  pub rearranged : (0 < length into) → ((y : ℕ) → IsIn y (lives slots) → y < length into) → AreExits slots into → ArePassed slots into → AreLinked new onto
  rearranged some known exits passed = record {
    some = omega arith;
    known = λ y h. let low = known y (stay y h) in omega arith;
    exits = λ f. exits_kept slots new into onto comes stay same exits;
    passed = passed_kept slots new into onto comes stay same (omega arith) passed;
  }
    where
      comes : AllCome slots new
      comes s h live = (s, come s h (lives_only s.transaction live), refl, refl, λ e g. g)

-- A slot that isn't a gap has a live transaction.
pub slot_live : (slots : List Slot) (s : Slot) → IsIn s slots → s.transaction ≢ 0 → IsIn s.transaction (lives slots)
slot_live slots s h other = in_filter (λ x. not (x == 0)) s.transaction (numbers_of slots) (ap not (ne_eqb s.transaction 0 other)) (in_map slots h)
  where
    in_map : (ss : List Slot) → IsIn s ss → IsIn s.transaction (numbers_of ss)
    in_map [] g = absurd g
    in_map (z ∷ ss) (inl same) = inl (ap (λ (n : Slot). n.transaction) same)
    in_map (z ∷ ss) (inr g) = inr (in_map ss g)

-- ---- A transaction begins

at_front : (into : List (List Link)) (links : List Link) (y : ℕ) → y < length into → links_at (into ++ links ∷ []) y ≡ links_at into y
at_front into links y less = get_or_append_left into (links ∷ []) [] y less

pub skipped_linked : (slots : List Slot) (into : List (List Link)) (links : List Link) → AreLinked slots into → AreLinked slots (into ++ links ∷ [])
skipped_linked slots into links linked =
    let long = length_push into links in
    let same = λ (y : ℕ) (h : IsIn y (lives slots)). at_front into links y (linked.known y h) in
    let come : AllCome slots slots = λ s h live. (s, h, refl, refl, λ e g. g) in
    record {
      some = let some = linked.some in omega arith;
      known = λ y h. let low = linked.known y h in omega arith;
      exits = λ f. exits_kept slots slots into (into ++ links ∷ []) come (λ y h. h) same
          (linked.exits (forward_less (links_at (into ++ links ∷ [])) (links_at into) (lives slots) (λ y l h g. subst (IsIn l) (sym (same y h)) g) f));
      passed = passed_kept slots slots into (into ++ links ∷ []) come (λ y h. h) same (omega arith) linked.passed;
    }

module _ (slots now : List Slot) (into : List (List Link)) (links : List Link) (linked : AreLinked slots into) (more : HasMoreExits slots now)
    (noted : AreNoted (length into) 0 links now) where
  abbrev n : ℕ
  n = length into

  abbrev new : List Slot
  new = now ++ record gap { transaction = length into } ∷ []

  abbrev onto : List (List Link)
  onto = into ++ links ∷ []

  before : AreLinked now into
  before = more_linked slots now more into linked

  other : length into ≢ 0
  other same = let some = linked.some in absurd (omega arith)

  pub lives_new : lives (now ++ record gap { transaction = length into } ∷ []) ≡ lives now ++ length into ∷ []
  lives_new = ap live_of (numbers_push now (record gap { transaction = n })) ∙ live_append (numbers_of now) (n ∷ []) ∙ ap (λ l. lives now ++ l) (live_one n [] other)

  live_cases : (y : ℕ) → IsIn y (lives (now ++ record gap { transaction = length into } ∷ [])) → IsIn y (lives now) ⊎ (y ≡ length into)
  live_cases y h = elim (in_cases y (lives now) (n ∷ []) (subst (λ (l : List ℕ). IsIn y l) lives_new h)) [
    | inl g ↦ inl g
    | inr g ↦ elim g [ inl same ↦ inr same | inr none ↦ absurd none ]
  ]

  not_new : IsIn (length into) (lives now) → ⊥
  not_new h = let low = before.known n h in absurd (omega arith)

  at_new : links_at (into ++ links ∷ []) (length into) ≡ links
  at_new = get_or_push into links [] n refl

  -- No link leads from the new transaction.
  none_from : LeadForward (links_at (into ++ links ∷ [])) (lives (now ++ record gap { transaction = length into } ∷ []))
      → (y : ℕ) (l : Link) → IsIn y (lives (now ++ record gap { transaction = length into } ∷ [])) → IsIn l (links_at (into ++ links ∷ []) y) → l.from ≡ length into → ⊥
  none_from f y l h g from =
      let forward = subst (λ (xs : List ℕ). LeadForward (links_at onto) xs) lives_new f in
      elim (live_cases y h) [
        | inl old ↦ forward_across (links_at onto) (lives now) (n ∷ []) y l forward old g (inl from)
        | inr same ↦ (forward_back (links_at onto) (lives now) (n ∷ []) forward).0 l (subst (λ v. IsIn l (links_at onto v)) same g) (inl from)
      ]

  exits_new : LeadForward (links_at (into ++ links ∷ [])) (lives (now ++ record gap { transaction = length into } ∷ [])) → AreExits (now ++ record gap { transaction = length into } ∷ []) (into ++ links ∷ [])
  exits_new f s y i h live there is = elim (live_cases s.transaction live) [
    | inr same ↦ let l = source_in (links_at onto y) i s.transaction is in absurd (none_from f y l.0 there l.1 (l.2 ∙ same))
    | inl old ↦ elim (in_cases s now (record gap { transaction = n } ∷ []) h) [
      | inr g ↦ elim g [ inl same ↦ absurd (not_new (subst (λ v. IsIn v (lives now)) (ap (λ (t : Slot). t.transaction) same) old)) | inr none ↦ absurd none ]
      | inl g ↦ elim (live_cases y there) [
        | inl was ↦
            before.exits
            (forward_less (links_at onto) (links_at into) (lives now) (λ z l k m. subst (IsIn l) (sym (at_front into links z (before.known z k))) m)
            (forward_front (links_at onto) (lives now) (n ∷ []) (subst (λ (xs : List ℕ). LeadForward (links_at onto) xs) lives_new f)))
            s y i g old was (ap (λ l. source_at l i) (sym (at_front into links y (before.known y was))) ∙ is)
        | inr same ↦
            let zero : 0 + i ≡ i = omega arith in
            subst (λ e. IsIn e s.exits) (ap (λ j. exit_to n j) zero ∙ ap (λ v. exit_to v i) (sym same))
            (noted s i g old (ap (λ l. source_at l i) (sym (ap (links_at onto) same ∙ at_new)) ∙ is))
      ]
    ]
  ]

  passed_new : ArePassed (now ++ record gap { transaction = length into } ∷ []) (into ++ links ∷ [])
  passed_new = record {
    within = λ s h live. within s (in_cases s now (record gap { transaction = n } ∷ []) h) (live_cases s.transaction live);
    dropped = λ s i x h live less is. dropped s i x (in_cases s now (record gap { transaction = n } ∷ []) h) (live_cases s.transaction live) less is;
  }
    where
      old_slot : (s : Slot) → IsIn s now → IsIn s.transaction (lives now) ⊎ (s.transaction ≡ length into) → IsIn s.transaction (lives now)
      old_slot s g (inl old) = old
      old_slot s g (inr same) = slot_live now s g (λ e. other (sym same ∙ e))

      within : (s : Slot) → IsIn s now ⊎ IsIn s (record gap { transaction = length into } ∷ []) → IsIn s.transaction (lives now) ⊎ (s.transaction ≡ length into)
          → s.passed ≤ length (links_at (into ++ links ∷ []) s.transaction)
      within s (inl g) live =
          let old = old_slot s g live in
          let low = before.passed.within s g old in
          let same = ap (λ (l : List Link). length l) (at_front into links s.transaction (before.known s.transaction old)) in
          omega arith
      within s (inr (inl same)) live = let zero : s.passed ≡ 0 = ap (λ (t : Slot). t.passed) same in omega arith
      within s (inr (inr none)) live = absurd none

      dropped : (s : Slot) (i x : ℕ) → IsIn s now ⊎ IsIn s (record gap { transaction = length into } ∷ []) → IsIn s.transaction (lives now) ⊎ (s.transaction ≡ length into) → i < s.passed
          → source_at (links_at (into ++ links ∷ []) s.transaction) i ≡ Some x → (x < length (into ++ links ∷ [])) × (is_among x (lives (now ++ record gap { transaction = length into } ∷ [])) ≡ false)
      dropped s i x (inl g) live less is =
          let old = old_slot s g live in
          let more = before.passed.dropped s i x g old less (ap (λ l. source_at l i) (sym (at_front into links s.transaction (before.known s.transaction old))) ∙ is) in
          let low = more.0 in
          let long = length_push into links in (
            omega arith,
            elim (cases_Bool (is_among x (lives new))) [
              | inl in_it ↦ elim (live_cases x (in_from_among x (lives new) in_it)) [
                | inl was ↦ absurd (both_ways (is_among x (lives now)) more.1 (among_from_in x (lives now) was))
                | inr same ↦ absurd (omega arith)
              ]
              | inr out ↦ out
            ],
          )
      dropped s i x (inr (inl same)) live less is = let zero : s.passed ≡ 0 = ap (λ (t : Slot). t.passed) same in absurd (omega arith)
      dropped s i x (inr (inr none)) live less is = absurd none

  pub pushed_linked : AreLinked (now ++ record gap { transaction = length into } ∷ []) (into ++ links ∷ [])
  pushed_linked =
      let long = length_push into links in
      record {
        some = omega arith;
        known = λ y h. elim (live_cases y h) [ inl old ↦ (let low = before.known y old in omega arith) | inr same ↦ omega arith ];
        exits = exits_new;
        passed = passed_new;
      }

-- ---- Links are passed

module _ (slots : List Slot) (into : List (List Link)) (x k n : ℕ) (linked : AreLinked slots into) (r : IsRank (numbers_of slots) x k)
    (fits : n ≤ length (links_at into x))
    (dead : (i z : ℕ) → i < n → source_at (links_at into x) i ≡ Some z → (z < length into) × (is_among z (lives slots) ≡ false)) where
  abbrev slot : Slot
  slot = get_or slots k gap

  abbrev after : List Slot
  after = set slots k (record slot { passed = n })

  less : k < length slots
  less = let bound = r.within in let long = numbers_len slots in omega arith

  here : slot.transaction ≡ x
  here = rank_read slots x k slot (get_or_default slots k gap slot less) r

  numbers : numbers_of after ≡ numbers_of slots
  numbers = numbers_same slots k (record slot { passed = n }) refl

  was_live : (y : ℕ) → IsIn y (lives after) → IsIn y (lives slots)
  was_live y h = subst (λ xs. IsIn y (live_of xs)) numbers h

  pub passed_linked : AreLinked (set slots k (record (get_or slots k gap) { passed = n })) into
  passed_linked = record {
    some = linked.some;
    known = λ y h. linked.known y (was_live y h);
    exits = λ f s y i h live there is. exits (linked.exits (subst (λ xs. LeadForward (links_at into) (live_of xs)) numbers f)) s y i h live there is;
    passed = record {
      within = λ s h live. elim (set_in gap slots k (record slot { passed = n }) s h) [
        | inl same ↦ subst (λ (t : Slot). t.passed ≤ length (links_at into t.transaction)) (sym same) (subst (λ v. n ≤ length (links_at into v)) (sym here) fits)
        | inr at ↦ linked.passed.within s (subst (λ (t : Slot). IsIn t slots) at.3 (at_in gap slots at.0 at.1)) (was_live s.transaction live)
      ];
      dropped = λ s i z h live low is. elim (set_in gap slots k (record slot { passed = n }) s h) [
        | inl same ↦ again z (dead i z (subst (λ (t : Slot). i < t.passed) same low) (ap (λ v. source_at (links_at into v) i) (sym (ap (λ (t : Slot). t.transaction) same ∙ here)) ∙ is))
        | inr at ↦ again z (linked.passed.dropped s i z (subst (λ (t : Slot). IsIn t slots) at.3 (at_in gap slots at.0 at.1)) (was_live s.transaction live) low is)
      ];
    };
  }
    where
      again : (z : ℕ) → (z < length into) × (is_among z (lives slots) ≡ false) → (z < length into) × (is_among z (lives after) ≡ false)
      again z d = (d.0, ap (λ xs. is_among z (live_of xs)) numbers ∙ d.1)

      exits : AreExits slots into → AreExits after into
      exits old s y i h live there is = elim (set_in gap slots k (record slot { passed = n }) s h) [
        | inl same ↦
            subst (λ (t : Slot). IsIn (exit_to y i) t.exits) (sym same)
            (old slot y i (at_in gap slots k less) (subst (λ v. IsIn v (lives slots)) (ap (λ (t : Slot). t.transaction) same) (was_live s.transaction live)) (was_live y there)
            (is ∙ ap (λ v. Some v) (ap (λ (t : Slot). t.transaction) same)))
        | inr at ↦ old s y i (subst (λ (t : Slot). IsIn t slots) at.3 (at_in gap slots at.0 at.1)) (was_live s.transaction live) (was_live y there) is
      ]

-- Links are added, or only exits are noted.
pub added_or : {A E : Type 0} (r : Result A E) (slots now : List Slot) (into onto : List (List Link)) (t : ℕ) (links : List Link) → HasMoreExits slots now
    → OnOk r (AreNoted t (length (links_at into t)) links now) → OnOk r (AreAdded t links into onto) → OnErr r (onto ≡ into) → AreLinked slots into
    → (length onto ≡ length into) × AreLinked now onto
added_or (Ok a) slots now into onto t links more noted added _ linked = (added.len, added_linked slots now more t links into onto noted added linked)
added_or (Err e) slots now into onto t links more _ _ same linked =
    (ap (λ (l : List (List Link)). length l) same, subst (λ (l : List (List Link)). AreLinked now l) (sym same) (more_linked slots now more into linked))

-- The passed links into a live transaction.
pub first_passed : (slots : List Slot) (into : List (List Link)) (x k : ℕ) → AreLinked slots into → IsRank (numbers_of slots) x k
    → ((get_or slots k gap).passed ≤ length (links_at into x))
    × ((i z : ℕ) → i < (get_or slots k gap).passed → source_at (links_at into x) i ≡ Some z → (z < length into) × (is_among z (lives slots) ≡ false))
first_passed slots into x k linked r = (
  subst (λ v. slot.passed ≤ length (links_at into v)) here (linked.passed.within slot at live),
  λ i z less is. linked.passed.dropped slot i z at live less (ap (λ v. source_at (links_at into v) i) here ∙ is),
)
  where
    slot : Slot
    slot = get_or slots k gap

    less : k < length slots
    less = let bound = r.within in let long = numbers_len slots in omega arith

    here : (get_or slots k gap).transaction ≡ x
    here = rank_read slots x k (get_or slots k gap) (get_or_default slots k gap (get_or slots k gap) less) r

    at : IsIn (get_or slots k gap) slots
    at = at_in gap slots k less

    live : IsIn (get_or slots k gap).transaction (lives slots)
    live = slot_live slots (get_or slots k gap) at (λ e. r.lives (sym here ∙ e))

-- One more link is passed.
pub passed_more : (links : List Link) (n x : ℕ) (live : List ℕ) (m : ℕ) → source_at links n ≡ Some x → (nat_lt x m && not (is_among x live)) ≡ true
    → ((i z : ℕ) → i < n → source_at links i ≡ Some z → (z < m) × (is_among z live ≡ false))
    → (i z : ℕ) → i < n + 1 → source_at links i ≡ Some z → (z < m) × (is_among z live ≡ false)
passed_more links n x live m is dead before i z less source = elim (cases_lt i n) [
  | inl low ↦ before i z low source
  | inr far ↦
      let parts = and_parts (nat_lt x m) (not (is_among x live)) dead in
      let last : i ≡ n = omega arith in
      let same : x ≡ z = same_Some x z (sym is ∙ ap (source_at links) (sym last) ∙ source) in
      (subst (λ v. v < m) same (ltb-true x m parts.0), ap (λ v. is_among v live) (sym same) ∙ not-true (is_among x live) parts.1)
]

-- Decides whether a link leads from a live transaction that isn't gone.
abbrev pub from_live : List ℕ → List ℕ → Link → Bool
from_live live gone l = is_among l.from live && not (is_among l.from gone)

-- Whether a link leads from a live transaction depends on the links that aren't passed.
pub any_after : (links : List Link) (n : ℕ) (live gone : List ℕ) → ((i z : ℕ) → i < n → source_at links i ≡ Some z → is_among z live ≡ false) → n ≤ length links
    → list_any (from_live live gone) links ≡ list_any (from_live live gone) (drop n links)
any_after links n live gone dead fits =
    ap (list_any (from_live live gone)) (sym (take-append-drop n links)) ∙ any_append (from_live live gone) (take n links) (drop n links) (all_none (from_live live gone) (take n links) none)
  where
    none : (l : Link) → IsIn l (take n links) → from_live live gone l ≡ false
    none l h =
        let at = in_source (take n links) l h in
        let low = source_within (take n links) at.0 l.from at.1 in
        let long = length-take-le n links fits in
        ap (λ b. b && not (is_among l.from gone)) (dead at.0 l.from (omega arith)
        (ap (λ k. source_at k at.0) (sym (take-append-drop n links)) ∙ source_left (take n links) (drop n links) at.0 low ∙ at.1))

-- The exits of a live transaction.
pub all_exits : (slots : List Slot) (into : List (List Link)) (x k : ℕ) → AreLinked slots into → LeadForward (links_at into) (lives slots) → IsRank (numbers_of slots) x k
    → (y i j : ℕ) → IsRank (numbers_of slots) y j → source_at (links_at into y) i ≡ Some x → IsIn (exit_to y i) (get_or slots k gap).exits
all_exits slots into x k linked f r y i j q is =
    let bound = r.within in
    let long = numbers_len slots in
    let less : k < length slots = omega arith in
    let here = rank_read slots x k (get_or slots k gap) (get_or_default slots k gap (get_or slots k gap) less) r in
    linked.exits f (get_or slots k gap) y i (at_in gap slots k less) (subst (λ v. IsIn v (lives slots)) (sym here) (rank_in (numbers_of slots) x k r)) (rank_in (numbers_of slots) y j q)
    (is ∙ ap (λ v. Some v) (sym here))
