-- Slots that gain exits.
use Rattle.std.proofs.Common.{◌≡◌, ℕ, ◌+◌, ◌<◌, ◌≤◌, false, ◌⊎◌, inl, inr, List, [], ◌∷◌, ◌++◌, Some, Result, Ok, Err, OnOk, OnErr, length, get_or, set, refl, sym, ap, subst, ◌∙◌, arith}
use Rattle.std.proofs.lemmas.Bool.{both_ways, cases_lt}
use Rattle.std.proofs.lemmas.Option.{same_Some}
use Rattle.std.proofs.lemmas.List.{get_or-map}
use Rattle.velodrome.specs.Cycles.{IsIn}
use Rattle.atom_order.specs.declared.link.Link.{Link}
use Rattle.atom_order.specs.declared.slots.Exit.{Exit}
use Rattle.atom_order.specs.declared.slots.Slot.{Slot}
use Rattle.atom_order.specs.Exits.{source_at, exit_to, AreNoted, HasMoreExits, IsNoted}
use Rattle.atom_order.specs.Reaching.{is_among}
use Rattle.atom_order.specs.Slots.{gap, numbers_of, live_of, IsRank}
use Rattle.atom_order.proofs.Gaps.{numbers_len, numbers_same}
use Rattle.atom_order.proofs.Lists.{at_in, set_in}
use Rattle.atom_order.proofs.Members.{in_left, in_right, among_from_in}
use Rattle.atom_order.proofs.Sources.{source_within}

pub more_same : (slots now : List Slot) → now ≡ slots → HasMoreExits slots now
more_same slots now same = record {
  numbers = ap numbers_of same;
  slots = λ n h. (n, subst (λ (l : List Slot). IsIn n l) same h, refl, refl, λ e g. g);
}

pub more_more : (slots now later : List Slot) → HasMoreExits slots now → HasMoreExits now later → HasMoreExits slots later
more_more slots now later one two = record {
  numbers = two.numbers ∙ one.numbers;
  slots = λ n h.
      let b = two.slots n h in
      let a = one.slots b.0 b.1 in
      (a.0, a.1, b.2 ∙ a.2, b.3 ∙ a.3, λ e g. b.4 e (a.4 e g));
}

-- ---- One more exit

abbrev pub with_exit : Exit → Slot → Slot
with_exit e s = record s { exits = s.exits ++ e ∷ [] }

module _ (slots : List Slot) (k : ℕ) (e : Exit) (less : k < length slots) where
  abbrev old : Slot
  old = get_or slots k gap

  abbrev now : List Slot
  now = set slots k (with_exit e old)

  pub more_noted : HasMoreExits slots now
  more_noted = record {
    numbers = numbers_same slots k (with_exit e old) refl;
    slots = λ n h. elim (set_in gap slots k (with_exit e old) n h) [
      | inl same ↦ (
        old,
        at_in gap slots k less,
        ap (λ (s : Slot). s.transaction) same,
        ap (λ (s : Slot). s.passed) same,
        λ d g. subst (λ (s : Slot). IsIn d s.exits) (sym same) (in_left d old.exits (e ∷ []) g),
      )
      | inr at ↦ (n, subst (λ (s : Slot). IsIn s slots) at.3 (at_in gap slots at.0 at.1), refl, refl, λ d g. g)
    ];
  }

  pub noted : (x : ℕ) → IsRank (numbers_of slots) x k → ((j : ℕ) → IsRank (numbers_of slots) x j → j ≡ k) → IsNoted x e now
  noted x r alone n h _ is = elim (set_in gap slots k (with_exit e old) n h) [
    | inl same ↦ subst (λ (s : Slot). IsIn e s.exits) (sym same) (in_right e old.exits (e ∷ []) (inl refl))
    | inr at ↦
        let bound = at.1 in
        let long = numbers_len slots in
        absurd (at.2 (alone at.0 (record {
          within = omega arith;
          here = get_or-map (λ (s : Slot). s.transaction) slots at.0 gap 0 at.1 ∙ ap (λ (s : Slot). s.transaction) at.3 ∙ is;
          lives = r.lives;
        })))
  ]

pub none_noted : (slots : List Slot) (x : ℕ) (e : Exit) → is_among x (live_of (numbers_of slots)) ≡ false → IsNoted x e slots
none_noted slots x e none n h live is =
    absurd (both_ways (is_among x (live_of (numbers_of slots))) none (among_from_in x (live_of (numbers_of slots)) (subst (λ y. IsIn y (live_of (numbers_of slots))) is live)))

-- ---- One more link

abbrev pub AreNotedTo : ℕ → ℕ → List Link → ℕ → List Slot → Type 0
AreNotedTo t first links n slots = (s : Slot) (i : ℕ) → IsIn s slots → IsIn s.transaction (live_of (numbers_of slots)) → i < n → source_at links i ≡ Some s.transaction
    → IsIn (exit_to t (first + i)) s.exits

pub noted_more : (t first : ℕ) (links : List Link) (i x : ℕ) (slots now : List Slot) → source_at links i ≡ Some x → HasMoreExits slots now → IsNoted x (exit_to t (first + i)) now
    → AreNotedTo t first links i slots → AreNotedTo t first links (i + 1) now
noted_more t first links i x slots now source more one before s j h live less is = by (cases_lt j i)
  where
    by : (j < i) ⊎ (i ≤ j) → IsIn (exit_to t (first + j)) s.exits
    by (inl low) =
        let old = more.slots s h in
        old.4 (exit_to t (first + j)) (before old.0 j old.1 (subst (λ (xs : List ℕ). IsIn old.0.transaction (live_of xs)) more.numbers (subst (λ y. IsIn y (live_of (numbers_of now))) old.2 live)) low (is ∙ ap (λ y. Some y) old.2))
    by (inr far) =
        let last : i ≡ j = omega arith in
        subst (λ m. IsIn (exit_to t (first + m)) s.exits) last
        (one s h live (same_Some s.transaction x (sym is ∙ ap (source_at links) (sym last) ∙ source)))

pub all_noted : (t first : ℕ) (links : List Link) (n : ℕ) (slots : List Slot) → length links ≤ n → AreNotedTo t first links n slots → AreNoted t first links slots
all_noted t first links n slots far noted s i h live is = noted s i h live (let less = source_within links i s.transaction is in omega arith) is

-- An exit is noted, or nothing changes.
pub noted_or : {A E : Type 0} (r : Result A E) (slots new : List Slot) (x k : ℕ) (e : Exit) → IsRank (numbers_of slots) x k → ((j : ℕ) → IsRank (numbers_of slots) x j → j ≡ k)
    → OnOk r (new ≡ set slots k (with_exit e (get_or slots k gap))) → OnErr r (new ≡ slots) → HasMoreExits slots new × OnOk r (IsNoted x e new)
noted_or (Ok a) slots new x k e rank alone is _ =
    let bound = rank.within in
    let long = numbers_len slots in
    let less : k < length slots = omega arith in (
      subst (HasMoreExits slots) (sym is) (more_noted slots k e less),
      subst (IsNoted x e) (sym is) (noted slots k e less x rank alone),
    )
noted_or (Err b) slots new x k e rank alone _ same = (more_same slots new same, tt)
