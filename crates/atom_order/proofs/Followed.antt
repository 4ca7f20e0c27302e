-- The ends of exits, in a set of ranks.
use Rattle.std.proofs.Common.{◌≡◌, ℕ, ◌+◌, ◌<◌, ◌≤◌, Bool, true, false, cond, ◌⊎◌, inl, inr, List, [], ◌∷◌, Option, Some, None, MatchOption, IfNone, length, get_or, take, refl, sym, ap, subst, ◌∙◌}
use Rattle.std.proofs.lemmas.Bool.{both_ways, cases_eq, eq-eqb, ne_eqb}
use Rattle.std.proofs.lemmas.List.{take_more, take_all}
use Rattle.std.specs.Ordering.{nat_cmp}
use Rattle.std.specs.BTreeMap.{is_at}
use Rattle.velodrome.specs.Cycles.{IsIn}
use Rattle.atom_order.specs.declared.slots.Exit.{Exit}
use Rattle.atom_order.specs.Exits.{links_at, source_at, exit_to}
use Rattle.atom_order.specs.LinkedOrder.{Ranked}
use Rattle.atom_order.specs.Marking.{has_key}
use Rattle.atom_order.specs.Reaching.{is_among}
use Rattle.atom_order.specs.Slots.{live_of, IsRank}
use Rattle.atom_order.specs.Sweeps.{HasEntered, IsEnd, IsFollowed}
use Rattle.atom_order.proofs.Gaps.{rank_in}
use Rattle.atom_order.proofs.Marked.{same_key}
use Rattle.atom_order.proofs.Members.{among_from_in, in_cases}
use Rattle.atom_order.proofs.Sources.{in_source, source_in}

-- ---- Keys

pub key_added : (keys more : List ℕ) (k : ℕ) → ((q : ℕ) → has_key more q ≡ cond (is_at (nat_cmp k) q) true (has_key keys q)) → (q : ℕ) → has_key more q ≡ true → (has_key keys q ≡ true) ⊎ (q ≡ k)
key_added keys more k updates q is = elim (cases_eq q k) [
  | inl same ↦ inr same
  | inr other ↦ inl (sym (updates q ∙ ap (λ b. cond b true (has_key keys q)) (same_key k q ∙ ne_eqb q k other)) ∙ is)
]

pub key_stays : (keys more : List ℕ) (k : ℕ) → ((q : ℕ) → has_key more q ≡ cond (is_at (nat_cmp k) q) true (has_key keys q)) → (q : ℕ) → has_key keys q ≡ true → has_key more q ≡ true
key_stays keys more k updates q is = updates q ∙ ap (λ b. cond (is_at (nat_cmp k) q) true b) is ∙ by (is_at (nat_cmp k) q)
  where
    by : (b : Bool) → cond b true true ≡ true
    by true = refl
    by false = refl

pub key_here : (keys more : List ℕ) (k : ℕ) → ((q : ℕ) → has_key more q ≡ cond (is_at (nat_cmp k) q) true (has_key keys q)) → has_key more k ≡ true
key_here keys more k updates = updates k ∙ ap (λ b. cond b true (has_key keys k)) (same_key k k ∙ eq-eqb k k refl)

-- ---- One exit

module _ (exit : Exit) (from : ℕ) (o : Ranked) (left_out : List Bool) (old : List ℕ) where
  pub entered : (new : List ℕ) (k : ℕ) → IsEnd exit from o left_out k → ((j : ℕ) → IsRank o.slots exit.to j → j ≡ k)
      → ((q : ℕ) → has_key new q ≡ cond (is_at (nat_cmp k) q) true (has_key old q)) → HasEntered exit from o left_out old new
  entered new k end alone updates = record {
    stays = key_stays old new k updates;
    enters = λ j e. subst (λ i. has_key new i ≡ true) (sym (alone j e.rank)) (key_here old new k updates);
    since = λ j is. elim (key_added old new k updates j is) [
      | inl was ↦ inl was
      | inr same ↦ inr (subst (IsEnd exit from o left_out) (sym same) end)
    ];
  }

  pub not_entered : ((k : ℕ) → IsEnd exit from o left_out k → ⊥) → HasEntered exit from o left_out old old
  not_entered none = record { stays = λ k is. is; enters = λ k e. absurd (none k e); since = λ k is. inl is }

-- An exit to a transaction that isn't live has no end.
pub no_end : (r : Option ℕ) (exit : Exit) (from : ℕ) (o : Ranked) (left_out : List Bool) → MatchOption r (is_among exit.to (live_of o.slots) ≡ false) (IsRank o.slots exit.to)
    → IfNone r ((k : ℕ) → IsEnd exit from o left_out k → ⊥)
no_end (Some k) exit from o left_out h = tt
no_end None exit from o left_out none = λ k end. both_ways (is_among exit.to (live_of o.slots)) none (among_from_in exit.to (live_of o.slots) (rank_in o.slots exit.to k end.rank))

-- ---- Exits, one after another

pub record AreFollowed (exits : List Exit) (from : ℕ) (o : Ranked) (left_out : List Bool) (old new : List ℕ) : Type 0 where
  pub stays : (k : ℕ) → has_key old k ≡ true → has_key new k ≡ true
  pub enters : (e : Exit) (k : ℕ) → IsIn e exits → IsEnd e from o left_out k → has_key new k ≡ true
  pub since : (k : ℕ) → has_key new k ≡ true → (has_key old k ≡ true) ⊎ ((e : Exit) × IsEnd e from o left_out k)

module _ (from : ℕ) (o : Ranked) (left_out : List Bool) (old : List ℕ) where
  pub none_followed : AreFollowed [] from o left_out old old
  none_followed = record { stays = λ k is. is; enters = λ e k h _. absurd h; since = λ k is. inl is }

  pub more_followed : (exits : List Exit) (i : ℕ) (d : Exit) (keys new : List ℕ) → i < length exits → AreFollowed (take i exits) from o left_out old keys
      → HasEntered (get_or exits i d) from o left_out keys new → AreFollowed (take (i + 1) exits) from o left_out old new
  more_followed exits i d keys new less before one = record {
    stays = λ k is. one.stays k (before.stays k is);
    enters = λ e k h end. elim (in_cases e (take i exits) (get_or exits i d ∷ []) (subst (IsIn e) (take_more exits i d less) h)) [
      | inl g ↦ one.stays k (before.enters e k g end)
      | inr g ↦ elim g [ inl same ↦ one.enters k (subst (λ x. IsEnd x from o left_out k) same end) | inr none ↦ absurd none ]
    ];
    since = λ k is. elim (one.since k is) [
      | inl was ↦ before.since k was
      | inr end ↦ inr (get_or exits i d, end)
    ];
  }

  -- Each link from the transaction is among the exits.
  pub followed : (exits : List Exit) (n : ℕ) (new : List ℕ) → length exits ≤ n → ((y i k : ℕ) → IsRank o.slots y k → source_at (links_at o.into y) i ≡ Some from → IsIn (exit_to y i) exits)
      → AreFollowed (take n exits) from o left_out old new → IsFollowed from o left_out old new
  followed exits n new far all are = record {
    stays = are.stays;
    enters = λ y k l rank h is stays.
        let at = in_source (links_at o.into y) l h in
        let source = at.1 ∙ ap (λ x. Some x) is in
        are.enters (exit_to y at.0) k (subst (IsIn (exit_to y at.0)) (sym (take_all n exits far)) (all y at.0 k rank source)) (record { rank = rank; link = source; stays = stays });
    since = λ k is. elim (are.since k is) [
      | inl was ↦ inl was
      | inr end ↦
          let e = end.0 in
          let found = source_in (links_at o.into e.to) e.link from end.1.link in
          inr (e.to, found.0, end.1.rank, found.1, found.2, end.1.stays)
    ];
  }
