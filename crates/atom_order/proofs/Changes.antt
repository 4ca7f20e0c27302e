-- The effect of closing a transaction and of adding links to one.
use Rattle.std.proofs.Common.{◌≡◌, ℕ, ◌<◌, ◌≤◌, Bool, true, false, not, cond, ◌&&◌, ◌==◌, ◌⊎◌, inl, inr, List, [], ◌∷◌, ◌++◌, Option, Some, None, Result, Ok, Err, IfOk, MatchOption, length, get_or, set, refl, sym, ap, subst, ◌∙◌, arith}
use Rattle.std.proofs.lemmas.Bool.{and_parts, cases_eq, cases_lt, eq-eqb, ne_eqb, not-true}
use Rattle.std.proofs.lemmas.List.{append-nil, get_or-set_same, get_or-set_other, get_or_past, length-set}
use Rattle.std.specs.List.{IsDistinct, filter}
use Rattle.velodrome.specs.Cycles.{IsIn}
use Rattle.atom_order.specs.declared.link.Link.{Link}
use Rattle.atom_order.specs.declared.link.Closing.{Closing}
use Rattle.atom_order.specs.Keeping.{IsClosed, sides}
use Rattle.atom_order.specs.LinkedOrder.{Ranked, shape_of}
use Rattle.atom_order.specs.Reaching.{is_among, LeadForward}
use Rattle.atom_order.specs.Shapes.{Shape, open_in, into_in, order_of, ClosesCycle, ClosesNone, ClosesSome, IsUsable, IsClosing, IsLinking}
use Rattle.atom_order.specs.Sweeps.{AreGone, AreReached, from_on}
use Rattle.atom_order.proofs.Forward.{all_apart, all_closed, all_left, all_sides}
use Rattle.atom_order.proofs.Kept.{chosen, passed_by}
use Rattle.atom_order.proofs.Lists.{filter_all, filter_none, filter_same}
use Rattle.atom_order.proofs.Members.{among_from_in}
use Rattle.atom_order.proofs.Pairs.{distinct_pairs}

-- ---- Closing

-- The effect of closing a transaction if some don't stay live.
pub closes : (old new : Shape) (t : ℕ) (gone : List ℕ) → AreGone t (order_of old) gone → new.dropped ≡ old.dropped ++ gone
    → new.live ≡ filter (λ x. not (is_among x gone)) old.live → ((y : ℕ) → open_in new y ≡ cond (y == t) false (open_in old y))
    → ((y : ℕ) → is_among y gone ≡ false → into_in new y ≡ into_in old y) → length new.into ≡ length old.into → IsClosing t old new
closes old new t gone are to_dropped to_live to_open to_into slots = record {
  keeps = λ x. is_among x old.live && not (is_among x gone);
  left = are.left;
  dropped = to_dropped ∙ ap (λ l. old.dropped ++ l) (are.part
      ∙ filter_same (λ x. is_among x gone) (λ x. not (is_among x old.live && not (is_among x gone))) old.live
      (λ x h. sym (ap (λ b. not (b && not (is_among x gone))) (among_from_in x old.live h) ∙ twice (is_among x gone))));
  live = to_live ∙ filter_same (λ x. not (is_among x gone)) (λ x. is_among x old.live && not (is_among x gone)) old.live
      (λ x h. sym (ap (λ b. b && not (is_among x gone)) (among_from_in x old.live h)));
  is_open = to_open;
  into = λ y is. to_into y (not-true (is_among y gone) (and_parts (is_among y old.live) (not (is_among y gone)) is).1);
  slots = slots;
}
  where
    twice : (b : Bool) → not (true && not b) ≡ b
    twice true = refl
    twice false = refl

-- The effect of closing a transaction that stays live.
pub stays_closing : (old new : Shape) (t : ℕ) → IsUsable old → (l : Link) → IsIn l (into_in old t) → IsIn l.from old.live
    → new.dropped ≡ old.dropped → new.live ≡ old.live → ((y : ℕ) → open_in new y ≡ cond (y == t) false (open_in old y)) → new.into ≡ old.into → IsClosing t old new
stays_closing old new t usable link stands from to_dropped to_live to_open to_into = record {
  keeps = λ x. is_among x old.live;
  left = all_left (open_in old) (into_in old) old.live t usable.live usable.opens old.dropped link stands from;
  dropped = to_dropped ∙ sym (append-nil old.dropped) ∙ ap (λ l. old.dropped ++ l) (sym (filter_none (λ x. not (is_among x old.live)) old.live (λ x h. ap not (among_from_in x old.live h))));
  live = to_live ∙ sym (filter_all (λ x. is_among x old.live) old.live (λ x h. among_from_in x old.live h));
  is_open = to_open;
  into = λ y _. ap (λ (i : List (List Link)). get_or i y []) to_into;
  slots = ap length to_into;
}

pub set_false : (xs : List Bool) (t y : ℕ) → get_or (set xs t false) y false ≡ cond (y == t) false (get_or xs y false)
set_false xs t y = elim (cases_eq y t) [
  | inl same ↦ ap (λ v. get_or (set xs t false) v false) same ∙ here (cases_lt t (length xs)) ∙ sym (chosen y t false (get_or xs y false) same)
  | inr other ↦ get_or-set_other xs t y false false other ∙ sym (passed_by y t false (get_or xs y false) other)
]
  where
    here : (t < length xs) ⊎ (length xs ≤ t) → get_or (set xs t false) t false ≡ false
    here (inl less) = get_or-set_same xs t false false less
    here (inr more) = get_or_past (set xs t false) t false (let long = length-set xs t false in omega arith)

-- What doesn't stay live doesn't depend on the dropped ones.
pub gone_any : (o : Ranked) (opens : List Bool) (dropped : List ℕ) (t : ℕ) (gone : List ℕ) → AreGone t (order_of (shape_of [] o opens)) gone → AreGone t (order_of (shape_of dropped o opens)) gone
gone_any o opens dropped t gone are = record {
  part = are.part;
  left = record { closed = are.left.closed; opens = are.left.opens; live = are.left.live };
}

pub usable_any : (o : Ranked) (opens : List Bool) (dropped : List ℕ) → IsUsable (shape_of dropped o opens) → IsUsable (shape_of [] o opens)
usable_any o opens dropped usable = record { distinct = usable.distinct; leads = usable.leads; opens = usable.opens; live = usable.live }

-- ---- Linking

-- The rest of a list begins with the transaction.
from_on_split : (t : ℕ) (live : List ℕ) → IsIn t live → (front : List ℕ) × (behind : List ℕ) × (live ≡ front ++ t ∷ behind) × (from_on t live ≡ t ∷ behind)
from_on_split t [] h = absurd h
from_on_split t (x ∷ live) h = elim (cases_eq x t) [
  | inl same ↦ ([], live, ap (λ v. v ∷ live) same, ap (λ b. cond b (x ∷ live) (from_on t live)) (eq-eqb x t same) ∙ ap (λ v. v ∷ live) same)
  | inr other ↦ elim h [
    | inl e ↦ absurd (other (sym e))
    | inr g ↦
        let more = from_on_split t live g in
        (x ∷ more.0, more.1, ap (λ l. x ∷ l) more.2, ap (λ b. cond b (x ∷ live) (from_on t live)) (ne_eqb x t other) ∙ more.3)
  ]
]

-- The effect of links that don't lead back.
pub links_forward : (old new : Shape) (t : ℕ) (links : List Link) → IsUsable old → IsIn t old.live → ((l : Link) → IsIn l links → is_among l.from (from_on t old.live) ≡ false)
    → new.dropped ≡ old.dropped → new.live ≡ old.live → new.is_open ≡ old.is_open → ((y : ℕ) → into_in new y ≡ cond (y == t) (into_in old y ++ links) (into_in old y))
    → length new.into ≡ length old.into → IsLinking t links old new
links_forward old new t links usable there before to_dropped to_live to_open gains slots =
    let cut = from_on_split t old.live there in
    let region = t ∷ cut.1 in
    let leads = subst (λ (l : List ℕ). LeadForward (into_in old) l) cut.2 usable.leads in
    record {
      reaches = λ x. is_among x (t ∷ cut.1);
      reach = record {
        itself = among_from_in t region (inl refl);
        closed = subst (λ (l : List ℕ). IsClosed l (into_in old) (λ x. is_among x region)) (sym cut.2) (all_closed (into_in old) cut.0 t cut.1 leads);
        apart = λ l h. elim h [
          | inl g ↦ all_apart (into_in old) cut.0 t cut.1 leads l g
          | inr g ↦ ap (is_among l.from) (sym cut.3) ∙ before l g
        ];
      };
      dropped = to_dropped;
      live = to_live ∙ cut.2 ∙ sym (all_sides (into_in old) cut.0 t cut.1 leads (distinct_pairs (cut.0 ++ t ∷ cut.1) (subst (IsDistinct (λ x y. x == y)) cut.2 usable.distinct)))
          ∙ ap (sides (λ x. is_among x region)) (sym cut.2);
      is_open = to_open;
      into = gains;
      slots = slots;
    }

-- The effect of links that lead back.
pub links_back : (o : Ranked) (opens : List Bool) (dropped : List ℕ) (new : Shape) (t : ℕ) (links : List Link) (reached : List ℕ) → AreReached t links (order_of (shape_of [] o [])) reached
    → new.dropped ≡ dropped → new.live ≡ sides (λ x. is_among x reached) (shape_of dropped o opens).live → new.is_open ≡ opens
    → ((y : ℕ) → into_in new y ≡ cond (y == t) (into_in (shape_of dropped o opens) y ++ links) (into_in (shape_of dropped o opens) y))
    → length new.into ≡ length o.into → IsLinking t links (shape_of dropped o opens) new
links_back o opens dropped new t links reached are to_dropped to_live to_open gains slots = record {
  reaches = λ x. is_among x reached;
  reach = record { itself = are.reach.itself; closed = are.reach.closed; apart = are.reach.apart };
  dropped = to_dropped;
  live = to_live;
  is_open = to_open;
  into = gains;
  slots = slots;
}

-- The result is a cycle, because one exists.
pub cycle_or : {E : Type 0} (r : Result (Option Closing) E) (t : ℕ) (links : List Link) (s : Shape) (Linked Same : Type 0) → IfOk r (λ o. MatchOption o (ClosesNone t links s) (ClosesCycle t links s))
    → ClosesSome t links s → Same → IfOk r (λ o. MatchOption o Linked (λ c. Same × ClosesCycle t links s c))
cycle_or (Ok None) t links s Linked Same h some same = absurd (h some.0 some.1 some.2 some.3)
cycle_or (Ok (Some c)) t links s Linked Same h some same = (same, h)
cycle_or (Err e) t links s Linked Same h some same = tt
