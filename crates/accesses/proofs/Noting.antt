-- What is remembered after an access is recorded.
use Rattle.std.proofs.Common.{◌≡◌, ℕ, zero, suc, ◌==◌, Bool, true, false, if◌then◌else◌, List, [], ◌∷◌, ◌++◌, map, Some, ◌⊎◌, inl, inr, ⊎_elim, refl, sym, ap, ◌∙◌, subst, true≢false, slice_get}
use Rattle.std.proofs.lemmas.Bool.{eqb-true}
use Rattle.std.proofs.lemmas.Option.{none-some, same_Some}
use Rattle.jvms_machine.specs.declared.trace.Item.{Item}
use Rattle.jvms_machine.specs.declared.trace.Item.TheVariants as item
use Rattle.jvms_machine.specs.Events.{thread_of}
use Rattle.velodrome.specs.Cycles.{IsIn}
use Rattle.accesses.specs.Accesses.{Access, IsNoted, Last, OfThread, Place, TakesPlace, accesses_beside, accesses_of, beside_at, last_of, main_at, same_place}
use Rattle.accesses.specs.Kept.{IsBesideNoted, IsMainNoted, IsNotedIn, beside_last, kept_at, kept_in, main_last, main_lasts, with_access}
use Rattle.accesses.specs.OnePlace.{place_itself}
use Rattle.accesses.specs.Places.{place_of}
use Rattle.accesses.specs.Rooms.{set_value_at}
use Rattle.accesses.specs.declared.lasts.PlaceAccesses.{PlaceAccesses}
use Rattle.accesses.specs.declared.lasts.Noted.{Noted}
use Rattle.accesses.specs.declared.place.Place.{Place as Key}
use Rattle.accesses.proofs.Found.{here}
use Rattle.accesses.proofs.Members.{in_back, in_either, in_front, in_map, of_map}

-- One access of an item is recorded.
pub record IsOneNoted (last : Last) (i : Item) (y : Access) (old new : List Last) : Type 0 where
  pub added : IsIn last new
  pub only : (k : Last) → IsIn k new → IsIn k old ⊎ (k ≡ last)
  pub left : (k : Last) → IsIn k old → IsIn k new ⊎ TakesPlace i k y

-- ---- At its place

with_access_has : (n : Noted) (ms : List Noted) → IsIn n (with_access n ms)
with_access_has n [] = inl refl
with_access_has n (m ∷ ms) = by (m.thread == n.thread) (with_access_has n ms)
  where
    by : (b : Bool) → IsIn n (with_access n ms) → IsIn n (if b then n ∷ ms else m ∷ with_access n ms)
    by true rest = inl refl
    by false rest = inr rest

with_access_only : (n : Noted) (ms : List Noted) (k : Noted) → IsIn k (with_access n ms) → IsIn k ms ⊎ (k ≡ n)
with_access_only n [] k (inl same) = inr same
with_access_only n [] k (inr more) = absurd more
with_access_only n (m ∷ ms) k is_in = by (m.thread == n.thread) (with_access_only n ms k) is_in
  where
    by : (b : Bool) → (IsIn k (with_access n ms) → IsIn k ms ⊎ (k ≡ n)) → IsIn k (if b then n ∷ ms else m ∷ with_access n ms) → IsIn k (m ∷ ms) ⊎ (k ≡ n)
    by true rest (inl same) = inr same
    by true rest (inr more) = inl (inr more)
    by false rest (inl same) = inl (inl same)
    by false rest (inr more) = ⊎_elim (λ old. inl (inr old)) (λ new. inr new) (rest more)

with_access_left : (n : Noted) (ms : List Noted) (k : Noted) → IsIn k ms → IsIn k (with_access n ms) ⊎ (k.thread ≡ n.thread)
with_access_left n [] k is_in = absurd is_in
with_access_left n (m ∷ ms) k is_in = by (m.thread == n.thread) refl (with_access_left n ms k) is_in
  where
    by : (b : Bool) → (m.thread == n.thread) ≡ b → (IsIn k ms → IsIn k (with_access n ms) ⊎ (k.thread ≡ n.thread)) → IsIn k (m ∷ ms) → IsIn k (if b then n ∷ ms else m ∷ with_access n ms) ⊎ (k.thread ≡ n.thread)
    by true same rest (inl is) = inr (ap (λ (x : Noted). x.thread) is ∙ eqb-true m.thread n.thread same)
    by true same rest (inr more) = inl (inr more)
    by false same rest (inl is) = inl (inl is)
    by false same rest (inr more) = ⊎_elim (λ new. inl (inr new)) (λ one. inr one) (rest more)

abbrev noted : ℕ → ℕ → Item → Noted
noted number transaction i = record { number = number; transaction = transaction; thread = thread_of i }

abbrev access : Place → Bool → Access
access p b = record { place = p; is_main = b }

abbrev IsNotedAs : ℕ → ℕ → Item → Access → List Last → List Last → Type 0
IsNotedAs number transaction i y old new = IsOneNoted (last_of number transaction (thread_of i) y) i y old new

near : (p : Place) (l : PlaceAccesses) (k : Last) → IsIn k (kept_at p l) → same_place k.access.place p ≡ true
near p l k is_in = subst (λ (q : Place). same_place q p ≡ true) (sym (here p l k is_in)) (place_itself p)

main_kept : (p : Place) (n : Noted) (l : PlaceAccesses) → l.main ≡ Some n → l.beside.items ≡ [] → kept_at p l ≡ main_last p n ∷ []
main_kept p n l main beside = (λ j. main_lasts p (main j) ++ map (beside_last p) (beside j))

main_noted : (p : Place) (i : Item) (number transaction : ℕ) (old new : PlaceAccesses) → IsMainNoted (noted number transaction i) old new → IsNotedAs number transaction i (main_at p) (kept_at p old) (kept_at p new)
main_noted p i number transaction old new is =
    let n = noted number transaction i in
    let kept : kept_at p new ≡ main_last p n ∷ [] = main_kept p n new is.main is.beside in
    record {
      added = subst (λ (ks : List Last). IsIn (main_last p n) ks) (sym kept) (inl refl);
      only = λ k is_in. ⊎_elim (λ same. inr same) (λ none. absurd none) (subst (IsIn k) kept is_in);
      left = λ k is_in. inr (record { place = near p old k is_in; covers = λ _. refl; conflicts = inl refl });
    }

beside_kept : (p : Place) (n : Noted) (old new : PlaceAccesses) → IsBesideNoted n old new → kept_at p new ≡ main_lasts p old.main ++ map (beside_last p) (with_access n old.beside.items)
beside_kept p n old new is = (λ j. main_lasts p (is.main j) ++ map (beside_last p) (is.beside j))

beside_left : (p : Place) (i : Item) (number transaction : ℕ) (old : PlaceAccesses) (k : Last) → IsIn k (kept_at p old)
    → IsIn k (main_lasts p old.main ++ map (beside_last p) (with_access (noted number transaction i) old.beside.items)) ⊎ TakesPlace i k (beside_at p)
beside_left p i number transaction old k is_in =
    let n = noted number transaction i in
    let ms = with_access n old.beside.items in
    ⊎_elim
    (λ front. inl (in_front k (main_lasts p old.main) (map (beside_last p) ms) front))
    (λ back. let w = of_map (beside_last p) k old.beside.items back in
    ⊎_elim
    (λ stays. inl (in_back k (main_lasts p old.main) (map (beside_last p) ms) (subst (λ (j : Last). IsIn j (map (beside_last p) ms)) (sym w.2) (in_map (beside_last p) w.0 ms stays))))
    (λ one. inr (record {
      place = near p old k is_in;
      covers = λ main. absurd (true≢false (sym main ∙ ap (λ (j : Last). j.access.is_main) w.2));
      conflicts = inr (ap (λ (j : Last). j.thread) w.2 ∙ one);
    }))
    (with_access_left n old.beside.items w.0 w.1))
    (in_either k (main_lasts p old.main) (map (beside_last p) old.beside.items) is_in)

beside_only : (p : Place) (n : Noted) (old : PlaceAccesses) (k : Last) → IsIn k (main_lasts p old.main ++ map (beside_last p) (with_access n old.beside.items)) → IsIn k (kept_at p old) ⊎ (k ≡ beside_last p n)
beside_only p n old k is_in =
    ⊎_elim
    (λ front. inl (in_front k (main_lasts p old.main) (map (beside_last p) old.beside.items) front))
    (λ back. let w = of_map (beside_last p) k (with_access n old.beside.items) back in
    ⊎_elim
    (λ old_one. inl (in_back k (main_lasts p old.main) (map (beside_last p) old.beside.items) (subst (λ (j : Last). IsIn j (map (beside_last p) old.beside.items)) (sym w.2) (in_map (beside_last p) w.0 old.beside.items old_one))))
    (λ same. inr (w.2 ∙ ap (beside_last p) same))
    (with_access_only n old.beside.items w.0 w.1))
    (in_either k (main_lasts p old.main) (map (beside_last p) (with_access n old.beside.items)) is_in)

beside_noted : (p : Place) (i : Item) (number transaction : ℕ) (old new : PlaceAccesses) → IsBesideNoted (noted number transaction i) old new → IsNotedAs number transaction i (beside_at p) (kept_at p old) (kept_at p new)
beside_noted p i number transaction old new is =
    let n = noted number transaction i in
    let kept = beside_kept p n old new is in
    record {
      added = subst (λ (ks : List Last). IsIn (beside_last p n) ks) (sym kept) (in_back _ (main_lasts p old.main) _ (in_map (beside_last p) n (with_access n old.beside.items) (with_access_has n old.beside.items)));
      only = λ k is_in. beside_only p n old k (subst (IsIn k) kept is_in);
      left = λ k is_in. ⊎_elim (λ stays. inl (subst (IsIn k) (sym kept) stays)) (λ taken. inr taken) (beside_left p i number transaction old k is_in);
    }

noted_here : (p : Place) (b : Bool) (i : Item) (number transaction : ℕ) (old new : PlaceAccesses) → IsNotedIn b (noted number transaction i) old new → IsNotedAs number transaction i (access p b) (kept_at p old) (kept_at p new)
noted_here p true i number transaction old new is = main_noted p i number transaction old new is
noted_here p false i number transaction old new is = beside_noted p i number transaction old new is

-- ---- Among all entries

abbrev Table : Type 0
Table = List (Key × PlaceAccesses)

behind : (last : Last) (i : Item) (y : Access) (front old new : List Last) → IsOneNoted last i y old new → IsOneNoted last i y (front ++ old) (front ++ new)
behind last i y front old new is = record {
  added = in_back last front new is.added;
  only = λ k is_in. ⊎_elim (λ f. inl (in_front k front old f)) (λ b. ⊎_elim (λ o. inl (in_back k front old o)) (λ same. inr same) (is.only k b)) (in_either k front new is_in);
  left = λ k is_in. ⊎_elim (λ f. inl (in_front k front new f)) (λ b. ⊎_elim (λ n. inl (in_back k front new n)) (λ taken. inr taken) (is.left k b)) (in_either k front old is_in);
}

before : (last : Last) (i : Item) (y : Access) (old new back : List Last) → IsOneNoted last i y old new → IsOneNoted last i y (old ++ back) (new ++ back)
before last i y old new back is = record {
  added = in_front last new back is.added;
  only = λ k is_in. ⊎_elim (λ f. ⊎_elim (λ o. inl (in_front k old back o)) (λ same. inr same) (is.only k f)) (λ b. inl (in_back k old back b)) (in_either k new back is_in);
  left = λ k is_in. ⊎_elim (λ f. ⊎_elim (λ n. inl (in_front k new back n)) (λ taken. inr taken) (is.left k f)) (λ b. inl (in_back k new back b)) (in_either k old back is_in);
}

within : (last : Last) (i : Item) (y : Access) (es : Table) (index : ℕ) (e : Key × PlaceAccesses) (l : PlaceAccesses) → slice_get es index ≡ Some e → IsOneNoted last i y (kept_at (place_of e.0) e.1) (kept_at (place_of e.0) l)
    → IsOneNoted last i y (kept_in es) (kept_in (set_value_at es index l))
within last i y [] index e l at is = absurd (none-some e at)
within last i y (d ∷ es) zero e l at is =
    let same : d ≡ e = same_Some d e at in
    before last i y (kept_at (place_of d.0) d.1) (kept_at (place_of d.0) l) (kept_in es)
    (subst (λ (f : Key × PlaceAccesses). IsOneNoted last i y (kept_at (place_of f.0) f.1) (kept_at (place_of f.0) l)) (sym same) is)
within last i y (d ∷ es) (suc index) e l at is = behind last i y (kept_at (place_of d.0) d.1) (kept_in es) (kept_in (set_value_at es index l)) (within last i y es index e l at is)

pub noted_among : (es : Table) (index : ℕ) (e : Key × PlaceAccesses) (l : PlaceAccesses) (i : Item) (number transaction : ℕ) (y : Access) → slice_get es index ≡ Some e → place_of e.0 ≡ y.place → IsNotedIn y.is_main (noted number transaction i) e.1 l
    → IsNotedAs number transaction i y (kept_in es) (kept_in (set_value_at es index l))
noted_among es index e l i number transaction y at place is =
    within (last_of number transaction (thread_of i) y) i y es index e l at
    (subst (λ (p : Place). IsNotedAs number transaction i y (kept_at p e.1) (kept_at p l)) (sym place) (noted_here y.place y.is_main i number transaction e.1 l is))

-- ---- The accesses of an item

-- No other access of an item replaces the one to its own thread.
own_stays : (i : Item) (number transaction : ℕ) (y : Access) → IsIn y (accesses_beside i) → TakesPlace i (last_of number transaction (thread_of i) (main_at (OfThread (thread_of i)))) y → ⊥
own_stays (item.Read t v) number transaction y (inl same) takes = true≢false (sym (takes.covers refl) ∙ ap (λ (x : Access). x.is_main) same)
own_stays (item.Read t v) number transaction y (inr more) takes = more
own_stays (item.Write t v) number transaction y (inl same) takes = true≢false (sym takes.place ∙ ap (λ (x : Access). same_place (OfThread t) x.place) same)
own_stays (item.Write t v) number transaction y (inr more) takes = more
own_stays (item.Acquire t r) number transaction y (inl same) takes = true≢false (sym takes.place ∙ ap (λ (x : Access). same_place (OfThread t) x.place) same)
own_stays (item.Acquire t r) number transaction y (inr more) takes = more
own_stays (item.Release t r) number transaction y (inl same) takes = true≢false (sym takes.place ∙ ap (λ (x : Access). same_place (OfThread t) x.place) same)
own_stays (item.Release t r) number transaction y (inr more) takes = more
own_stays (item.Fork t u) number transaction y (inl same) takes = true≢false (sym (takes.covers refl) ∙ ap (λ (x : Access). x.is_main) same)
own_stays (item.Fork t u) number transaction y (inr more) takes = more
own_stays (item.Join t u) number transaction y (inl same) takes = true≢false (sym (takes.covers refl) ∙ ap (λ (x : Access). x.is_main) same)
own_stays (item.Join t u) number transaction y (inr more) takes = more
own_stays (item.Enter t m) number transaction y is_in takes = is_in
own_stays (item.Exit t m) number transaction y is_in takes = is_in

abbrev own_of : Item → Access
own_of i = main_at (OfThread (thread_of i))

pub noted_alone : (i : Item) (number transaction : ℕ) (old new : List Last) → accesses_beside i ≡ [] → IsNotedAs number transaction i (own_of i) old new → IsNoted number transaction i old new
unfolding accesses_of
noted_alone i number transaction old new none is =
    let nothing : (y : Access) → IsIn y (accesses_beside i) → ⊥ = λ y is_in. subst (IsIn y) none is_in in
    record {
      added = λ y is_in. ⊎_elim (λ same. subst (λ (x : Access). IsIn (last_of number transaction (thread_of i) x) new) (sym same) is.added) (λ more. absurd (nothing y more)) is_in;
      only = λ k is_in. ⊎_elim (λ o. inl o) (λ same. inr (own_of i, inl refl, same)) (is.only k is_in);
      left = λ k is_in. ⊎_elim (λ n. inl n) (λ taken. inr (own_of i, inl refl, taken)) (is.left k is_in);
    }

pub noted_both : (i : Item) (number transaction : ℕ) (z : Access) (old mid new : List Last) → accesses_beside i ≡ z ∷ [] → IsNotedAs number transaction i (own_of i) old mid → IsNotedAs number transaction i z mid new → IsNoted number transaction i old new
unfolding accesses_of
noted_both i number transaction z old mid new one first second =
    let there : IsIn z (accesses_beside i) = subst (IsIn z) (sym one) (inl refl) in
    let itself : (y : Access) → IsIn y (accesses_beside i) → y ≡ z = λ y is_in. ⊎_elim (λ same. same) (λ more. absurd more) (subst (IsIn y) one is_in) in
    record {
      added = λ y is_in. ⊎_elim
          (λ same. subst (λ (x : Access). IsIn (last_of number transaction (thread_of i) x) new) (sym same)
          (⊎_elim (λ n. n) (λ taken. absurd (own_stays i number transaction z there taken)) (second.left (last_of number transaction (thread_of i) (own_of i)) first.added)))
          (λ more. subst (λ (x : Access). IsIn (last_of number transaction (thread_of i) x) new) (sym (itself y more)) second.added)
          is_in;
      only = λ k is_in. ⊎_elim
          (λ m. ⊎_elim (λ o. inl o) (λ same. inr (own_of i, inl refl, same)) (first.only k m))
          (λ same. inr (z, inr there, same))
          (second.only k is_in);
      left = λ k is_in. ⊎_elim
          (λ m. ⊎_elim (λ n. inl n) (λ taken. inr (z, inr there, taken)) (second.left k m))
          (λ taken. inr (own_of i, inl refl, taken))
          (first.left k is_in);
    }
