-- Entries that are found, appended and reserved.
use Rattle.std.proofs.Common.{◌≡◌, ℕ, zero, suc, true, false, List, [], ◌∷◌, ◌++◌, map, Option, Some, None, MatchOption, Result, Ok, Err, OnOk, refl, sym, ap, ◌∙◌, subst, true≢false, slice_get}
use Rattle.std.specs.Map.{values_of}
use Rattle.std.proofs.lemmas.Option.{none-some, same_Some}
use Rattle.accesses.specs.Accesses.{Access, Last, Place, main_at}
use Rattle.accesses.specs.Kept.{HasSpare, beside_last, kept_at, kept_in, main_lasts}
use Rattle.accesses.specs.Places.{place_of}
use Rattle.accesses.specs.Rooms.{HasRoomAt, IsEntryOf, IsReady, set_value_at}
use Rattle.accesses.specs.declared.lasts.PlaceAccesses.{PlaceAccesses}
use Rattle.accesses.specs.declared.place.Place.{Place as Key}

abbrev Table : Type 0
Table = List (Key × PlaceAccesses)

-- ---- Entries by place

pub values_at : (es : Table) (i : ℕ) (e : Key × PlaceAccesses) → slice_get es i ≡ Some e → slice_get (values_of es) i ≡ Some e.1
values_at [] i e is = absurd (none-some e is)
values_at (d ∷ es) zero e is = ap (λ (f : Key × PlaceAccesses). Some f.1) (same_Some d e is)
values_at (d ∷ es) (suc i) e is = values_at es i e is

abbrev IsFound : {X : Type 0} → List X → ℕ → (X → Type 0) → Type 0
IsFound xs i P = MatchOption (slice_get xs i) ⊥ P

pub found_in : {X : Type 0} (P : X → Type 0) (xs : List X) (i : ℕ) (x : X) → slice_get xs i ≡ Some x → P x → IsFound xs i P
found_in P xs i x is holds = subst (λ (o : Option _). MatchOption o ⊥ P) (sym is) holds

-- Appending entries changes none.
pub stays_found : (P : Key × PlaceAccesses → Type 0) (es fs : Table) (i : ℕ) → IsFound es i P → IsFound (es ++ fs) i P
stays_found P [] fs i is = absurd is
stays_found P (e ∷ es) fs zero is = is
stays_found P (e ∷ es) fs (suc i) is = stays_found P es fs i is

-- Changing an entry keeps its place.
pub keeps_place : (es : Table) (i : ℕ) (l : PlaceAccesses) (n : ℕ) (p : Place) → IsEntryOf es n p → IsEntryOf (set_value_at es i l) n p
keeps_place [] i l n p is = is
keeps_place (e ∷ es) zero l zero p is = is
keeps_place (e ∷ es) zero l (suc n) p is = is
keeps_place (e ∷ es) (suc i) l zero p is = is
keeps_place (e ∷ es) (suc i) l (suc n) p is = keeps_place es i l n p is

-- A changed entry has the new accesses.
pub is_changed : (P : PlaceAccesses → Type 0) (es : Table) (i : ℕ) (l : PlaceAccesses) → P l → MatchOption (slice_get (set_value_at es i l) i) (Unit {0}) (λ e. P e.1)
is_changed P [] i l holds = tt
is_changed P (e ∷ es) zero l holds = holds
is_changed P (e ∷ es) (suc i) l holds = is_changed P es i l holds

-- ---- What is remembered

same_kept : (p : Place) (old new : PlaceAccesses) → new.main ≡ old.main → new.beside.items ≡ old.beside.items → kept_at p new ≡ kept_at p old
same_kept p old new main beside = (λ j. main_lasts p (main j) ++ map (beside_last p) (beside j))

-- More memory changes nothing that is remembered.
pub kept_with_room : (es : Table) (i : ℕ) (old new : PlaceAccesses) → slice_get (values_of es) i ≡ Some old → new.main ≡ old.main → new.beside.items ≡ old.beside.items → kept_in (set_value_at es i new) ≡ kept_in es
kept_with_room [] i old new at main beside = refl
kept_with_room (e ∷ es) zero old new at main beside =
    let same : old ≡ e.1 = sym (same_Some e.1 old at) in
    ap (λ (ks : List Last). ks ++ kept_in es) (same_kept (place_of e.0) old new main beside ∙ ap (kept_at (place_of e.0)) same)
kept_with_room (e ∷ es) (suc i) old new at main beside = ap (λ (ks : List Last). kept_at (place_of e.0) e.1 ++ ks) (kept_with_room es i old new at main beside)

-- An empty entry changes nothing that is remembered.
pub kept_with_new : (es : Table) (q : Key) (l : PlaceAccesses) → l.main ≡ None → l.beside.items ≡ [] → kept_in (es ++ (q, l) ∷ []) ≡ kept_in es
kept_with_new [] q l main beside = (λ j. (main_lasts (place_of q) (main j) ++ map (beside_last (place_of q)) (beside j)) ++ [])
kept_with_new (e ∷ es) q l main beside = ap (λ (ks : List Last). kept_at (place_of e.0) e.1 ++ ks) (kept_with_new es q l main beside)

-- ---- Entries that are found

pub on_ok : {X E : Type 0} {P Q : Type 0} (r : Result X E) → (P → Q) → OnOk r P → OnOk r Q
on_ok (Ok x) f is = f is
on_ok (Err e) f is = is

pub found_map : {X : Type 0} (P Q : X → Type 0) → ((x : X) → P x → Q x) → (o : Option X) → MatchOption o ⊥ P → MatchOption o ⊥ Q
found_map P Q f None is = is
found_map P Q f (Some x) is = f x is

pub found_out : {X : Type 0} (P : X → Type 0) (xs : List X) (i : ℕ) (x : X) → slice_get xs i ≡ Some x → IsFound xs i P → P x
found_out P xs i x at is = subst (λ (o : Option _). MatchOption o ⊥ P) at is

-- Each value is that of an entry.
pub entry_at : (es : Table) (i : ℕ) (l : PlaceAccesses) → Some l ≡ slice_get (values_of es) i → (e : Key × PlaceAccesses) × (slice_get es i ≡ Some e) × (l ≡ e.1)
entry_at [] i l is = absurd (none-some l (sym is))
entry_at (e ∷ es) zero l is = (e, refl, same_Some l e.1 is)
entry_at (e ∷ es) (suc i) l is = entry_at es i l is

pub room_of_none : (es : Table) (i : ℕ) → None ≡ slice_get (values_of es) i → HasRoomAt es i
room_of_none [] i is = tt
room_of_none (e ∷ es) zero is = absurd (none-some e.1 is)
room_of_none (e ∷ es) (suc i) is = room_of_none es i is

pub none_there : (P : Key × PlaceAccesses → Type 0) (es : Table) (i : ℕ) → None ≡ slice_get (values_of es) i → IsFound es i P → ⊥
none_there P [] i none is = is
none_there P (e ∷ es) zero none is = none-some e.1 none
none_there P (e ∷ es) (suc i) none is = none_there P es i none is

-- ---- Entries that are ready

pub entry_of_ready : (es : Table) (n : ℕ) (x : Access) → IsReady es n x → IsEntryOf es n x.place
entry_of_ready es n x is = found_map _ (λ e. place_of e.0 ≡ x.place) (λ e both. both.0) (slice_get es n) is

pub ready_main : (es : Table) (n : ℕ) (p : Place) → IsEntryOf es n p → IsReady es n (main_at p)
ready_main es n p is = found_map (λ e. place_of e.0 ≡ p) (λ e. (place_of e.0 ≡ p) × (true ≡ false → HasSpare e.1)) (λ e place. (place, λ same. absurd (true≢false same))) (slice_get es n) is

pub ready_beside : (es : Table) (n : ℕ) (x : Access) → IsEntryOf es n x.place → HasRoomAt es n → IsReady es n x
ready_beside es n x place room = by (slice_get es n) place room
  where
    by : (o : Option (Key × PlaceAccesses)) → MatchOption o ⊥ (λ e. place_of e.0 ≡ x.place) → MatchOption o (Unit {0}) (λ e. HasSpare e.1) → MatchOption o ⊥ (λ e. (place_of e.0 ≡ x.place) × (x.is_main ≡ false → HasSpare e.1))
    by None p r = p
    by (Some e) p r = (p, λ _. r)

-- Changing an entry leaves the others reserved, if its own memory stays.
pub keeps_ready : (es : Table) (i : ℕ) (e : Key × PlaceAccesses) (l : PlaceAccesses) (n : ℕ) (x : Access) → slice_get es i ≡ Some e → (HasSpare e.1 → HasSpare l) → IsReady es n x → IsReady (set_value_at es i l) n x
keeps_ready [] i e l n x at room is = absurd (none-some e at)
keeps_ready (d ∷ es) zero e l zero x at room is = (is.0, λ beside. room (subst (λ (f : Key × PlaceAccesses). HasSpare f.1) (same_Some d e at) (is.1 beside)))
keeps_ready (d ∷ es) zero e l (suc n) x at room is = is
keeps_ready (d ∷ es) (suc i) e l zero x at room is = is
keeps_ready (d ∷ es) (suc i) e l (suc n) x at room is = keeps_ready es i e l n x at room is
