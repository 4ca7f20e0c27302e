-- The accesses of an item are recorded at the reserved entries.
use Rattle.std.proofs.Common.{◌≡◌, ℕ, Bool, true, false, List, [], ◌∷◌, Option, Some, None, MatchOption, refl, sym, ◌∙◌, subst, slice_get}
use Rattle.jvms_machine.specs.declared.trace.Item.{Item}
use Rattle.jvms_machine.specs.Events.{thread_of}
use Rattle.accesses.specs.Accesses.{Access, IsNoted, Last, OfThread, accesses_beside, main_at}
use Rattle.accesses.specs.Kept.{HasSpare, IsNotedIn, kept_in}
use Rattle.accesses.specs.Places.{place_of}
use Rattle.accesses.specs.Rooms.{AreReady, HasRoom, IsNotedAt, IsReady, Remembered, kept_of}
use Rattle.accesses.specs.declared.lasts.PlaceAccesses.{PlaceAccesses}
use Rattle.accesses.specs.declared.lasts.Noted.{Noted}
use Rattle.accesses.specs.declared.place.Place.{Place as Key}
use Rattle.accesses.specs.declared.slot.Slot.{Slot}
use Rattle.accesses.proofs.Entries.{found_map, found_out, keeps_ready}
use Rattle.accesses.proofs.Noting.{IsOneNoted, noted_alone, noted_among, noted_both}
use Rattle.accesses.specs.Accesses.{last_of}

abbrev Table : Type 0
Table = List (Key × PlaceAccesses)

abbrev own_slot : ℕ → Slot
own_slot index = record { index = index; is_main = true }

abbrev pub event : ℕ → ℕ → ℕ → Noted
event number transaction t = record { number = number; transaction = transaction; thread = t }

-- The entry that is reserved for what an item touches.
one_ready : (es : Table) (s : Slot) (xs : List Access) → AreReady es (Some s) xs → (x : Access) × (xs ≡ x ∷ []) × IsReady es s.index x × (s.is_main ≡ x.is_main)
one_ready es s [] is = absurd is
one_ready es s (x ∷ []) is = (x, refl, is.0, is.1)
one_ready es s (x ∷ y ∷ xs) is = absurd is

touched_ready : (r : Remembered) (i : Item) (s : Slot) → HasRoom r i → r.touched ≡ Some s → (x : Access) × (accesses_beside i ≡ x ∷ []) × IsReady r.entries s.index x × (s.is_main ≡ x.is_main)
touched_ready r i s room is = one_ready r.entries s (accesses_beside i) (subst (λ (o : Option Slot). AreReady r.entries o (accesses_beside i)) is room.touched)

-- No entry is reserved only if the item touches nothing.
none_ready : (es : Table) (xs : List Access) → AreReady es None xs → xs ≡ []
none_ready es [] is = refl
none_ready es (x ∷ xs) is = absurd is

still_ready : (r : Remembered) (fs : Table) (n : Noted) (m : ℕ) (x : Access) → IsNotedAt (own_slot r.own) n r.entries fs → IsReady r.entries m x → IsReady fs m x
still_ready r fs n m x is ready = subst (λ (es : Table). IsReady es m x) (sym is.others) (keeps_ready r.entries r.own is.entry is.now m x is.at is.noted.room ready)

pub room_left : (r : Remembered) (fs : Table) (n : Noted) (i : Item) (s : Slot) → HasRoom r i → r.touched ≡ Some s → IsNotedAt (own_slot r.own) n r.entries fs → MatchOption (slice_get fs s.index) ⊥ (λ e. s.is_main ≡ false → HasSpare e.1)
room_left r fs n i s room is first =
    let w = touched_ready r i s room is in
    found_map (λ e. (place_of e.0 ≡ w.0.place) × (w.0.is_main ≡ false → HasSpare e.1)) (λ e. s.is_main ≡ false → HasSpare e.1) (λ e both beside. both.1 (sym w.3 ∙ beside)) (slice_get fs s.index)
    (still_ready r fs n s.index w.0 first w.2)

abbrev IsNotedAs : ℕ → ℕ → Item → Access → List Last → List Last → Type 0
IsNotedAs number transaction i y old new = IsOneNoted (last_of number transaction (thread_of i) y) i y old new

-- One access is recorded at its entry.
one_noted : (es fs : Table) (s : Slot) (number transaction t : ℕ) (i : Item) (x : Access) → t ≡ thread_of i → IsReady es s.index x → s.is_main ≡ x.is_main → IsNotedAt s (event number transaction t) es fs → IsNotedAs number transaction i x (kept_in es) (kept_in fs)
one_noted es fs s number transaction t i x thread ready main is =
    let place : place_of is.entry.0 ≡ x.place = (found_out (λ e. (place_of e.0 ≡ x.place) × (x.is_main ≡ false → HasSpare e.1)) es s.index is.entry is.at ready).0 in
    let noted : IsNotedIn x.is_main (event number transaction (thread_of i)) is.entry.1 is.now = subst (λ (b : Bool). IsNotedIn b (event number transaction (thread_of i)) is.entry.1 is.now) main (subst (λ (u : ℕ). IsNotedIn s.is_main (event number transaction u) is.entry.1 is.now) thread is.noted) in
    subst (λ (gs : Table). IsNotedAs number transaction i x (kept_in es) (kept_in gs)) (sym is.others)
    (noted_among es s.index is.entry is.now i number transaction x is.at place noted)

pub event_alone : (r : Remembered) (fs : Table) (number transaction t : ℕ) (i : Item) → t ≡ thread_of i → HasRoom r i → r.touched ≡ None → IsNotedAt (own_slot r.own) (event number transaction t) r.entries fs → IsNoted number transaction i (kept_of r) (kept_in fs)
event_alone r fs number transaction t i thread room none first =
    noted_alone i number transaction (kept_of r) (kept_in fs)
    (none_ready r.entries (accesses_beside i) (subst (λ (o : Option Slot). AreReady r.entries o (accesses_beside i)) none room.touched))
    (one_noted r.entries fs (own_slot r.own) number transaction t i (main_at (OfThread (thread_of i))) thread room.own refl first)

pub event_both : (r : Remembered) (fs gs : Table) (number transaction t : ℕ) (i : Item) (s : Slot) → t ≡ thread_of i → HasRoom r i → r.touched ≡ Some s → IsNotedAt (own_slot r.own) (event number transaction t) r.entries fs → IsNotedAt s (event number transaction t) fs gs → IsNoted number transaction i (kept_of r) (kept_in gs)
event_both r fs gs number transaction t i s thread room is first second =
    let w = touched_ready r i s room is in
    noted_both i number transaction w.0 (kept_of r) (kept_in fs) (kept_in gs) w.1
    (one_noted r.entries fs (own_slot r.own) number transaction t i (main_at (OfThread (thread_of i))) thread room.own refl first)
    (one_noted fs gs s number transaction t i w.0 thread (still_ready r fs (event number transaction t) s.index w.0 first w.2) w.3 second)
