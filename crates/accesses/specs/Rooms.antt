-- Defines what contracts see of the remembered accesses, and of the memory reserved for an item (own).
use Rattle.std.specs.Prelude.{◌≡◌, ℕ, zero, suc, false, List, [], ◌∷◌, Option, Some, None, slice_get, MatchOption}
use Rattle.jvms_machine.specs.declared.trace.Item.{Item}
use Rattle.jvms_machine.specs.Events.{thread_of}
use Rattle.accesses.specs.Accesses.{Access, Last, OfThread, Place, main_at, accesses_beside}
use Rattle.accesses.specs.Kept.{HasSpare, IsNotedIn, kept_at, kept_in}
use Rattle.accesses.specs.Links.{AreAt}
use Rattle.accesses.specs.Places.{place_of}
use Rattle.accesses.specs.Touches.{touched_at}
use Rattle.accesses.specs.declared.place.Place.{Place as Key}
use Rattle.accesses.specs.declared.lasts.PlaceAccesses.{PlaceAccesses}
use Rattle.accesses.specs.declared.lasts.Noted.{Noted}
use Rattle.accesses.specs.declared.slot.Slot.{Slot}

-- The entries by place, and those reserved for an item: for its thread, and for what it touches.
pub record Remembered : Type 0 where
  pub entries : List (Key × PlaceAccesses)
  pub own : ℕ
  pub touched : Option Slot

abbrev pub kept_of : Remembered → List Last
kept_of r = kept_in r.entries

-- Entry n is that of place p.
abbrev pub IsEntryOf : List (Key × PlaceAccesses) → ℕ → Place → Type 0
IsEntryOf es n p = MatchOption (slice_get es n) ⊥ (λ e. place_of e.0 ≡ p)

-- If entry n exists, it has memory for one more non-main access.
abbrev pub HasRoomAt : List (Key × PlaceAccesses) → ℕ → Type 0
HasRoomAt es n = MatchOption (slice_get es n) (Unit {0}) (λ e. HasSpare e.1)

-- Entry n is that of the access, with memory for it.
abbrev pub IsReady : List (Key × PlaceAccesses) → ℕ → Access → Type 0
IsReady es n x = MatchOption (slice_get es n) ⊥ (λ e. (place_of e.0 ≡ x.place) × (x.is_main ≡ false → HasSpare e.1))

abbrev pub AreReady : List (Key × PlaceAccesses) → Option Slot → List Access → Type 0
AreReady es None [] = Unit {0}
AreReady es (Some s) (x ∷ []) = IsReady es s.index x × (s.is_main ≡ x.is_main)
AreReady es _ _ = ⊥

-- Each access of the item has its entry, with memory for it.
pub record HasRoom (r : Remembered) (i : Item) : Type 0 where
  pub own : IsReady r.entries r.own (main_at (OfThread (thread_of i)))
  pub touched : AreReady r.entries r.touched (accesses_beside i)

-- Returns the entries with the accesses of entry n replaced.
abbrev pub set_value_at : List (Key × PlaceAccesses) → ℕ → PlaceAccesses → List (Key × PlaceAccesses)
set_value_at [] n l = []
set_value_at (e ∷ es) zero l = (e.0, l) ∷ es
set_value_at (e ∷ es) (suc n) l = e ∷ set_value_at es n l

-- An access was recorded at its entry.
pub record IsNotedAt (s : Slot) (n : Noted) (old new : List (Key × PlaceAccesses)) : Type 0 where
  pub entry : Key × PlaceAccesses
  pub now : PlaceAccesses
  pub at : slice_get old s.index ≡ Some entry
  pub noted : IsNotedIn s.is_main n entry.1 now
  pub others : new ≡ set_value_at old s.index now

-- Entry n is that of what the item touches, and its accesses are all that are remembered there.
pub record IsTouchedAt (es : List (Key × PlaceAccesses)) (n : ℕ) (i : Item) (here : PlaceAccesses) : Type 0 where
  pub place : Place
  pub touched : accesses_beside i ≡ touched_at i place ∷ []
  pub entry : IsEntryOf es n place
  pub kept : AreAt (kept_in es) place (kept_at place here)
