-- Defines what is remembered of a trace, by place: the last main access, and each thread's last non-main access since.
-- For variables these are the last write and each thread's last read (Velodrome, section 4). For threads and monitors
-- the rule is our own.
use Rattle.std.specs.Prelude.{◌≡◌, ◌<◌, ◌==◌, Bool, true, false, if◌then◌else◌, List, [], ◌∷◌, ◌++◌, map, Option, Some, None, length}
use Rattle.accesses.specs.Accesses.{Place, Last, main_at, beside_at, last_of}
use Rattle.accesses.specs.Places.{place_of}
use Rattle.accesses.specs.declared.place.Place.{Place as Key}
use Rattle.accesses.specs.declared.lasts.Noted.{Noted}
use Rattle.accesses.specs.declared.lasts.PlaceAccesses.{PlaceAccesses}

abbrev pub main_last : Place → Noted → Last
main_last p n = last_of n.number n.transaction n.thread (main_at p)

abbrev pub beside_last : Place → Noted → Last
beside_last p n = last_of n.number n.transaction n.thread (beside_at p)

abbrev pub main_lasts : Place → Option Noted → List Last
main_lasts p None = []
main_lasts p (Some n) = main_last p n ∷ []

-- Returns the remembered accesses to a place.
abbrev pub kept_at : Place → PlaceAccesses → List Last
kept_at p l = main_lasts p l.main ++ map (beside_last p) l.beside.items

abbrev pub kept_in : List (Key × PlaceAccesses) → List Last
kept_in [] = []
kept_in (e ∷ es) = kept_at (place_of e.0) e.1 ++ kept_in es

-- Replaces the access of the same thread, or appends a new one.
abbrev pub with_access : Noted → List Noted → List Noted
with_access n [] = n ∷ []
with_access n (m ∷ ms) = if m.thread == n.thread then n ∷ ms else m ∷ with_access n ms

-- There is memory for one more non-main access.
abbrev pub HasSpare : PlaceAccesses → Type 0
HasSpare l = length l.beside.items < l.beside.capacity

-- A main access was recorded. It is the only one that is remembered at its place.
pub record IsMainNoted (n : Noted) (old new : PlaceAccesses) : Type 0 where
  pub main : new.main ≡ Some n
  pub beside : new.beside.items ≡ []
  pub room : HasSpare old → HasSpare new

-- A non-main access was recorded.
pub record IsBesideNoted (n : Noted) (old new : PlaceAccesses) : Type 0 where
  pub main : new.main ≡ old.main
  pub beside : new.beside.items ≡ with_access n old.beside.items

abbrev pub IsNotedIn : Bool → Noted → PlaceAccesses → PlaceAccesses → Type 0
IsNotedIn true n old new = IsMainNoted n old new
IsNotedIn false n old new = IsBesideNoted n old new
