-- The links from entries that were reserved.
use Rattle.std.proofs.Common.{◌≡◌, ℕ, Bool, List, [], ◌∷◌, Some, None}
use Rattle.atom_order.specs.declared.link.Link.{Link}
use Rattle.accesses.specs.Accesses.{Access, Last}
use Rattle.accesses.specs.Links.{AreAdded}
use Rattle.accesses.specs.Rooms.{AreReady, IsReady}
use Rattle.accesses.specs.declared.lasts.PlaceAccesses.{PlaceAccesses}
use Rattle.accesses.specs.declared.place.Place.{Place as Key}
use Rattle.accesses.specs.declared.slot.Slot.{Slot}
use Rattle.accesses.proofs.Found.{none_added}

abbrev pub Table : Type 0
Table = List (Key × PlaceAccesses)

-- The links of an access come from the entry at an index.
abbrev pub LinksAt : Table → List Last → ℕ → ℕ → Bool → List Link → List Link → Type 0
LinksAt es kept number n is_main old new = (x : Access) → IsReady es n x → is_main ≡ x.is_main → AreAdded kept number (x ∷ []) old new

pub added_ready : (es : Table) (kept : List Last) (number : ℕ) (s : Slot) (xs : List Access) (old new : List Link)
    → AreReady es (Some s) xs → LinksAt es kept number s.index s.is_main old new → AreAdded kept number xs old new
added_ready es kept number s [] old new ready at = absurd ready
added_ready es kept number s (x ∷ []) old new ready at = at x ready.0 ready.1
added_ready es kept number s (x ∷ (y ∷ xs)) old new ready at = absurd ready

pub added_none : (es : Table) (kept : List Last) (number : ℕ) (xs : List Access) (old : List Link) → AreReady es None xs → AreAdded kept number xs old old
added_none es kept number [] old ready = none_added kept number old
added_none es kept number (x ∷ xs) old ready = absurd ready
