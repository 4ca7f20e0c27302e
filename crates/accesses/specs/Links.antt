-- Defines the links from the accesses to a place to a new event (Velodrome, section 4).
use Rattle.std.specs.Prelude.{◌≡◌, ℕ, Bool, true, if◌then◌else◌, List, [], ◌∷◌, ◌++◌, map, Option, Some, None}
use Rattle.velodrome.specs.Cycles.{IsIn}
use Rattle.atom_order.specs.declared.link.Link.{Link}
use Rattle.accesses.specs.Accesses.{Access, Last, against, link_to, same_place}
use Rattle.accesses.specs.Accesses.{Place}
use Rattle.accesses.specs.declared.lasts.Noted.{Noted}
use Rattle.accesses.specs.declared.lasts.PlaceAccesses.{PlaceAccesses}

abbrev pub link_from : ℕ → Noted → Link
link_from number n = record { from = n.transaction; pair = record { earlier = n.number; later = number } }

abbrev pub main_links : ℕ → Option Noted → List Link
main_links number None = []
main_links number (Some n) = link_from number n ∷ []

-- Returns the links from all accesses to a place, or from the main one alone.
abbrev pub links_of : Bool → ℕ → PlaceAccesses → List Link
links_of is_main number l = main_links number l.main ++ (if is_main then map (link_from number) l.beside.items else [])

-- A remembered access conflicts with one of these.
abbrev pub IsAgainstOne : List Access → Last → Type 0
IsAgainstOne xs k = (y : Access) × IsIn y xs × (against k.access y ≡ true)

-- There is a link from each remembered access that conflicts with one of these, and no other.
pub record AreLinksOf (kept : List Last) (number : ℕ) (xs : List Access) (links : List Link) : Type 0 where
  pub sound : (l : Link) → IsIn l links → (k : Last) × IsIn k kept × IsAgainstOne xs k × (l ≡ link_to number k)
  pub whole : (k : Last) → IsIn k kept → IsAgainstOne xs k → IsIn (link_to number k) links

-- Such links were appended to others.
abbrev pub AreAdded : List Last → ℕ → List Access → List Link → List Link → Type 0
AreAdded kept number xs old new = (more : List Link) × (new ≡ old ++ more) × AreLinksOf kept number xs more

-- The listed accesses are all that are remembered for a place.
abbrev pub AreAt : List Last → Place → List Last → Type 0
AreAt kept p here = ((k : Last) → IsIn k here → IsIn k kept × (k.access.place ≡ p)) × ((k : Last) → IsIn k kept → same_place k.access.place p ≡ true → IsIn k here)
