-- Defines the table of places and its index (own).
use Rattle.std.specs.Prelude.{◌≡◌, ℕ, List, Option, Some, None}
use Rattle.std.specs.List.{IsDistinct}
use Rattle.std.specs.Map.{keys_of, lookup}
use Rattle.std.specs.BTreeMap.{BTreeMap, get}
use Rattle.accesses.specs.OnePlace.{same_keys}
use Rattle.accesses.specs.Ordered.{place_cmp}
use Rattle.accesses.specs.Places.{place_of}
use Rattle.accesses.specs.Rooms.{IsEntryOf}
use Rattle.accesses.specs.declared.lasts.PlaceAccesses.{PlaceAccesses}
use Rattle.accesses.specs.declared.place.Place.{Place as Key}

-- The entries, in the order in which they were added.
pub record Entries : Type 0 where
  pub entries : List (Key × PlaceAccesses)

-- The result is the entry of the key's place, or there is none.
abbrev pub IsEntryOrNone : List (Key × PlaceAccesses) → Key → Option ℕ → Type 0
IsEntryOrNone es q None = lookup (same_keys q) es ≡ None
IsEntryOrNone es q (Some i) = IsEntryOf es i (place_of q)

-- No place has two entries, and the index finds each entry.
pub record IsIndexed (m : BTreeMap Key ℕ) (es : List (Key × PlaceAccesses)) : Type 0 where
  pub unique : IsDistinct same_keys (keys_of es)
  pub entry_is : (q : Key) → IsEntryOrNone es q (get place_cmp m q)
