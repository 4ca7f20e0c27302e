-- Defines places as the keys of the table (own).
use Rattle.accesses.specs.Accesses.{Place, OfThread, OfMonitor, OfVariable}
use Rattle.accesses.specs.declared.place.Place.{Place as Key}
use Rattle.accesses.specs.declared.place.Place.TheVariants as key

-- Returns the place of a key.
abbrev pub place_of : Key → Place
place_of (key.OfThread t) = OfThread t
place_of (key.OfMonitor r) = OfMonitor r
place_of (key.OfVariable v) = OfVariable v
