-- Defines the accesses of an item as the code represents them (own).
use Rattle.std.specs.Prelude.{Bool, true, false, List, [], ◌∷◌, Option, Some, None}
use Rattle.jvms_machine.specs.declared.trace.Item.{Item}
use Rattle.jvms_machine.specs.declared.trace.Item.TheVariants as item
use Rattle.accesses.specs.Accesses.{Access, OfMonitor, OfThread, OfVariable, Place, same_place}
use Rattle.accesses.specs.Places.{place_of}
use Rattle.accesses.specs.declared.touch.Touch.{Touch}

abbrev pub access_of : Touch → Access
access_of t = record { place = place_of t.place; is_main = t.is_main }

abbrev pub touches : Option Touch → List Access
touches None = []
touches (Some t) = access_of t ∷ []

-- Decides whether an item touches place p.
abbrev pub touches_at : Item → Place → Bool
touches_at (item.Read t v) p = same_place (OfVariable v) p
touches_at (item.Write t v) p = same_place (OfVariable v) p
touches_at (item.Acquire t r) p = same_place (OfMonitor r) p
touches_at (item.Release t r) p = same_place (OfMonitor r) p
touches_at (item.Fork t u) p = same_place (OfThread u) p
touches_at (item.Join t u) p = same_place (OfThread u) p
touches_at (item.Enter t m) p = false
touches_at (item.Exit t m) p = false

-- Decides whether the access to what an item touches is a main one.
abbrev pub has_main_touch : Item → Bool
has_main_touch (item.Write t v) = true
has_main_touch (item.Acquire t r) = true
has_main_touch (item.Release t r) = true
has_main_touch _ = false

abbrev pub touched_at : Item → Place → Access
touched_at i p = record { place = p; is_main = has_main_touch i }
