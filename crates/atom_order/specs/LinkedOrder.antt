-- Defines the order of the live transactions, with the links into each that has begun (own).
use Rattle.std.specs.Prelude.{ℕ, Bool, List}
use Rattle.atom_order.specs.declared.link.Link.{Link}
use Rattle.atom_order.specs.Shapes.{Shape}
use Rattle.atom_order.specs.Slots.{live_of}

-- The transaction of each slot, or 0 for a gap, and the links into each transaction.
pub record Ranked : Type 0 where
  pub slots : List ℕ
  pub into : List (List Link)

abbrev pub shape_of : List ℕ → Ranked → List Bool → Shape
shape_of dropped o opens = record { dropped = dropped; live = live_of o.slots; is_open = opens; into = o.into }
