-- Defines the table of the places of labels.
use Rattle.std.specs.Prelude.{◌≡◌, ℕ, List, length}
use Rattle.std.specs.Borrow.{Bor}
use Rattle.std.specs.BTreeMap as tree
use Rattle.std.specs.BTreeMap.{BTreeMap}
use Rattle.std.specs.Cmp.Lexicographic.{slice_cmp}
use Rattle.std.specs.Ordering.{nat_cmp}
use Rattle.std.specs.declared.cmp.Ordering.{Ordering}
use Rattle.jasmin.specs.declared.source.CodeItem.{CodeItem}
use Rattle.jasmin.specs.Denote.{label_place, operations}

-- Compares names by their units.
abbrev pub name_cmp : Bor (List ℕ) → Bor (List ℕ) → Ordering
name_cmp a b = slice_cmp nat_cmp a.now b.now

-- The table of code: the place of each label, and the number of instructions.
pub record ArePlacesOf (items : List CodeItem) (places : BTreeMap (Bor (List ℕ)) ℕ) (count : ℕ) : Type 0 where
  pub placed : (label : Bor (List ℕ)) → tree.get name_cmp places label ≡ label_place items label.now
  pub counted : count ≡ length (operations items)
