-- Defines sets of marked numbers (own).
use Rattle.std.specs.Prelude.{◌≡◌, ℕ, Bool, List}
use Rattle.std.specs.List.{list_any}
use Rattle.std.specs.Ordering.{nat_cmp}
use Rattle.std.specs.BTreeMap.{is_at}
use Rattle.atom_order.specs.Reaching.{is_among}

-- Decides whether a set with these keys has a number.
abbrev pub has_key : List ℕ → ℕ → Bool
has_key keys x = list_any (is_at (nat_cmp x)) keys

abbrev pub HasMarks : List ℕ → List ℕ → Type 0
HasMarks keys marks = (x : ℕ) → has_key keys x ≡ is_among x marks
