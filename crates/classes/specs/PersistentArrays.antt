-- Arrays that share what they have in common, as trees of nodes with four children (own).
use Rattle.std.specs.Prelude.{◌≡◌, ℕ, zero, suc, ◌/◌, ◌%◌, ◌<◌, List, [], ◌∷◌, length, slice_index, slice_index_or, bit_or}

-- Returns a child of a node.
abbrev pub child : List (List ℕ) → ℕ → ℕ → ℕ
child nodes node digit = slice_index (slice_index_or nodes node []) digit

-- Returns the item at an index of the array of a root that is `levels` levels above the items. The last digit of the
-- index, to base four, leads to the first child.
unfoldable pub item_at : List (List ℕ) → ℕ → ℕ → ℕ → ℕ
item_at nodes zero root index = root
item_at nodes (suc levels) root index = item_at nodes levels (child nodes root (index % 4)) (index / 4)

-- All nodes of a tree are there.
unfoldable pub IsTree : List (List ℕ) → ℕ → ℕ → Type 0
IsTree nodes zero root = Unit {0}
IsTree nodes (suc levels) root = (root < length nodes) × (length (slice_index_or nodes root []) ≡ 4) × ((digit : ℕ) → IsTree nodes levels (child nodes root digit))

-- The node of a root has these children.
pub record HasNode (nodes : List (List ℕ)) (root : ℕ) (node : List ℕ) : Type 0 where
  pub here : root < length nodes
  pub node_is : slice_index_or nodes root [] ≡ node

-- Node 0 leads back to itself. So array 0 has 0 at each index.
abbrev pub HasZeros : List (List ℕ) → Type 0
HasZeros nodes = HasNode nodes 0 (0 ∷ 0 ∷ 0 ∷ 0 ∷ [])

-- The items of a tree have the bits of those of two others, which are in the old nodes.
pub record IsUnionOfTrees (old new : List (List ℕ)) (levels a b root : ℕ) : Type 0 where
  pub tree : IsTree new levels root
  pub items : (index : ℕ) → item_at new levels root index ≡ bit_or (item_at old levels a index) (item_at old levels b index)
