-- Defines the texts of traces, one item a line.
use Rattle.std.specs.Prelude.{◌≡◌, ◌≢◌, ℕ, suc, List, [], ◌∷◌, ◌++◌, length, Result, Ok, Err}
use Rattle.std.specs.List.{flat_map, AllByRecursion}
use Rattle.jvms_machine.specs.declared.trace.Item.{Item}
use Rattle.trace_text.specs.declared.fault.TraceFault.{TraceFault}
use Rattle.trace_text.specs.declared.fault.TraceFault.TheVariants as fault
use Rattle.trace_text.specs.Items.{IsItem, item_text}

-- Returns the line of an item, with the LF that ends it.
abbrev pub item_line : Item → List ℕ
item_line i = item_text i ++ 10 ∷ []

-- Returns the lines of items in order.
abbrev pub trace_text : List Item → List ℕ
trace_text items = flat_map item_line items

-- The text is that of these items, and a text may have them.
pub record IsTextOf (text : List ℕ) (items : List Item) : Type 0 where
  pub are_valid : AllByRecursion IsItem items
  pub written : text ≡ trace_text items

-- The text is not empty, and it begins with no item's line.
pub record BeginsWithNoItem (text : List ℕ) : Type 0 where
  pub some : text ≢ []
  pub none : (i : Item) (behind : List ℕ) → IsItem i → text ≢ item_line i ++ behind

-- Line `line` is the first that is no item or has no LF. All lines before it are items.
pub record IsFaulty (text : List ℕ) (line : ℕ) : Type 0 where
  pub items : List Item
  pub rest : List ℕ
  pub are_valid : AllByRecursion IsItem items
  pub split : text ≡ trace_text items ++ rest
  pub count : line ≡ suc (length items)
  pub fault : BeginsWithNoItem rest

-- The result is the trace of the text, or its first faulty line. If memory ran out the result says nothing of the text.
abbrev pub IsRead : List ℕ → Result (List Item) TraceFault → Type 0
IsRead text (Ok items) = IsTextOf text items
IsRead text (Err (fault.Syntax line)) = IsFaulty text line
IsRead text (Err fault.Memory) = Unit {0}
