-- Defines which items of code refer to a label that marks no instruction.
use Rattle.std.specs.Prelude.{Bool, false, List}
use Rattle.std.specs.List.{list_any}
use Rattle.jasmin.specs.declared.source.CodeItem.{CodeItem}
use Rattle.jasmin.specs.declared.source.CodeItem.TheVariants as item
use Rattle.jasmin.specs.Assembling.{labels_of, marks_no_instruction}

-- Decides whether an item refers to a label that marks no instruction.
abbrev pub item_leads_nowhere : List CodeItem → CodeItem → Bool
item_leads_nowhere items (item.Label name) = false
item_leads_nowhere items (item.Operation o) = list_any (marks_no_instruction items) (labels_of o)
