-- Proves facts about the labels of several items.
use Rattle.std.proofs.Common.{◌≡◌, Bool, ◌||◌, List, [], ◌∷◌, map, refl, ap, ◌∙◌}
use Rattle.std.specs.List.{list_any}
use Rattle.jasmin.specs.declared.source.CodeItem.{CodeItem}
use Rattle.jasmin.specs.declared.source.CodeItem.TheVariants as item
use Rattle.jasmin.specs.declared.source.MethodLines.{MethodLines}
use Rattle.jasmin.specs.Denote.{operations}
use Rattle.jasmin.specs.Assembling.{labels_of, marks_no_instruction}
use Rattle.source_labels.specs.Leading.{item_leads_nowhere}

pub any_mapped : {X Y : Type 0} (f : Y → Bool) (g : X → Y) (xs : List X) → list_any f (map g xs) ≡ list_any (λ x. f (g x)) xs
any_mapped f g [] = refl
any_mapped f g (x ∷ xs) = ap (λ b. f (g x) || b) (any_mapped f g xs)

any_operation : (items code : List CodeItem) → list_any (item_leads_nowhere items) code ≡ list_any (λ o. list_any (marks_no_instruction items) (labels_of o)) (operations code)
any_operation items [] = refl
any_operation items (item.Label name ∷ code) = any_operation items code
any_operation items (item.Operation o ∷ code) = ap (λ b. list_any (marks_no_instruction items) (labels_of o) || b) (any_operation items code)

-- The items of a method's code that refer to such a label are its operations.
pub code_leads_nowhere : (m : MethodLines) (items : List CodeItem) → items ≡ m.code → list_any (item_leads_nowhere items) m.code ≡ list_any (λ o. list_any (marks_no_instruction m.code) (labels_of o)) (operations m.code)
code_leads_nowhere m items same = ap (λ (xs : List CodeItem). list_any (item_leads_nowhere xs) m.code) same ∙ any_operation m.code m.code
