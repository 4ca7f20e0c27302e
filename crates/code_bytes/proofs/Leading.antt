-- Proves that the place of a label is at most the number of instructions.
use Rattle.std.proofs.Common.{ℕ, suc, ◌≤◌, Bool, true, false, cond, List, [], ◌∷◌, length, Option, None, Some, arith}
use Rattle.std.specs.Option.{option_map, unwrap_or}
use Rattle.jvms_file.specs.Names.{same_text}
use Rattle.jasmin.specs.declared.source.CodeItem.{CodeItem}
use Rattle.jasmin.specs.declared.source.CodeItem.TheVariants as item
use Rattle.jasmin.specs.Denote.{label_place, target, operations}

here_or_behind : (here : Bool) (place : Option ℕ) (count : ℕ) → unwrap_or place 0 ≤ count → unwrap_or (cond here (Some 0) place) 0 ≤ count
here_or_behind true place count h = omega arith
here_or_behind false place count h = h

one_behind : (place : Option ℕ) (count : ℕ) → unwrap_or place 0 ≤ count → unwrap_or (option_map suc place) 0 ≤ suc count
one_behind None count h = omega arith
one_behind (Some n) count h = omega arith

pub target_within : (items : List CodeItem) (label : List ℕ) → target items label ≤ length (operations items)
target_within [] label = omega arith
target_within (item.Label name ∷ items) label = here_or_behind (same_text name label) (label_place items label) (length (operations items)) (target_within items label)
target_within (item.Operation o ∷ items) label = one_behind (label_place items label) (length (operations items)) (target_within items label)
