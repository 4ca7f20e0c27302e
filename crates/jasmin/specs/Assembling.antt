-- Says when a source can't be assembled.
use Rattle.std.specs.Prelude.{ℕ, Bool, true, false, not, ◌||◌, nat_lt, List, [], ◌∷◌, length, map, Option, Some, None, is_some}
use Rattle.std.specs.List.{list_any}
use Rattle.jasmin.specs.declared.source.Operation.{Operation}
use Rattle.jasmin.specs.declared.source.Operation.TheVariants as operation
use Rattle.jasmin.specs.declared.source.CodeItem.{CodeItem}
use Rattle.jasmin.specs.declared.source.CodeItem.TheVariants as item
use Rattle.jasmin.specs.declared.source.CatchLine.{CatchLine}
use Rattle.jasmin.specs.declared.source.MethodLines.{MethodLines}
use Rattle.jasmin.specs.declared.source.Source.{Source}
use Rattle.jasmin.specs.Denote.{label_place, operations}

-- ---- Labels

-- Returns the labels that an instruction refers to.
abbrev pub labels_of : Operation → List (List ℕ)
labels_of (operation.Branch width how label) = label ∷ []
labels_of (operation.Table lines) = lines.default ∷ lines.labels
labels_of (operation.Lookup lines) = lines.default ∷ map (λ m. m.label) lines.matches
labels_of _ = []

-- Decides whether a place is no instruction's, if there are `count` instructions.
abbrev pub is_no_instruction : ℕ → Option ℕ → Bool
is_no_instruction count None = true
is_no_instruction count (Some place) = not (nat_lt place count)

-- Decides whether a label marks no instruction: it is undefined, or follows the last instruction.
abbrev pub marks_no_instruction : List CodeItem → List ℕ → Bool
marks_no_instruction items label = is_no_instruction (length (operations items)) (label_place items label)

-- Decides whether a label is undefined. The end of a range may follow the last instruction.
abbrev pub is_undefined : List CodeItem → List ℕ → Bool
is_undefined items label = not (is_some (label_place items label))

abbrev pub has_bad_label : List CodeItem → CatchLine → Bool
has_bad_label items c = marks_no_instruction items c.from || (is_undefined items c.to || marks_no_instruction items c.using)

-- Decides whether a label that is referred to is undefined, or follows the last instruction where one has to follow it.
abbrev pub has_undefined_label : MethodLines → Bool
has_undefined_label m =
    list_any (λ o. list_any (marks_no_instruction m.code) (labels_of o)) (operations m.code) || list_any (has_bad_label m.code) m.catches

-- Decides whether a label is defined in code.
abbrev pub defines : List ℕ → List CodeItem → Bool
defines label items = is_some (label_place items label)

-- Decides whether a label is defined twice. It need not be referred to.
abbrev pub repeats_label : List CodeItem → Bool
repeats_label [] = false
repeats_label (item.Label name ∷ items) = defines name items || repeats_label items
repeats_label (item.Operation o ∷ items) = repeats_label items

-- Decides whether both places are given and the first isn't before the second.
abbrev pub is_not_before : Option ℕ → Option ℕ → Bool
is_not_before (Some from) (Some to) = not (nat_lt from to)
is_not_before _ _ = false

-- Decides whether both labels of a range are defined, but the first isn't before the second.
abbrev pub is_bad_range : List CodeItem → CatchLine → Bool
is_bad_range items c = is_not_before (label_place items c.from) (label_place items c.to)

abbrev pub has_bad_range : MethodLines → Bool
has_bad_range m = list_any (is_bad_range m.code) m.catches

-- ---- Counts

-- Decides whether a list is longer than a count of two bytes allows.
abbrev pub is_too_many : {A : Type 0} → List A → Bool
is_too_many xs = nat_lt 65535 (length xs)

-- Decides whether the interfaces, fields, methods, catches or thrown names are more than a count of two bytes allows.
abbrev pub has_too_many : Source → Bool
has_too_many s =
    is_too_many s.interfaces || (is_too_many s.fields || (is_too_many s.methods
    || list_any (λ m. is_too_many m.catches || is_too_many m.throws) s.methods))
