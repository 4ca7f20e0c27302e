-- Items that are appended to a recording.
use Rattle.std.proofs.Common.{◌≡◌, List, [], ◌++◌, Option, Some, None, refl, ap}
use Rattle.std.proofs.lemmas.List.{append-nil, append_assoc}
use Rattle.std.proofs.Math.Seq.{take-append_seam}
use Rattle.jvms_machine.specs.declared.trace.Item.{Item}
use Rattle.trace.specs.Recording.{with_items, count_of, first_items}

-- Appending no items changes nothing.
pub recorded_none : (r : Option (List Item)) → with_items r [] ≡ r
recorded_none None = refl
recorded_none (Some items) = ap Some (append-nil items)

-- Appending items and then more appends both.
pub recorded_both : (r : Option (List Item)) (first second : List Item) → with_items (with_items r first) second ≡ with_items r (first ++ second)
recorded_both None first second = refl
recorded_both (Some items) first second = ap Some (append_assoc items first second)

-- Cutting to the old count removes the appended items.
pub cut_recorded : (r : Option (List Item)) (more : List Item) → first_items (count_of r) (with_items r more) ≡ r
cut_recorded None more = refl
cut_recorded (Some items) more = ap Some (take-append_seam items more)
