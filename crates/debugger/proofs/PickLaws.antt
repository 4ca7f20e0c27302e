-- The items after the choices that follow the position are replaced by another one.
use Rattle.std.proofs.Common.{◌≡◌, ℕ, ◌≤◌, List, [], ◌∷◌, ◌++◌, length, take, ap, arith, ◌∙◌, sym}
use Rattle.std.proofs.lemmas.List.{length-append, length-take}
use Rattle.jvms_machine.specs.declared.trace.Item.{Item}
use Rattle.debugger.specs.declared.mark.Mark.{Mark}
use Rattle.debugger.specs.declared.timeline.Timeline.{Timeline}
use Rattle.debugger.specs.declared.walk.Walk.{Walk}
use Rattle.debugger.specs.States.{items_at}
use Rattle.debugger.specs.Timelines.{IsBranch, IsTimeline, setting}
use Rattle.debugger.specs.Walks.{IsWalk}
use Rattle.debugger.proofs.ChoiceLaws.{take_front}
use Rattle.debugger.proofs.RunLaws.{items_fewer, items_joined, items_same}

-- The new choices begin with the old ones.
same_front : (t : Timeline) (new : List ℕ) (choice : ℕ) → IsTimeline t → new ≡ take t.position t.choices.items ++ choice ∷ [] → take t.position t.choices.items ≡ take t.position new
same_front t new choice is new_is =
    let within : t.position ≤ length t.choices.items = omega (arith, is.position, is.far) in
    take_front t.choices.items new (choice ∷ []) t.position within new_is

-- The choices up to the position, followed by another, are a branch.
pub is_branch : (t : Timeline) (new : List ℕ) (choice : ℕ) → IsTimeline t → new ≡ take t.position t.choices.items ++ choice ∷ [] → IsBranch t new
is_branch t new choice is new_is =
    let front = take t.position t.choices.items in
    let within : t.position ≤ length t.choices.items = omega (arith, is.position, is.far) in
    record {
      same = sym (same_front t new choice is new_is);
      count = omega (arith, ap length new_is, length-append front (choice ∷ []), length-take t.position t.choices.items, within);
    }

-- A walk along a branch has the items of the branch's choices.
pub branch_items : (t : Timeline) (new : List ℕ) (w : Walk) (trace items all : List Item) → IsTimeline t → IsBranch t new
    → trace ≡ items_at (setting t) t.choices.items t.far → IsWalk (setting t) new w → w.reach.from ≡ t.position → items ≡ w.items → all ≡ take t.here.items trace ++ items
    → all ≡ items_at (setting t) new w.reach.far
branch_items t new w trace items all is branch trace_is walk from items_is all_is =
    let g = setting t in
    let brought : items_at g new w.reach.far ≡ items_at g new t.position ++ w.items = walk.items ∙ ap (λ n. items_at g new n ++ w.items) from in
    let count : t.here.items ≡ length (items_at g t.choices.items t.position) = ap (λ (m : Mark). m.items) is.here in
    items_joined g t.choices.items new t.position t.far w.reach.far t.here.items trace w.items all is.position count (sym branch.same) trace_is brought (all_is ∙ ap (λ l. take t.here.items trace ++ l) items_is)

-- There are no more items before the position than before.
pub few_front : (t : Timeline) (new : List ℕ) → IsTimeline t → IsBranch t new → length (items_at (setting t) new t.position) ≤ length (items_at (setting t) t.choices.items t.far)
few_front t new is branch =
    let g = setting t in
    let old = t.choices.items in
    let fewer : length (items_at g old t.position) ≤ length (items_at g old t.far) = items_fewer g old t.position t.far is.position in
    let items : length (items_at g old t.position) ≡ length (items_at g new t.position) = ap length (items_same g old new t.position (sym branch.same)) in
    omega (arith, fewer, items)
