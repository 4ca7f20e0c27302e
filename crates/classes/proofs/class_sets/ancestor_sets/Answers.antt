use Rattle.std.proofs.Common.{◌≡◌, ℕ, ◌+◌, ◌/◌, ◌^◌, ◌<◌, ◌≤◌, true, List, Option, Some, None, get_or, length, set, refl, sym, subst, ◌∙◌, ⊎_elim, arith}
use Rattle.std.specs.Prelude.{IfSome, slice_get}
use Rattle.std.proofs.lemmas.Option.{slice_get_cases}
use Rattle.jvms_program.specs.declared.program.Class.{Class}
use Rattle.classes.specs.Ancestors.{IsUnionOf, are_known, has_number}
use Rattle.classes.specs.Hierarchy.{super_numbers}
use Rattle.classes.specs.PersistentArrays.{IsTree}
use Rattle.classes.proofs.AncestorLaws.{AreSetsBelow, one_set}
use Rattle.classes.proofs.HierarchyLaws.{count}
use Rattle.classes.proofs.MarkingLaws.{row_is}
use Rattle.classes.proofs.UnionLaws.{zeros_on}
use Rattle.classes.proofs.class_sets.ancestor_sets.Goals as goal

pub loop-place-preserved : goal.loop-place-preserved
loop-place-preserved c =
    let ranked = c.ranked-ranked.result in
    let program = ranked.classes.now in
    let place = c.loop-place.place in
    let at = get_or ranked.order.now place 0 in
    let old = c.loop-place.roots.items in
    let nodes = c.loop-place.arrays.nodes.items in
    let levels = c.loop-place.arrays.levels in
    let new = c.set_of.new.arrays.nodes.items in
    let root = c.in_ok-root.root in
    let made = c.in_ok-root.ensures in
    let found = ranked.is_hierarchy.found.found place (omega arith) in
    let within : at < length program = omega (arith, found.0, count program ranked.supers.now ranked.ranks.now ranked.order.now ranked.is_hierarchy) in
    record {
      enough = subst (λ l. length program / 32 + 1 ≤ 4 ^ l) (sym made.levels) c.loop-place.invariant.enough;
      zeros = zeros_on nodes new made.more.0 made.more.1 c.loop-place.invariant.zeros;
      below =
          ⊎_elim
          (λ (there : (d : Class) × (at < length program) × (slice_get program at ≡ Some d) × (get_or program at d ≡ d)).
          let supers : c.as_slice-supers.result.now ≡ super_numbers program there.0 =
          c.as_slice-supers.ensures ∙ row_is program ranked.supers.now ranked.ranks.now ranked.order.now ranked.is_hierarchy at there.0 there.2 c.index-ranked-at.result in
          subst (λ l. AreSetsBelow program ranked.supers.now ranked.ranks.now ranked.order.now ranked.is_hierarchy l (place + 1) new (set old at root)) (sym made.levels)
          (one_set program ranked.supers.now ranked.ranks.now ranked.order.now ranked.is_hierarchy levels place at there.0 nodes new made.more.0 old (set old at root) root
          c.loop-place.invariant.enough refl found.1 there.2 made.more.1
          (subst (λ l. IfSome root (IsTree new l)) made.levels made.tree)
          (subst (λ (ns : List ℕ). IfSome root (λ r. IsUnionOf nodes levels old at ns (has_number new levels r))) supers
          (subst (λ (rs : List (Option ℕ)). IfSome root (λ r. IsUnionOf nodes levels rs at c.as_slice-supers.result.now (has_number new levels r))) c.as_slice.ensures.value made.union))
          (subst (λ (ns : List ℕ). IfSome root (λ r. are_known old ns ≡ true)) supers
          (subst (λ (rs : List (Option ℕ)). IfSome root (λ r. are_known rs c.as_slice-supers.result.now ≡ true)) c.as_slice.ensures.value made.known))
          refl c.loop-place.invariant.below))
          (λ (past : (length program ≤ at) × (slice_get program at ≡ None)). absurd (omega (arith, past.0, within)))
          (slice_get_cases program at).1;
    }
