use Rattle.std.proofs.Common.{ℕ, List, Option, take, get_or, sym, ◌∙◌, subst, refl}
use Rattle.std.specs.Prelude.{IfSome}
use Rattle.std.proofs.lemmas.List.{take_more}
use Rattle.classes.specs.PersistentArrays.{IsTree, IsUnionOfTrees}
use Rattle.classes.proofs.SetLaws.{AreUnited, none_united, one_united}
use Rattle.classes.proofs.UnionLaws.{tree_on}
use Rattle.classes.proofs.class_sets.union_of.Goals as goal

pub loop-other-init : goal.loop-other-init
loop-other-init c = record {
  levels = refl;
  united = none_united c.args.arrays.now.nodes.items c.args.arrays.now.levels c.args.roots.now c.requires.zeros;
}

pub union-requires-clause-b : goal.union-requires-clause-b
union-requires-clause-b c =
    let old = c.args.arrays.now.nodes.items in
    let united = c.loop-other.invariant.united in
    subst (λ l. IsTree c.loop-other.arrays.nodes.items l c.in-Some.other) (sym c.loop-other.invariant.levels)
    (tree_on old c.loop-other.arrays.nodes.items united.more.0 united.more.1 c.args.arrays.now.levels c.in-Some.other
    (c.requires.trees.each (get_or c.args.supers.now c.loop-other.other-index 0) c.in-Some.other (sym c.root_at.ensures ∙ c.in-Some.is)))

pub loop-other-preserved : goal.loop-other-preserved
loop-other-preserved c =
    let i = c.loop-other.other-index in
    let nodes = c.loop-other.arrays.nodes.items in
    let new = c.union.new.self.nodes.items in
    let levels = c.args.arrays.now.levels in
    let super = get_or c.args.supers.now i 0 in
    let joined = c.in_ok-root.ensures in
    record {
      levels = joined.levels ∙ c.loop-other.invariant.levels;
      united =
          subst (λ (ss : List ℕ). AreUnited c.args.arrays.now.nodes.items new levels c.args.roots.now ss c.in-Some-2.root)
          (sym (take_more c.args.supers.now i 0 c.loop-other-test.true))
          (one_united c.args.arrays.now.nodes.items levels c.args.roots.now nodes new joined.more.0 (take i c.args.supers.now) c.loop-other.union super c.in-Some.other c.in-Some-2.root
          c.requires.trees c.loop-other.invariant.united (sym c.root_at.ensures ∙ c.in-Some.is) joined.more.1
          (subst (λ l. IsUnionOfTrees nodes new l c.loop-other.union c.in-Some.other c.in-Some-2.root) c.loop-other.invariant.levels
          (subst (λ (o : Option ℕ). IfSome o (IsUnionOfTrees nodes new c.loop-other.arrays.levels c.loop-other.union c.in-Some.other)) c.in-Some-2.is joined.union)));
    }
