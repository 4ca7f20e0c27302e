use Rattle.std.proofs.Common.{◌≡◌, ℕ, ◌-◌, List, [], Option, length, get_or, sym, ap, ◌∙◌, subst, ⊎_elim, rules, arith}
use Rattle.std.specs.Prelude.{IfSome}
use Rattle.std.proofs.lemmas.List.{get_or_default, length-append}
use Rattle.classes.specs.PersistentArrays.{IsTree, IsUnionOfTrees}
use Rattle.classes.proofs.PersistentArrayLaws.{children_of, whole_level}
use Rattle.classes.proofs.UnionLaws.{AreUnions, leaf_union, no_unions, node_union, one_more, tree_on, union_same, union_zero, zero_union, zeros_on}
use Rattle.classes.proofs.persistent_arrays.+union.Goals as goal

pub returns-then-a-b-clause-union : goal.returns-then-a-b-clause-union
returns-then-a-b-clause-union t c =
    let nodes = c.args.nodes.now.items in
    ⊎_elim
    (λ (same : c.args.a ≡ c.args.b).
    subst (λ b. IsUnionOfTrees nodes nodes c.args.levels c.args.a b c.args.a) same (union_same nodes c.requires.zero c.args.levels c.args.a c.requires.a))
    (λ (none : (c.args.a ≡ c.args.b → ⊥) × (c.args.b ≡ 0)). union_zero nodes c.requires.zero c.args.levels c.args.a c.args.b none.1 c.requires.a)
    c.then-a-b.either

pub returns-then-a-eq0-clause-union : goal.returns-then-a-eq0-clause-union
returns-then-a-eq0-clause-union t c =
    zero_union c.args.nodes.now.items c.requires.zero c.args.levels c.args.a c.args.b c.if-a-eq0.true c.requires.b

pub returns-then-levels-eq0-clause-union : goal.returns-then-levels-eq0-clause-union
returns-then-levels-eq0-clause-union t c =
    leaf_union c.args.nodes.now.items c.args.nodes.now.items c.args.levels c.args.a c.args.b c.if-levels-eq0.true

pub index-requires : goal.index-requires
index-requires t c =
    let has = children_of c.args.nodes.now.items c.args.levels c.args.a c.if-levels-eq0.false c.requires.a in
    omega (arith, has.here, c.args.nodes.now.ok.0)

pub index-requires-2 : goal.index-requires-2
index-requires-2 t c =
    let has = children_of c.args.nodes.now.items c.args.levels c.args.b c.if-levels-eq0.false c.requires.b in
    omega (arith, has.here, c.args.nodes.now.ok.0)

pub loop-digit-init : goal.loop-digit-init
loop-digit-init t c =
    let nodes = c.args.nodes.now.items in
    let has = children_of nodes c.args.levels c.args.a c.if-levels-eq0.false c.requires.a in
    let low_is = c.index.ensures ∙ get_or_default nodes c.args.a c.index.result.now [] has.here in
    no_unions nodes (c.args.levels - 1) c.index.result.now c.index-2.result.now (ap length low_is ∙ has.four)

pub union-requires : goal.union-requires
union-requires t c =
    let old = c.args.nodes.now.items in
    let nodes = c.loop-digit.nodes.items in
    let levels = c.args.levels - 1 in
    let digit = c.loop-digit.digit in
    let more = c.loop-digit.invariant.more in
    let low = children_of old c.args.levels c.args.a c.if-levels-eq0.false c.requires.a in
    let high = children_of old c.args.levels c.args.b c.if-levels-eq0.false c.requires.b in
    let low_is = c.index.ensures ∙ get_or_default old c.args.a c.index.result.now [] low.here in
    let high_is = c.index-2.ensures ∙ get_or_default old c.args.b c.index-2.result.now [] high.here in (
      search rules,
      (
        zeros_on old nodes more.0 more.1 c.requires.zero,
        (
          tree_on old nodes more.0 more.1 levels (get_or c.index.result.now digit 0) (subst (λ (n : List ℕ). IsTree old levels (get_or n digit 0)) (sym low_is) (low.children digit)),
          tree_on old nodes more.0 more.1 levels (get_or c.index-2.result.now digit 0) (subst (λ (n : List ℕ). IsTree old levels (get_or n digit 0)) (sym high_is) (high.children digit)),
        ),
      ),
    )

pub loop-digit-preserved : goal.loop-digit-preserved
loop-digit-preserved t c =
    let old = c.args.nodes.now.items in
    let nodes = c.loop-digit.nodes.items in
    let new = c.union.new.nodes.items in
    let levels = c.args.levels - 1 in
    let digit = c.loop-digit.digit in
    let low = children_of old c.args.levels c.args.a c.if-levels-eq0.false c.requires.a in
    let high = children_of old c.args.levels c.args.b c.if-levels-eq0.false c.requires.b in
    let low_is = c.index.ensures ∙ get_or_default old c.args.a c.index.result.now [] low.here in
    let high_is = c.index-2.ensures ∙ get_or_default old c.args.b c.index-2.result.now [] high.here in
    let joined = c.in_ok-child.ensures in
    one_more old nodes new joined.more.0 levels c.index.result.now c.index-2.result.now c.loop-digit.node digit c.in-Some.child
    c.loop-digit.invariant c.loop-digit-test.true joined.more.1
    (subst (λ (n : List ℕ). IsTree old levels (get_or n digit 0)) (sym low_is) (low.children digit))
    (subst (λ (n : List ℕ). IsTree old levels (get_or n digit 0)) (sym high_is) (high.children digit))
    (subst (λ (o : Option ℕ). IfSome o (IsUnionOfTrees nodes new levels (get_or c.index.result.now digit 0) (get_or c.index-2.result.now digit 0))) c.in-Some.is joined.union)

pub root_of-requires-clause-a : goal.root_of-requires-clause-a
root_of-requires-clause-a t c =
    let old = c.args.nodes.now.items in
    let has = children_of old c.args.levels c.args.a c.if-levels-eq0.false c.requires.a in
    let more = c.loop-digit.invariant.more in
    omega (arith, has.here, ap length more.1 ∙ length-append old more.0)

pub root_of-requires-clause-b : goal.root_of-requires-clause-b
root_of-requires-clause-b t c =
    let old = c.args.nodes.now.items in
    let has = children_of old c.args.levels c.args.b c.if-levels-eq0.false c.requires.b in
    let more = c.loop-digit.invariant.more in
    omega (arith, has.here, ap length more.1 ∙ length-append old more.0)

pub returns-clause-union : goal.returns-clause-union
returns-clause-union t c =
    let old = c.args.nodes.now.items in
    let nodes = c.loop-digit.nodes.items in
    let new = c.root_of.new.nodes.items in
    let levels = c.args.levels - 1 in
    let low = children_of old c.args.levels c.args.a c.if-levels-eq0.false c.requires.a in
    let high = children_of old c.args.levels c.args.b c.if-levels-eq0.false c.requires.b in
    let low_is = c.index.ensures ∙ get_or_default old c.args.a c.index.result.now [] low.here in
    let high_is = c.index-2.ensures ∙ get_or_default old c.args.b c.index-2.result.now [] high.here in
    let all : c.loop-digit.digit ≡ 4 = omega arith in
    let unions = subst (AreUnions old nodes levels c.index.result.now c.index-2.result.now c.loop-digit.node) all c.loop-digit.invariant in
    let root = c.in_ok-root_of.field-0 in
    subst (λ l. IsUnionOfTrees old new l c.args.a c.args.b root) (whole_level c.args.levels c.if-levels-eq0.false)
    (node_union old nodes new c.in_ok-root_of.ensures.more.0 levels c.args.a c.args.b root c.index.result.now c.index-2.result.now c.loop-digit.node
    c.in_ok-root_of.ensures.more.1 c.requires.zero c.in_ok-root_of.ensures.root unions low_is high_is)
