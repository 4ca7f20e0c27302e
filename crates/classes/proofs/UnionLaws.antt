-- Unions of arrays that share nodes.
use Rattle.std.proofs.Common.{◌≡◌, append_assoc, ℕ, suc, ◌+◌, ◌/◌, ◌%◌, ◌<◌, ◌≤◌, List, [], ◌++◌, length, get_or, set, refl, sym, ap, ◌∙◌, subst, ⊎_elim, arith}
use Rattle.std.specs.Prelude.{bit_or}
use Rattle.std.specs.Int.Bits.{or_self, or_zero_l, or_zero_r}
use Rattle.std.proofs.lemmas.Bool.{cases_eq, cases_lt}
use Rattle.std.proofs.lemmas.List.{append-nil, get_or-set_other, get_or-set_same, get_or_past, length-append, length-set}
use Rattle.classes.specs.PersistentArrays.{HasNode, HasZeros, IsTree, IsUnionOfTrees, child, item_at}
use Rattle.classes.proofs.PersistentArrayLaws.{empty_item, empty_tree, no_children, same_item, same_node, still_tree}

lower_than : (k digit : ℕ) → k < digit + 1 → (k ≡ digit → ⊥) → k < digit
lower_than k digit low other = omega (arith, low, other)

-- ---- Array 0

module _ (nodes : List (List ℕ)) (zeros : HasZeros nodes) where
  four : length (get_or nodes 0 []) ≡ 4
  four = ap length zeros.node_is

  children : (digit : ℕ) → child nodes 0 digit ≡ 0
  children digit = ap (λ (n : List ℕ). get_or n digit 0) zeros.node_is ∙ no_children digit

  pub zero_tree : (levels : ℕ) → IsTree nodes levels 0
  zero_tree levels = empty_tree nodes zeros.here four children levels

  pub zero_item : (levels index : ℕ) → item_at nodes levels 0 index ≡ 0
  zero_item levels index = empty_item nodes zeros.here four children levels index

  -- A root with itself, and with that of array 0.
  pub union_same : (levels a : ℕ) → IsTree nodes levels a → IsUnionOfTrees nodes nodes levels a a a
  union_same levels a tree = record { tree = tree; items = λ index. sym (or_self (item_at nodes levels a index)) }

  pub union_zero : (levels a b : ℕ) → b ≡ 0 → IsTree nodes levels a → IsUnionOfTrees nodes nodes levels a b a
  union_zero levels a b none tree =
      record {
        tree = tree;
        items = λ index.
            sym (ap (λ r. bit_or (item_at nodes levels a index) (item_at nodes levels r index)) none
            ∙ ap (bit_or (item_at nodes levels a index)) (zero_item levels index)
            ∙ or_zero_r (item_at nodes levels a index));
      }

  pub zero_union : (levels a b : ℕ) → a ≡ 0 → IsTree nodes levels b → IsUnionOfTrees nodes nodes levels a b b
  zero_union levels a b none tree =
      record {
        tree = tree;
        items = λ index.
            sym (ap (λ r. bit_or (item_at nodes levels r index) (item_at nodes levels b index)) none
            ∙ ap (λ x. bit_or x (item_at nodes levels b index)) (zero_item levels index)
            ∙ or_zero_l (item_at nodes levels b index));
      }

pub still_zeros : (nodes more : List (List ℕ)) → HasZeros nodes → HasZeros (nodes ++ more)
still_zeros nodes more zeros =
    record { here = omega (arith, zeros.here, length-append nodes more); node_is = same_node nodes more 0 zeros.here ∙ zeros.node_is }

-- ---- Items

pub leaf_union : (old new : List (List ℕ)) (levels a b : ℕ) → levels ≡ 0 → IsUnionOfTrees old new levels a b (bit_or a b)
unfolding IsTree item_at
leaf_union old new levels a b e =
    subst (λ l. IsUnionOfTrees old new l a b (bit_or a b)) (sym e) (record { tree = tt; items = λ index. refl })

-- ---- More nodes

module _ (old new more : List (List ℕ)) (are : new ≡ old ++ more) where
  pub tree_on : (levels root : ℕ) → IsTree old levels root → IsTree new levels root
  tree_on levels root tree = subst (λ (ns : List (List ℕ)). IsTree ns levels root) (sym are) (still_tree old more levels root tree)

  pub item_on : (levels root index : ℕ) → IsTree old levels root → item_at new levels root index ≡ item_at old levels root index
  item_on levels root index tree = ap (λ (ns : List (List ℕ)). item_at ns levels root index) are ∙ same_item old more levels root index tree

  pub zeros_on : HasZeros old → HasZeros new
  zeros_on zeros = subst HasZeros (sym are) (still_zeros old more zeros)

  -- The nodes that were there before, from new ones.
  pub union_before : (last : List (List ℕ)) (levels a b root : ℕ) → IsTree old levels a → IsTree old levels b → IsUnionOfTrees new last levels a b root → IsUnionOfTrees old last levels a b root
  union_before last levels a b root tree_a tree_b union = record {
    tree = union.tree;
    items = λ index. union.items index ∙ (λ i. bit_or (item_on levels a index tree_a i) (item_on levels b index tree_b i));
  }

  pub union_after : (first : List (List ℕ)) (levels a b root : ℕ) → IsUnionOfTrees first old levels a b root → IsUnionOfTrees first new levels a b root
  union_after first levels a b root union = record {
    tree = tree_on levels root union.tree;
    items = λ index. item_on levels root index union.tree ∙ union.items index;
  }

-- ---- Child by child

-- The first children of a node are unions of those of two others.
pub record AreUnions (old nodes : List (List ℕ)) (levels : ℕ) (low high node : List ℕ) (digit : ℕ) : Type 0 where
  pub more : (more : List (List ℕ)) × (nodes ≡ old ++ more)
  pub four : length node ≡ 4
  pub each : (k : ℕ) → k < digit → IsUnionOfTrees old nodes levels (get_or low k 0) (get_or high k 0) (get_or node k 0)

pub no_unions : (old : List (List ℕ)) (levels : ℕ) (low high : List ℕ) → length low ≡ 4 → AreUnions old old levels low high low 0
no_unions old levels low high four = record {
  more = ([], sym (append-nil old));
  four = four;
  each = λ k below. absurd (omega (arith, below));
}

module _ (old nodes new more : List (List ℕ)) (levels : ℕ) (low high node : List ℕ) (digit child : ℕ) where
  pub one_more : AreUnions old nodes levels low high node digit → digit < 4 → new ≡ nodes ++ more
      → IsTree old levels (get_or low digit 0) → IsTree old levels (get_or high digit 0)
      → IsUnionOfTrees nodes new levels (get_or low digit 0) (get_or high digit 0) child
      → AreUnions old new levels low high (set node digit child) (digit + 1)
  one_more before within are low_tree high_tree union = record {
    more = (before.more.0 ++ more, are ∙ ap (λ (ns : List (List ℕ)). ns ++ more) before.more.1 ∙ append_assoc old before.more.0 more);
    four = length-set node digit child ∙ before.four;
    each = λ k below.
        ⊎_elim
        (λ (same : k ≡ digit).
        subst (λ j. IsUnionOfTrees old new levels (get_or low j 0) (get_or high j 0) (get_or (set node digit child) j 0)) (sym same)
        (subst (IsUnionOfTrees old new levels (get_or low digit 0) (get_or high digit 0)) (sym (get_or-set_same node digit child 0 (omega (arith, before.four, within))))
        (union_before old nodes before.more.0 before.more.1 new levels (get_or low digit 0) (get_or high digit 0) child low_tree high_tree union)))
        (λ (other : k ≡ digit → ⊥).
        subst (IsUnionOfTrees old new levels (get_or low k 0) (get_or high k 0)) (sym (get_or-set_other node digit k child 0 other))
        (union_after nodes new more are old levels (get_or low k 0) (get_or high k 0) (get_or node k 0) (before.each k (lower_than k digit below other))))
        (cases_eq k digit);
  }

-- ---- A node of unions

module _ (old nodes new more : List (List ℕ)) (levels a b root : ℕ) (low high node : List ℕ)
    (are : new ≡ nodes ++ more) (zeros : HasZeros old) (has : HasNode new root node) (unions : AreUnions old nodes levels low high node 4)
    (low_is : low ≡ get_or old a []) (high_is : high ≡ get_or old b []) where
  new_zeros : HasZeros new
  new_zeros = zeros_on nodes new more are (zeros_on old nodes unions.more.0 unions.more.1 zeros)

  child_is : (digit : ℕ) → child new root digit ≡ get_or node digit 0
  child_is digit = ap (λ (n : List ℕ). get_or n digit 0) has.node_is

  child_tree : (digit : ℕ) → IsTree new levels (get_or node digit 0)
  child_tree digit =
      ⊎_elim
      (λ (within : digit < 4). tree_on nodes new more are levels (get_or node digit 0) (unions.each digit within).tree)
      (λ (past : 4 ≤ digit).
      subst (IsTree new levels) (sym (get_or_past node digit 0 (omega (arith, unions.four, past)))) (zero_tree new new_zeros levels))
      (cases_lt digit 4)

  pub node_union : IsUnionOfTrees old new (suc levels) a b root
  unfolding IsTree item_at
  node_union = record {
    tree = (has.here, ap length has.node_is ∙ unions.four, λ digit. subst (IsTree new levels) (sym (child_is digit)) (child_tree digit));
    items = λ index.
        let union = unions.each (index % 4) (omega arith) in
        ap (λ c. item_at new levels c (index / 4)) (child_is (index % 4))
        ∙ item_on nodes new more are levels (get_or node (index % 4) 0) (index / 4) union.tree
        ∙ union.items (index / 4)
        ∙ (λ i. bit_or (item_at old levels (get_or (low_is i) (index % 4) 0) (index / 4)) (item_at old levels (get_or (high_is i) (index % 4) 0) (index / 4)));
  }
