-- Arrays that share nodes.
use Rattle.std.proofs.Common.{◌≡◌, ℕ, zero, suc, ◌+◌, ◌-◌, ◌*◌, ◌/◌, ◌%◌, ◌^◌, ◌<◌, ◌≤◌, List, [], ◌∷◌, ◌++◌, length, get_or, set, refl, sym, ap, ◌∙◌, subst, ⊎_elim, arith}
use Rattle.std.specs.Prelude.{◌==◌, if◌then◌else◌}
use Rattle.std.proofs.Math.ListN.{get_or-append}
use Rattle.std.proofs.Math.Nat.{div-add-mod, mul-le-mul_right, pow-suc}
use Rattle.std.proofs.Math.Seq.{get_or-append_seam}
use Rattle.std.proofs.lemmas.Bool.{cases_eq, cond-true, cond-false, eq-eqb, ne_eqb}
use Rattle.std.proofs.lemmas.List.{get_or-set_other, get_or-set_same, length-append, length-set}
use Rattle.classes.specs.PersistentArrays.{IsTree, child, item_at}

-- ---- Levels

quadruple : (q n : ℕ) → (q + 1) * (n * 4) ≡ (4 * q + 4) * n
quadruple q n = grind arith

pub enough : (count left levels : ℕ) → count < (left + 1) * 4 ^ levels → count < (left / 4 + 1) * 4 ^ (levels + 1)
enough count left levels h =
    let n = 4 ^ levels in
    let more : (left + 1) * n ≤ (4 * (left / 4) + 4) * n = mul-le-mul_right n (omega arith) in
    let same : (left / 4 + 1) * (n * 4) ≡ (4 * (left / 4) + 4) * n = quadruple (left / 4) n in
    let next : 4 ^ (levels + 1) ≡ n * 4 = (let e : levels + 1 ≡ suc levels = omega arith in ap (λ k. 4 ^ k) e ∙ pow-suc 4 levels) in
    subst (λ (m : ℕ). count < (left / 4 + 1) * m) (sym next) (omega (arith, h, more, same))

quarter : (i n : ℕ) → i < n * 4 → i / 4 < n
quarter i n h = omega (arith, h)

-- ---- More nodes after the others

module _ (nodes more : List (List ℕ)) where
  pub same_node : (root : ℕ) → root < length nodes → get_or (nodes ++ more) root [] ≡ get_or nodes root []
  same_node root within = get_or-append nodes more [] root within

  same_child : (root digit : ℕ) → root < length nodes → child (nodes ++ more) root digit ≡ child nodes root digit
  same_child root digit within = ap (λ (n : List ℕ). get_or n digit 0) (same_node root within)

  pub still_tree : (levels root : ℕ) → IsTree nodes levels root → IsTree (nodes ++ more) levels root
  unfolding IsTree
  still_tree zero root tree = tt
  still_tree (suc levels) root tree = (
    omega (arith, tree.0, length-append nodes more),
    ap length (same_node root tree.0) ∙ tree.1,
    λ digit. subst (IsTree (nodes ++ more) levels) (sym (same_child root digit tree.0)) (still_tree levels (child nodes root digit) (tree.2 digit)),
  )

  pub same_item : (levels root index : ℕ) → IsTree nodes levels root → item_at (nodes ++ more) levels root index ≡ item_at nodes levels root index
  unfolding IsTree item_at
  same_item zero root index tree = refl
  same_item (suc levels) root index tree =
      ap (λ c. item_at (nodes ++ more) levels c (index / 4)) (same_child root (index % 4) tree.0)
      ∙ same_item levels (child nodes root (index % 4)) (index / 4) (tree.2 (index % 4))

-- ---- The array that has 0 at each index

module _ (nodes : List (List ℕ)) (some : 0 < length nodes) (four : length (get_or nodes 0 []) ≡ 4) (zeros : (digit : ℕ) → child nodes 0 digit ≡ 0) where
  pub empty_tree : (levels : ℕ) → IsTree nodes levels 0
  unfolding IsTree
  empty_tree zero = tt
  empty_tree (suc levels) = (some, four, λ digit. subst (IsTree nodes levels) (sym (zeros digit)) (empty_tree levels))

  pub empty_item : (levels index : ℕ) → item_at nodes levels 0 index ≡ 0
  unfolding item_at
  empty_item zero index = refl
  empty_item (suc levels) index = ap (λ c. item_at nodes levels c (index / 4)) (zeros (index % 4)) ∙ empty_item levels (index / 4)

-- ---- One item is changed

module _ (nodes nodes1 nodes2 more : List (List ℕ)) (levels root index changed number : ℕ) (node : List ℕ)
    (first : nodes1 ≡ nodes ++ more) (second : nodes2 ≡ nodes1 ++ node ∷ []) (last : number ≡ length nodes1)
    (node_is : node ≡ set (get_or nodes root []) (index % 4) changed)
    (here : root < length nodes) (four : length (get_or nodes root []) ≡ 4) where
  new_node : get_or nodes2 number [] ≡ node
  new_node = rw (second, last) (get_or-append_seam nodes1 node [] [])

  new_child : child nodes2 number (index % 4) ≡ changed
  new_child =
      ap (λ (n : List ℕ). get_or n (index % 4) 0) (new_node ∙ node_is)
      ∙ get_or-set_same (get_or nodes root []) (index % 4) changed 0 (omega (arith, four))

  other_child : (digit : ℕ) → (digit ≡ index % 4 → ⊥) → child nodes2 number digit ≡ child nodes root digit
  other_child digit other =
      ap (λ (n : List ℕ). get_or n digit 0) (new_node ∙ node_is)
      ∙ get_or-set_other (get_or nodes root []) (index % 4) digit changed 0 other

  from_first : (l r : ℕ) → IsTree nodes1 l r → IsTree nodes2 l r
  from_first l r tree = subst (λ (ns : List (List ℕ)). IsTree ns l r) (sym second) (still_tree nodes1 (node ∷ []) l r tree)

  from_old : (l r : ℕ) → IsTree nodes l r → IsTree nodes2 l r
  from_old l r tree = from_first l r (subst (λ (ns : List (List ℕ)). IsTree ns l r) (sym first) (still_tree nodes more l r tree))

  item_from_first : (l r i : ℕ) → IsTree nodes1 l r → item_at nodes2 l r i ≡ item_at nodes1 l r i
  item_from_first l r i tree = ap (λ (ns : List (List ℕ)). item_at ns l r i) second ∙ same_item nodes1 (node ∷ []) l r i tree

  item_from_old : (l r i : ℕ) → IsTree nodes l r → item_at nodes2 l r i ≡ item_at nodes l r i
  item_from_old l r i tree =
      item_from_first l r i (subst (λ (ns : List (List ℕ)). IsTree ns l r) (sym first) (still_tree nodes more l r tree))
      ∙ ap (λ (ns : List (List ℕ)). item_at ns l r i) first ∙ same_item nodes more l r i tree

  pub new_tree : ((digit : ℕ) → IsTree nodes levels (child nodes root digit)) → IsTree nodes1 levels changed → IsTree nodes2 (suc levels) number
  unfolding IsTree
  new_tree old tree = (
    (let long : length nodes2 ≡ length nodes1 + 1 = ap length second ∙ length-append nodes1 (node ∷ []) in omega (arith, long, last)),
    ap length (new_node ∙ node_is) ∙ length-set (get_or nodes root []) (index % 4) changed ∙ four,
    λ digit.
        ⊎_elim
        (λ (same : digit ≡ index % 4). subst (IsTree nodes2 levels) (sym (ap (child nodes2 number) same ∙ new_child)) (from_first levels changed tree))
        (λ (other : digit ≡ index % 4 → ⊥). subst (IsTree nodes2 levels) (sym (other_child digit other)) (from_old levels (child nodes root digit) (old digit)))
        (cases_eq digit (index % 4)),
  )

  below_quarter : (i : ℕ) → i < 4 ^ suc levels → i / 4 < 4 ^ levels
  below_quarter i h = quarter i (4 ^ levels) (subst (λ (n : ℕ). i < n) (pow-suc 4 levels) h)

  same_index : (i : ℕ) → i % 4 ≡ index % 4 → (i / 4 == index / 4) ≡ (i == index)
  same_index i digits =
      ⊎_elim
      (λ (same : i ≡ index). eq-eqb (i / 4) (index / 4) (ap (λ n. n / 4) same) ∙ sym (eq-eqb i index same))
      (λ (other : i ≡ index → ⊥).
      ne_eqb (i / 4) (index / 4) (λ quarters. other (sym (div-add-mod i 4) ∙ (λ k. 4 * quarters k + digits k) ∙ div-add-mod index 4)) ∙ sym (ne_eqb i index other))
      (cases_eq i index)

  pub new_item : (item : ℕ) → ((digit : ℕ) → IsTree nodes levels (child nodes root digit)) → IsTree nodes1 levels changed
      → ((i : ℕ) → i < 4 ^ levels → index / 4 < 4 ^ levels → item_at nodes1 levels changed i ≡ (if i == index / 4 then item else item_at nodes levels (child nodes root (index % 4)) i))
      → (i : ℕ) → i < 4 ^ suc levels → index < 4 ^ suc levels → item_at nodes2 (suc levels) number i ≡ (if i == index then item else item_at nodes (suc levels) root i)
  unfolding item_at
  new_item item old tree items i i_within within =
      ⊎_elim
      (λ (same : i % 4 ≡ index % 4).
      ap (λ c. item_at nodes2 levels c (i / 4)) (ap (child nodes2 number) same ∙ new_child)
      ∙ item_from_first levels changed (i / 4) tree
      ∙ items (i / 4) (below_quarter i i_within) (below_quarter index within)
      ∙ (λ k. if same_index i same k then item else item_at nodes levels (child nodes root (sym same k)) (i / 4)))
      (λ (other : i % 4 ≡ index % 4 → ⊥).
      ap (λ c. item_at nodes2 levels c (i / 4)) (other_child (i % 4) other)
      ∙ item_from_old levels (child nodes root (i % 4)) (i / 4) (old (i % 4))
      ∙ sym (cond-false (i == index) item (item_at nodes levels (child nodes root (i % 4)) (i / 4)) (ne_eqb i index (λ same. other (ap (λ n. n % 4) same)))))
      (cases_eq (i % 4) (index % 4))

-- ---- One level down

pub one_down : (nodes : List (List ℕ)) (levels k at left : ℕ) → k < levels → item_at nodes (levels - (k + 1)) (child nodes at (left % 4)) (left / 4) ≡ item_at nodes (levels - k) at left
unfolding item_at
one_down nodes levels k at left below =
    let e : levels - k ≡ suc (levels - (k + 1)) = omega (arith, below) in
    sym (ap (λ l. item_at nodes l at left) e)

pub no_level : (nodes : List (List ℕ)) (levels k at left : ℕ) → levels ≤ k → item_at nodes (levels - k) at left ≡ at
unfolding item_at
no_level nodes levels k at left past = let e : levels - k ≡ 0 = omega (arith, past) in ap (λ l. item_at nodes l at left) e

-- ---- The node of array 0

zeros : List ℕ
zeros = 0 ∷ 0 ∷ 0 ∷ 0 ∷ []

zero_items : (digit : ℕ) → get_or zeros digit 0 ≡ 0
unfolding zeros
zero_items zero = refl
zero_items (suc zero) = refl
zero_items (suc (suc zero)) = refl
zero_items (suc (suc (suc zero))) = refl
zero_items (suc (suc (suc (suc digit)))) = refl

pub no_children : (digit : ℕ) → child ((0 ∷ 0 ∷ 0 ∷ 0 ∷ []) ∷ []) 0 digit ≡ 0
unfolding zeros
no_children digit = zero_items digit

-- ---- The levels of a tree

pub leaf_tree : (nodes : List (List ℕ)) (levels item : ℕ) → levels ≡ 0 → IsTree nodes levels item
unfolding IsTree
leaf_tree nodes levels item e = subst (λ l. IsTree nodes l item) (sym e) tt

pub leaf_items : (nodes : List (List ℕ)) (levels item root index : ℕ) → levels ≡ 0 → (i : ℕ) → i < 4 ^ levels → index < 4 ^ levels
    → item_at nodes levels item i ≡ (if i == index then item else item_at nodes levels root i)
unfolding item_at
leaf_items nodes levels item root index e i i_within within =
    let i_low : i < 4 ^ 0 = subst (λ l. i < 4 ^ l) e i_within in
    let low : index < 4 ^ 0 = subst (λ l. index < 4 ^ l) e within in
    ap (λ l. item_at nodes l item i) e ∙ sym (cond-true (i == index) item (item_at nodes levels root i) (eq-eqb i index (omega (arith, i_low, low))))

pub record HasChildren (nodes : List (List ℕ)) (levels root : ℕ) : Type 0 where
  pub here : root < length nodes
  pub four : length (get_or nodes root []) ≡ 4
  pub children : (digit : ℕ) → IsTree nodes levels (child nodes root digit)

pub children_of : (nodes : List (List ℕ)) (levels root : ℕ) → (levels ≡ 0 → ⊥) → IsTree nodes levels root → HasChildren nodes (levels - 1) root
unfolding IsTree
children_of nodes zero root some tree = absurd (some refl)
children_of nodes (suc levels) root some tree =
    let e : levels ≡ suc levels - 1 = omega arith in
    record { here = tree.0; four = tree.1; children = λ digit. subst (λ l. IsTree nodes l (child nodes root digit)) e (tree.2 digit) }

pub whole_level : (levels : ℕ) → (levels ≡ 0 → ⊥) → suc (levels - 1) ≡ levels
whole_level levels some = omega (arith, some)
