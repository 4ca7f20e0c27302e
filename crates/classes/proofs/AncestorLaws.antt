-- The sets of the classes in ancestries, class by class.
use Rattle.std.proofs.Common.{◌≡◌, ℕ, ◌+◌, ◌<◌, ◌≤◌, Bool, true, false, ◌||◌, List, [], ◌∷◌, length, get_or, replicate, set, eqb, ltb, nat_eq, ◌/◌, ◌%◌, ◌^◌, ◌++◌, Option, Some, None, is_some, refl, sym, ap, ◌∙◌, subst, ⊎_elim, arith}
use Rattle.std.specs.Prelude.{IfSome, slice_get}
use Rattle.std.specs.Int.{bit_at}
use Rattle.std.specs.List.{flat_map, list_all, list_any}
use Rattle.std.specs.Option.{option_and_then}
use Rattle.std.specs.Cmp.Lexicographic.{bytes_decides, same_text as texts_are_same}
use Rattle.std.proofs.lemmas.Bool.{cases_eq, cases_lt, eq-eqb, false≢true, ltb-true, ne_eqb}
use Rattle.std.proofs.lemmas.List.{get_or-replicate, get_or-set_other, get_or-set_same, length-replicate, length-set}
use Rattle.std.proofs.lemmas.List.Folds.{list_any-append}
use Rattle.std.proofs.lemmas.Option.{none-some, same_Some, slice_get-get_or, slice_get_past, slice_get_within}
use Rattle.jvms_file.specs.Names.{same_text}
use Rattle.jvms_program.specs.declared.program.Class.{Class}
use Rattle.jvms_program.specs.Program.{class_number}
use Rattle.jvms_program.specs.Resolution.{ancestry, names_class, supers_of}
use Rattle.classes.specs.declared.class_sets.AncestorSets.{AncestorSets}
use Rattle.classes.specs.Ancestors.{AreAncestorSets, AreTrees, IsAncestorSet, IsUnionOf, are_known, has_number, is_in_set, root_at}
use Rattle.classes.specs.PersistentArrays.{IsTree}
use Rattle.classes.proofs.UnionLaws.{item_on, tree_on}
use Rattle.classes.specs.Hierarchy.{IsHierarchyOf, numbers_of, rank, super_numbers, to_list}
use Rattle.classes.proofs.HierarchyLaws.{at_its_place, first_numbers, lower, missing, named, number_passes, number_within, rank_within, unfolds}
use Rattle.classes.proofs.PlaceLaws.{name_is, named_at, one_name, unnamed}

or_false : (b : Bool) → (b || false) ≡ b
or_false true = refl
or_false false = refl

lower_than : (r place : ℕ) → r < place + 1 → (r ≡ place → ⊥) → r < place
lower_than r place low other = omega (arith, low, other)

-- ---- The set of a class from those above it

module _ (program : List Class) (name : List ℕ) (n : ℕ) (number : class_number program name ≡ Some n) where
  same_by : (c : Class) (at : ℕ) (b : Bool) → class_number program c.name ≡ Some at → same_text c.name name ≡ b → b ≡ nat_eq n at
  same_by c at true own same =
      let e : n ≡ at = same_Some n at (sym number ∙ ap (class_number program) (sym (texts_are_same c.name name (sym same))) ∙ own) in
      sym (eq-eqb n at e)
  same_by c at false own differs =
      sym (ne_eqb n at (λ e. false≢true (sym differs ∙ (bytes_decides c.name name).1 (one_name program c.name name n (sym (own ∙ ap (λ (k : ℕ). Some k) (sym e))) (sym number)))))

  -- A class has a name exactly where it has its number.
  same_class : (c : Class) (at : ℕ) → class_number program c.name ≡ Some at → same_text c.name name ≡ nat_eq n at
  same_class c at own = same_by c at (same_text c.name name) own refl

module _ (program : List Class) (rows : List (List ℕ)) (ranks order : List ℕ) (h : IsHierarchyOf program rows ranks order) (levels : ℕ) where
  -- The classes of lower ranks have their sets, or none.
  pub record AreSetsBelow (place : ℕ) (nodes : List (List ℕ)) (roots : List (Option ℕ)) : Type 0 where
    pub count_is : length roots ≡ length program
    pub trees : AreTrees nodes levels roots
    pub each : (m : ℕ) (c : Class) (root : ℕ) → slice_get program m ≡ Some c → class_number program c.name ≡ Some m → rank ranks m < place → root_at roots m ≡ Some root
        → IsAncestorSet program c (has_number nodes levels root)

  no_root : (count m root : ℕ) → root_at (replicate count None) m ≡ Some root → ⊥
  no_root count m root there =
      ⊎_elim
      (λ (within : m < count).
      let e = slice_get-get_or (replicate count None) m None (omega (arith, length-replicate {A = Option ℕ} count None, within)) ∙ ap (λ (x : Option ℕ). Some x) (get_or-replicate count m None None within) in
      none-some root (ap (λ (x : Option (Option ℕ)). option_and_then (λ r. r) x) (sym e) ∙ there))
      (λ (past : count ≤ m).
      let e = slice_get_past (replicate count None) m (omega (arith, length-replicate {A = Option ℕ} count None, past)) in
      none-some root (ap (λ (x : Option (Option ℕ)). option_and_then (λ r. r) x) (sym e) ∙ there))
      (cases_lt m count)

  pub no_sets : (nodes : List (List ℕ)) (roots : List (Option ℕ)) → roots ≡ replicate (length program) None → AreSetsBelow 0 nodes roots
  no_sets nodes roots none =
      record {
        count_is = ap length none ∙ length-replicate (length program) None;
        trees = record { each = λ m root there. absurd (no_root (length program) m root (rw none at there)) };
        each = λ m c root at own low there. absurd (omega (arith, low));
      }

  module _ (place : ℕ) (nodes : List (List ℕ)) (roots : List (Option ℕ)) (below : AreSetsBelow place nodes roots) (name : List ℕ) (n : ℕ) (number : class_number program name ≡ Some n) where
    abbrev is_above : ℕ → Bool
    is_above s = is_in_set nodes levels (root_at roots s) n

    abbrev has_set : ℕ → Bool
    has_set s = is_some (root_at roots s)

    abbrev is_low : ℕ → Bool
    is_low s = ltb (rank ranks s) place

    one_above : (s : ℕ) (o : Option ℕ) (d : Class) → slice_get program s ≡ Some d → class_number program d.name ≡ Some s → is_low s ≡ true
        → root_at roots s ≡ o → is_some o ≡ true → is_in_set nodes levels o n ≡ names_class name (ancestry program d.name)
    one_above s None d at own low there known = absurd (false≢true known)
    one_above s (Some root) d at own low there known = (below.each s d root at own (ltb-true (rank ranks s) place low) there).each name n number

    super_above : (super : List ℕ) (o : Option ℕ) → class_number program super ≡ o → list_all has_set (to_list o) ≡ true → list_all is_low (to_list o) ≡ true
        → list_any is_above (to_list o) ≡ names_class name (ancestry program super)
    super_above super None there known low =
        sym (ap (names_class name) (missing program (length program) super (unnamed program super there)))
    super_above super (Some s) there known low =
        let d = named program super s there in
        let same : d.0.name ≡ super = name_is program super d.0 d.1 in
        let own = ap (class_number program) same ∙ there in
        or_false (is_above s)
        ∙ one_above s (root_at roots s) d.0 (named_at program super s there ∙ d.1) own (number_passes is_low (Some s) s refl low) refl (number_passes has_set (Some s) s refl known)
        ∙ ap (λ (x : List ℕ). names_class name (ancestry program x)) same

    supers_above : (names : List (List ℕ)) → list_all has_set (numbers_of program names) ≡ true → list_all is_low (numbers_of program names) ≡ true
        → list_any is_above (numbers_of program names) ≡ names_class name (flat_map (ancestry program) names)
    supers_above [] known low = refl
    supers_above (super ∷ names) known low =
        let known_parts = first_numbers program has_set super names known in
        let low_parts = first_numbers program is_low super names low in
        list_any-append is_above (to_list (class_number program super)) (numbers_of program names)
        ∙ (λ i. super_above super (class_number program super) refl known_parts.0 low_parts.0 i || supers_above names known_parts.1 low_parts.1 i)
        ∙ sym (list_any-append (λ (c : Class). same_text c.name name) (ancestry program super) (flat_map (ancestry program) names))

  -- The items have enough bits for all classes.
  bit_within : (n : ℕ) → length program / 32 + 1 ≤ 4 ^ levels → n < length program → n / 32 < 4 ^ levels
  bit_within n enough within = omega (arith, enough, within)

  -- The set of the class at a place.
  pub new_set : (place at : ℕ) (c : Class) (nodes : List (List ℕ)) (roots : List (Option ℕ)) (set : ℕ → Bool) → length program / 32 + 1 ≤ 4 ^ levels
      → AreSetsBelow place nodes roots → rank ranks at ≡ place → slice_get program at ≡ Some c → class_number program c.name ≡ Some at
      → are_known roots (super_numbers program c) ≡ true → IsUnionOf nodes levels roots at (super_numbers program c) set → IsAncestorSet program c set
  new_set place at c nodes roots set enough below placed there own known union = record {
    each = λ name n number.
        let is = sym (named_at program c.name at own) ∙ there in
        let low = subst (λ (r : ℕ). list_all (λ s. ltb (rank ranks s) r) (super_numbers program c) ≡ true) placed (lower program rows ranks order h at c there) in
        union.each n (bit_within n enough (number_within program name n number))
        ∙ (λ i. sym (same_class program name n number c at own) i || supers_above place nodes roots below name n number (supers_of c) known low i)
        ∙ sym (ap (names_class name) (unfolds program rows ranks order h c.name at c own is));
  }

  root_kept : (roots : List (Option ℕ)) (at m : ℕ) (o : Option ℕ) → (m ≡ at → ⊥) → m < length roots → root_at (set roots at o) m ≡ root_at roots m
  root_kept roots at m o other within =
      ap (λ (x : Option (Option ℕ)). option_and_then (λ s. s) x)
      (slice_get-get_or (set roots at o) m None (omega (arith, length-set roots at o, within)) ∙ ap (λ (x : Option ℕ). Some x) (get_or-set_other roots at m o None other) ∙ sym (slice_get-get_or roots m None within))

  root_put : (roots : List (Option ℕ)) (at : ℕ) (o : Option ℕ) → at < length roots → root_at (set roots at o) at ≡ o
  root_put roots at o within =
      ap (λ (x : Option (Option ℕ)). option_and_then (λ s. s) x)
      (slice_get-get_or (set roots at o) at None (omega (arith, length-set roots at o, within)) ∙ ap (λ (x : Option ℕ). Some x) (get_or-set_same roots at o None within))

  from_some : {A : Type 0} (o : Option A) (P : A → Type 0) (x : A) → o ≡ Some x → IfSome o P → P x
  from_some None P x e all = absurd (none-some x e)
  from_some (Some y) P x e all = subst P (same_Some y x e) all

  root_within : (roots : List (Option ℕ)) (m root : ℕ) → root_at roots m ≡ Some root → m < length roots
  root_within roots m root there = within_by (slice_get roots m) refl there
    where
      within_by : (o : Option (Option ℕ)) → slice_get roots m ≡ o → option_and_then (λ r. r) o ≡ Some root → m < length roots
      within_by None is there = absurd (none-some root there)
      within_by (Some x) is there = slice_get_within roots m x is

  -- A set stays what it is where there are more nodes.
  set_on : (old new more : List (List ℕ)) (c : Class) (root : ℕ) → new ≡ old ++ more → IsTree old levels root
      → IsAncestorSet program c (has_number old levels root) → IsAncestorSet program c (has_number new levels root)
  set_on old new more c root are tree is = record {
    each = λ name n number. ap (λ x. eqb (bit_at x (n % 32)) 1) (item_on old new more are levels root (n / 32) tree) ∙ is.each name n number;
  }

  -- One more class.
  pub one_set : (place at : ℕ) (c : Class) (nodes new more : List (List ℕ)) (old roots : List (Option ℕ)) (o : Option ℕ) → length program / 32 + 1 ≤ 4 ^ levels
      → get_or order place 0 ≡ at → rank ranks at ≡ place → slice_get program at ≡ Some c → new ≡ nodes ++ more
      → IfSome o (IsTree new levels)
      → IfSome o (λ root. IsUnionOf nodes levels old at (super_numbers program c) (has_number new levels root)) → IfSome o (λ root. are_known old (super_numbers program c) ≡ true) → roots ≡ set old at o
      → AreSetsBelow place nodes old → AreSetsBelow (place + 1) new roots
  one_set place at c nodes new more old roots o enough here placed there are tree union known put below =
      let within : at < length old = omega (arith, below.count_is, slice_get_within program at c there) in
      subst (AreSetsBelow (place + 1) new) (sym put)
      (record {
        count_is = length-set old at o ∙ below.count_is;
        trees = record {
          each = λ m root got.
              let m_within : m < length old = omega (arith, length-set old at o, root_within (set old at o) m root got) in
              ⊎_elim
              (λ (same : m ≡ at). from_some o (IsTree new levels) root (sym (root_put old at o within) ∙ ap (root_at (set old at o)) (sym same) ∙ got) tree)
              (λ (other : m ≡ at → ⊥). tree_on nodes new more are levels root (below.trees.each m root (sym (root_kept old at m o other m_within) ∙ got)))
              (cases_eq m at);
        };
        each = λ m d s is own low got.
            ⊎_elim
            (λ (same : m ≡ at).
            let class_is : c ≡ d = same_Some c d (sym there ∙ ap (slice_get program) (sym same) ∙ is) in
            let own_at : class_number program c.name ≡ Some at = ap (λ (e : Class). class_number program e.name) class_is ∙ own ∙ ap (λ (k : ℕ). Some k) same in
            let got_at : o ≡ Some s = sym (root_put old at o within) ∙ ap (root_at (set old at o)) (sym same) ∙ got in
            subst (λ (e : Class). IsAncestorSet program e (has_number new levels s)) class_is
            (new_set place at c nodes old (has_number new levels s) enough below placed there own_at
            (from_some o (λ _. are_known old (super_numbers program c) ≡ true) s got_at known)
            (from_some o (λ root. IsUnionOf nodes levels old at (super_numbers program c) (has_number new levels root)) s got_at union)))
            (λ (other : m ≡ at → ⊥).
            let m_within : m < length old = omega (arith, below.count_is, slice_get_within program m d is) in
            let apart : rank ranks m ≡ place → ⊥ = (λ e. other (sym (at_its_place program rows ranks order h m (slice_get_within program m d is)) ∙ ap (λ k. get_or order k 0) e ∙ here)) in
            let got_old = sym (root_kept old at m o other m_within) ∙ got in
            set_on nodes new more d s are (below.trees.each m s got_old) (below.each m d s is own (lower_than (rank ranks m) place low apart) got_old))
            (cases_eq m at);
      })

  pub all_sets : (place : ℕ) (sets : AncestorSets) → levels ≡ sets.arrays.levels → length order ≤ place → AreSetsBelow place sets.arrays.nodes.items sets.roots.items → AreAncestorSets program sets
  all_sets place sets same past below = record {
    each = λ m c root at own got.
        subst (λ l. IsAncestorSet program c (has_number sets.arrays.nodes.items l root)) same
        (below.each m c root at own (omega (arith, past, rank_within program rows ranks order h m (slice_get_within program m c at))) got);
  }
