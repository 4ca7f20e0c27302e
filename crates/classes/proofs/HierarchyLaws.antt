-- The ancestry of a class, where each class has a higher rank than its superclass and its superinterfaces.
use Rattle.std.proofs.Common.{◌≡◌, ℕ, zero, suc, ◌<◌, ◌≤◌, Bool, true, ◌&&◌, ltb, List, [], ◌∷◌, ◌++◌, length, get_or, Option, Some, None, refl, sym, ap, subst, ◌∙◌, arith}
use Rattle.std.specs.Prelude.{slice_get}
use Rattle.std.specs.List.{flat_map, list_all, position_or_len}
use Rattle.std.proofs.lemmas.Bool.{and_parts, ltb-true}
use Rattle.std.proofs.lemmas.List.{append-nil, get_or-map, length-map}
use Rattle.std.proofs.lemmas.List.Concat.{flat_map-append}
use Rattle.std.proofs.lemmas.List.Folds.{list_all-append}
use Rattle.std.proofs.lemmas.Option.{cond_some, slice_get_within, get_or_from_slice_get}
use Rattle.jvms_program.specs.declared.program.Class.{Class}
use Rattle.jvms_program.specs.declared.program.ClassKind.{ClassKind}
use Rattle.jvms_program.specs.declared.program.Field.{Field}
use Rattle.jvms_program.specs.declared.program.Method.{Method}
use Rattle.jvms_file.specs.Names.{same_text}
use Rattle.jvms_program.specs.Program.{class_named, class_number}
use Rattle.jvms_program.specs.Resolution.{ancestry, ancestry_within, supers_of}
use Rattle.classes.specs.Hierarchy.{IsHierarchyOf, numbers_of, rank, super_numbers, to_list}
use Rattle.classes.proofs.PlaceLaws.{named_at, position_none, unnamed}

-- ---- Tests of lists

pub weaker : (p q : ℕ → Bool) → ((n : ℕ) → p n ≡ true → q n ≡ true) → (ns : List ℕ) → list_all p ns ≡ true → list_all q ns ≡ true
weaker p q change [] all = refl
weaker p q change (n ∷ ns) all =
    let parts = and_parts (p n) (list_all p ns) all in
    let here = change n parts.0 in
    (λ i. here i && weaker p q change ns parts.1 i)

pub all_both : (p q : ℕ → Bool) (ns : List ℕ) → list_all p ns ≡ true → list_all q ns ≡ true → list_all (λ n. p n && q n) ns ≡ true
all_both p q [] a b = refl
all_both p q (n ∷ ns) a b =
    let ps = and_parts (p n) (list_all p ns) a in
    let qs = and_parts (q n) (list_all q ns) b in
    (λ i. (ps.0 i && qs.0 i) && all_both p q ns ps.1 qs.1 i)

second : (a b : Bool) → (a && b) ≡ true → b ≡ true
second a b both = (and_parts a b both).1

-- A property of the numbers of names holds for the first and for the others.
pub first_numbers : (program : List Class) (p : ℕ → Bool) (name : List ℕ) (names : List (List ℕ)) → list_all p (numbers_of program (name ∷ names)) ≡ true
    → (list_all p (to_list (class_number program name)) ≡ true) × (list_all p (numbers_of program names) ≡ true)
first_numbers program p name names all =
    and_parts (list_all p (to_list (class_number program name))) (list_all p (numbers_of program names))
    (sym (list_all-append p (to_list (class_number program name)) (numbers_of program names)) ∙ all)

pub number_passes : (p : ℕ → Bool) (o : Option ℕ) (n : ℕ) → o ≡ Some n → list_all p (to_list o) ≡ true → p n ≡ true
number_passes p o n is all = (and_parts (p n) true (ap (λ x. list_all p (to_list x)) (sym is) ∙ all)).0

-- ---- One step up

module _ (program : List Class) where
  pub missing : (most : ℕ) (name : List ℕ) → class_named program name ≡ None → ancestry_within most program name ≡ []
  unfolding ancestry_within
  missing zero name h = refl
  missing (suc most) name h = rw h refl

  abbrev class_of : List ℕ → ClassKind → Option (List ℕ) → List (List ℕ) → List Field → List Method → Class
  class_of own kind superclass interfaces fields methods =
      record { name = own; kind = kind; superclass = superclass; interfaces = interfaces; fields = fields; methods = methods }

  step_by : (most : ℕ) (name own : List ℕ) (kind : ClassKind) (superclass : Option (List ℕ)) (interfaces : List (List ℕ)) (fields : List Field) (methods : List Method)
      → class_named program name ≡ Some (class_of own kind superclass interfaces fields methods)
      → ancestry_within (suc most) program name
      ≡ class_of own kind superclass interfaces fields methods ∷ flat_map (ancestry_within most program) (supers_of (class_of own kind superclass interfaces fields methods))
  unfolding ancestry_within
  step_by most name own kind None interfaces fields methods h =
      rw h
      (ap (λ (cs : List Class). class_of own kind None interfaces fields methods ∷ cs) (sym (flat_map-append (ancestry_within most program) interfaces [])))
  step_by most name own kind (Some super) interfaces fields methods h =
      rw h
      (ap (λ (cs : List Class). class_of own kind (Some super) interfaces fields methods ∷ cs)
      (ap (λ (cs : List Class). flat_map (ancestry_within most program) interfaces ++ cs) (sym (append-nil (ancestry_within most program super)))
      ∙ sym (flat_map-append (ancestry_within most program) interfaces (super ∷ []))))

  -- An ancestry is the class, followed by the ancestries of its superinterfaces and of its superclass.
  pub step : (most : ℕ) (name : List ℕ) (c : Class) → class_named program name ≡ Some c
      → ancestry_within (suc most) program name ≡ c ∷ flat_map (ancestry_within most program) (supers_of c)
  step most name c h = step_by most name c.name c.kind c.superclass c.interfaces c.fields c.methods h

  named_by : (name : List ℕ) (n : ℕ) (o : Option Class) → class_named program name ≡ o → class_number program name ≡ Some n → (c : Class) × (class_named program name ≡ Some c)
  named_by name n None h number = let none : class_number program name ≡ None = position_none (λ (d : Class). same_text d.name name) program h in absurd cc
  named_by name n (Some c) h number = (c, h)

  pub named : (name : List ℕ) (n : ℕ) → class_number program name ≡ Some n → (c : Class) × (class_named program name ≡ Some c)
  named name n number = named_by name n (class_named program name) refl number

  pub number_within : (name : List ℕ) (n : ℕ) → class_number program name ≡ Some n → n < length program
  number_within name n number =
      let place = position_or_len (λ (d : Class). same_text d.name name) program in
      let parts = cond_some (ltb place (length program)) place n number in
      subst (λ k. k < length program) parts.1 (ltb-true place (length program) parts.0)

module _ (program : List Class) (rows : List (List ℕ)) (ranks order : List ℕ) (h : IsHierarchyOf program rows ranks order) where
  pub count : length rows ≡ length program
  count = ap length h.rows_are ∙ length-map program (super_numbers program)

  pub row : (m : ℕ) (c : Class) → slice_get program m ≡ Some c → get_or rows m [] ≡ super_numbers program c
  row m c at =
      ap (λ (rs : List (List ℕ)). get_or rs m []) h.rows_are
      ∙ get_or-map (super_numbers program) program m c [] (slice_get_within program m c at) ∙ ap (super_numbers program) (get_or_from_slice_get program m c c at)

  -- The superclass and superinterfaces of a class are there, and have lower ranks.
  pub before : (m : ℕ) (c : Class) → slice_get program m ≡ Some c
      → list_all (λ n. ltb n (length program) && ltb (rank ranks n) (rank ranks m)) (super_numbers program c) ≡ true
  before m c at =
      let within : m < length program = slice_get_within program m c at in
      subst (λ (ns : List ℕ). list_all (λ n. ltb n (length program) && ltb (rank ranks n) (rank ranks m)) ns ≡ true) (row m c at)
      (subst (λ k. list_all (λ n. ltb n k && ltb (rank ranks n) (rank ranks m)) (get_or rows m []) ≡ true) count (h.placed.rises m (omega (arith, count))))

  pub lower : (m : ℕ) (c : Class) → slice_get program m ≡ Some c → list_all (λ n. ltb (rank ranks n) (rank ranks m)) (super_numbers program c) ≡ true
  lower m c at =
      weaker (λ n. ltb n (length program) && ltb (rank ranks n) (rank ranks m)) (λ n. ltb (rank ranks n) (rank ranks m))
      (λ n both. second (ltb n (length program)) (ltb (rank ranks n) (rank ranks m)) both) (super_numbers program c) (before m c at)

  pub rank_within : (m : ℕ) → m < length program → rank ranks m < length order
  rank_within m within = (h.placed.placed m (omega (arith, count))).0

  -- A class is the one at its place.
  pub at_its_place : (m : ℕ) → m < length program → get_or order (rank ranks m) 0 ≡ m
  at_its_place m within = (h.placed.placed m (omega (arith, count))).1

  pub few : length order ≤ length program
  few = omega (arith, count, h.found.few)

  -- ---- Two depths above the rank give the same search

  abbrev come_before : ℕ → ℕ → Bool
  come_before r n = ltb (rank ranks n) r

  deep_one : (k j r : ℕ) → ((name : List ℕ) (m : ℕ) → class_number program name ≡ Some m → rank ranks m < k → rank ranks m < j → ancestry_within k program name ≡ ancestry_within j program name)
      → (name : List ℕ) (o : Option ℕ) → class_number program name ≡ o → list_all (come_before r) (to_list o) ≡ true → r ≤ k → r ≤ j
      → ancestry_within k program name ≡ ancestry_within j program name
  deep_one k j r same name None number all a b =
      let none = unnamed program name number in missing program k name none ∙ sym (missing program j name none)
  deep_one k j r same name (Some m) number all a b =
      let low : rank ranks m < r = ltb-true (rank ranks m) r (number_passes (come_before r) (Some m) m refl all) in
      same name m number (omega arith) (omega arith)

  deep_names : (k j r : ℕ) → ((name : List ℕ) (m : ℕ) → class_number program name ≡ Some m → rank ranks m < k → rank ranks m < j → ancestry_within k program name ≡ ancestry_within j program name)
      → (names : List (List ℕ)) → list_all (come_before r) (numbers_of program names) ≡ true → r ≤ k → r ≤ j
      → flat_map (ancestry_within k program) names ≡ flat_map (ancestry_within j program) names
  deep_names k j r same [] all a b = refl
  deep_names k j r same (name ∷ names) all a b =
      let parts = first_numbers program (come_before r) name names all in
      let here = deep_one k j r same name (class_number program name) refl parts.0 a b in
      let there = deep_names k j r same names parts.1 a b in
      (λ i. here i ++ there i)

  pub deep : (k j : ℕ) (name : List ℕ) (m : ℕ) → class_number program name ≡ Some m → rank ranks m < k → rank ranks m < j
      → ancestry_within k program name ≡ ancestry_within j program name
  deep zero j name m number a b = absurd (omega arith)
  deep (suc k) zero name m number a b = absurd (omega arith)
  deep (suc k) (suc j) name m number a b =
      let c = named program name m number in
      step program k name c.0 c.1
      ∙ ap (λ (cs : List Class). c.0 ∷ cs)
      (deep_names k j (rank ranks m) (deep k j) (supers_of c.0) (lower m c.0 (named_at program name m number ∙ c.1)) (omega arith) (omega arith))
      ∙ sym (step program j name c.0 c.1)

  unfolds_by : (k : ℕ) → length program ≡ k → (name : List ℕ) (m : ℕ) (c : Class) → class_number program name ≡ Some m → class_named program name ≡ Some c → rank ranks m < k
      → ancestry program name ≡ c ∷ flat_map (ancestry program) (supers_of c)
  unfolds_by zero e name m c number is low = absurd (omega arith)
  unfolds_by (suc k) e name m c number is low =
      ap (λ n. ancestry_within n program name) e ∙ step program k name c is
      ∙ ap (λ (cs : List Class). c ∷ cs)
      (deep_names k (length program) (rank ranks m) (deep k (length program)) (supers_of c) (lower m c (named_at program name m number ∙ is)) (omega arith) (omega arith))

  -- The ancestry of a class is itself, followed by the ancestries of its superinterfaces and of its superclass.
  pub unfolds : (name : List ℕ) (m : ℕ) (c : Class) → class_number program name ≡ Some m → class_named program name ≡ Some c
      → ancestry program name ≡ c ∷ flat_map (ancestry program) (supers_of c)
  unfolds name m c number is =
      let low : rank ranks m < length order = rank_within m (number_within program name m number) in
      unfolds_by (length program) refl name m c number is (omega (arith, few))
