-- The first slots of a class's fields.
use Rattle.std.proofs.Common.{◌≡◌, ℕ, zero, suc, ◌+◌, ◌-◌, ◌<◌, ◌≤◌, ◌^◌, ◌⊎◌, inl, inr, min, Bool, true, false, cond, ltb, List, [], ◌∷◌, ◌++◌, length, get_or, set, take, drop, Option, Some, None, refl, sym, ap, subst, ◌∙◌, ⊎_elim, arith}
use Rattle.std.specs.Prelude.{IfSome, slice_get, unwrap_or}
use Rattle.std.specs.Option.{option_or}
use Rattle.std.specs.List.{AllByRecursion, filter, fold, position_from}
use Rattle.std.specs.Cmp.Lexicographic.{same_text as texts_are_same}
use Rattle.std.proofs.lemmas.Bool.{cases_eq, ltb-true}
use Rattle.std.proofs.lemmas.Iterator.Adapters.{position_from-zero}
use Rattle.std.proofs.lemmas.List.{drop_more, get_or-set_other, get_or-set_same, length-set, take-append-drop, take_more}
use Rattle.std.proofs.lemmas.List.Sums.{count_by-le-length}
use Rattle.std.proofs.lemmas.Option.{get_or_from_slice_get, none-some, same_Some, slice_get-get_or, slice_get_within}
use Rattle.jvms_file.specs.Names.{same_text}
use Rattle.jvms_program.specs.declared.key.FieldKey.{FieldKey}
use Rattle.jvms_program.specs.declared.program.Class.{Class}
use Rattle.jvms_program.specs.Program.{class_named, class_number}
use Rattle.jvms_program.specs.Resolution.{chain, chain_within}
use Rattle.jvms_program.specs.Slots.{slot_of, static_slot_of}
use Rattle.classes.specs.declared.slot_starts.FieldStarts.{FieldStarts}
use Rattle.classes.specs.Hierarchy.{IsHierarchyOf, chain_up, rank}
use Rattle.classes.specs.Places.{class_place}
use Rattle.classes.specs.Slots.{AreCountable, AreSlotsFrom, AreStarts, AreStartsOf, AreTotals, count_of, count_of_all, is_static_or_not, place_among, slot_under, total_above, total_or_zero}
use Rattle.classes.proofs.HierarchyLaws.{at_its_place, few, lower, named, number_passes, rank_within}
use Rattle.classes.proofs.NamesLaws.{of_superclass}
use Rattle.classes.proofs.PlaceLaws.{class_there, name_is, named_at, named_is, number_is, unnamed}
use Rattle.classes.proofs.SlotLaws.{chain_fits, fields_of, in_another_class, program_fits, slot_further, slot_here, slot_in, slot_is_fold}

-- ---- Chains

module _ (program : List Class) where
  pub up_nowhere : (most : ℕ) (name : List ℕ) → class_named program name ≡ None → chain_within most program name ≡ []
  unfolding chain_within
  up_nowhere zero name h = refl
  up_nowhere (suc most) name h = rw h refl

  pub up_top : (most : ℕ) (name : List ℕ) (c : Class) → class_named program name ≡ Some c → c.superclass ≡ None → chain_within (suc most) program name ≡ c ∷ []
  unfolding chain_within
  up_top most name c h s = rw h (rw s refl)

  pub up_next : (most : ℕ) (name super : List ℕ) (c : Class) → class_named program name ≡ Some c → c.superclass ≡ Some super
      → chain_within (suc most) program name ≡ c ∷ chain_within most program super
  unfolding chain_within
  up_next most name super c h s = rw h (rw s refl)

  none_yet : (P : Class → Type 0) (name : List ℕ) → AllByRecursion P (chain_within zero program name)
  unfolding chain_within
  none_yet P name = tt

module _ (program : List Class) (rows : List (List ℕ)) (ranks order : List ℕ) (h : IsHierarchyOf program rows ranks order) where
  -- A class has a rank below this one.
  abbrev pub IsLow : ℕ → Class → Type 0
  IsLow r d = (n : ℕ) → class_number program d.name ≡ Some n → rank ranks n < r

  pub super_low : (m : ℕ) (c : Class) (super : List ℕ) (n : ℕ) → slice_get program m ≡ Some c → c.superclass ≡ Some super → class_number program super ≡ Some n → rank ranks n < rank ranks m
  super_low m c super n at is number =
      let passes = of_superclass program (λ k. ltb (rank ranks k) (rank ranks m)) c super (lower program rows ranks order h m c at) is in
      ltb-true (rank ranks n) (rank ranks m) (number_passes (λ k. ltb (rank ranks k) (rank ranks m)) (class_number program super) n number passes)

  low_above : (most r m : ℕ) (name : List ℕ) (c : Class) (s : Option (List ℕ)) → class_named program name ≡ Some c → class_number program name ≡ Some m → slice_get program m ≡ Some c → c.superclass ≡ s → rank ranks m < r
      → ((super : List ℕ) → ((n : ℕ) → class_number program super ≡ Some n → rank ranks n < r) → AllByRecursion (IsLow r) (chain_within most program super))
      → AllByRecursion (IsLow r) (chain_within (suc most) program name)
  low_above most r m name c None is number at none low more =
      subst (AllByRecursion (IsLow r)) (sym (up_top program most name c is none))
      ((λ n there. let same : m ≡ n = same_Some m n (sym number ∙ ap (class_number program) (sym (name_is program name c is)) ∙ there) in omega (arith, ap (rank ranks) same)), tt)
  low_above most r m name c (Some super) is number at some low more =
      subst (AllByRecursion (IsLow r)) (sym (up_next program most name super c is some)) (
        (λ n there. let same : m ≡ n = same_Some m n (sym number ∙ ap (class_number program) (sym (name_is program name c is)) ∙ there) in omega (arith, ap (rank ranks) same)),
        more super (λ n there. let lt = super_low m c super n at some there in omega arith),
      )

  low_by : (most r : ℕ) (name : List ℕ) (o : Option Class) → class_named program name ≡ o → ((n : ℕ) → class_number program name ≡ Some n → rank ranks n < r)
      → ((super : List ℕ) → ((n : ℕ) → class_number program super ≡ Some n → rank ranks n < r) → AllByRecursion (IsLow r) (chain_within most program super))
      → AllByRecursion (IsLow r) (chain_within (suc most) program name)
  low_by most r name None is low more = subst (AllByRecursion (IsLow r)) (sym (up_nowhere program (suc most) name is)) tt
  low_by most r name (Some c) is low more =
      let number : class_number program name ≡ Some (class_place program c) = ap (class_number program) (sym (name_is program name c is)) ∙ number_is program c (named_is program name c is) in
      low_above most r (class_place program c) name c c.superclass is number (class_there program c (named_is program name c is)) refl (low (class_place program c) number) more

  -- The classes of a chain have no higher ranks than the first.
  pub low_chain : (most r : ℕ) (name : List ℕ) → ((n : ℕ) → class_number program name ≡ Some n → rank ranks n < r) → AllByRecursion (IsLow r) (chain_within most program name)
  low_chain zero r name low = none_yet program (IsLow r) name
  low_chain (suc most) r name low = low_by most r name (class_named program name) refl low (low_chain most r)

  deep_super : (k j r : ℕ) → ((name : List ℕ) (m : ℕ) → class_number program name ≡ Some m → rank ranks m < k → rank ranks m < j → chain_within k program name ≡ chain_within j program name)
      → (super : List ℕ) (o : Option ℕ) → class_number program super ≡ o → ((n : ℕ) → class_number program super ≡ Some n → rank ranks n < r) → r ≤ k → r ≤ j
      → chain_within k program super ≡ chain_within j program super
  deep_super k j r same super None is low a b =
      let none = unnamed program super is in up_nowhere program k super none ∙ sym (up_nowhere program j super none)
  deep_super k j r same super (Some n) is low a b =
      let lt = low n is in same super n is (omega arith) (omega arith)

  deep_by : (k j m : ℕ) → ((name : List ℕ) (m : ℕ) → class_number program name ≡ Some m → rank ranks m < k → rank ranks m < j → chain_within k program name ≡ chain_within j program name)
      → (name : List ℕ) (c : Class) (s : Option (List ℕ)) → class_named program name ≡ Some c → slice_get program m ≡ Some c → c.superclass ≡ s → rank ranks m ≤ k → rank ranks m ≤ j
      → chain_within (suc k) program name ≡ chain_within (suc j) program name
  deep_by k j m same name c None is at none a b = up_top program k name c is none ∙ sym (up_top program j name c is none)
  deep_by k j m same name c (Some super) is at some a b =
      up_next program k name super c is some
      ∙ ap (λ (cs : List Class). c ∷ cs) (deep_super k j (rank ranks m) same super (class_number program super) refl (λ n there. super_low m c super n at some there) a b)
      ∙ sym (up_next program j name super c is some)

  -- Two depths above the rank give the same chain.
  pub deep_chain : (k j : ℕ) (name : List ℕ) (m : ℕ) → class_number program name ≡ Some m → rank ranks m < k → rank ranks m < j
      → chain_within k program name ≡ chain_within j program name
  deep_chain zero j name m number a b = absurd (omega arith)
  deep_chain (suc k) zero name m number a b = absurd (omega arith)
  deep_chain (suc k) (suc j) name m number a b =
      let c = named program name m number in
      deep_by k j m (deep_chain k j) name c.0 c.0.superclass c.1 (named_at program name m number ∙ c.1) refl (omega arith) (omega arith)

  chain_by : (k : ℕ) → length program ≡ k → (m : ℕ) (c : Class) (s : Option (List ℕ)) → class_named program c.name ≡ Some c → slice_get program m ≡ Some c → c.superclass ≡ s → rank ranks m < k
      → chain program c.name ≡ c ∷ chain_up program s
  chain_by zero e m c s is at super low = absurd (omega arith)
  chain_by (suc k) e m c None is at none low = ap (λ n. chain_within n program c.name) e ∙ up_top program k c.name c is none
  chain_by (suc k) e m c (Some super) is at some low =
      ap (λ n. chain_within n program c.name) e ∙ up_next program k c.name super c is some
      ∙ ap (λ (cs : List Class). c ∷ cs)
      (deep_super k (length program) (rank ranks m) (deep_chain k (length program)) super (class_number program super) refl (λ n there. super_low m c super n at some there) (omega arith) (omega arith))

  pub named_so : (m : ℕ) (c : Class) → slice_get program m ≡ Some c → class_number program c.name ≡ Some m → class_named program c.name ≡ Some c
  named_so m c at number = sym (named_at program c.name m number) ∙ at

  -- The chain of a class is the class, followed by the chain of its superclass.
  pub chain_is : (m : ℕ) (c : Class) → slice_get program m ≡ Some c → class_number program c.name ≡ Some m → chain program c.name ≡ c ∷ chain_up program c.superclass
  chain_is m c at number =
      let low : rank ranks m < length order = rank_within program rows ranks order h m (slice_get_within program m c at) in
      chain_by (length program) refl m c c.superclass (named_so m c at number) at refl (omega (arith, low, few program rows ranks order h))

  low_up : (m : ℕ) (c : Class) (s : Option (List ℕ)) → slice_get program m ≡ Some c → c.superclass ≡ s → AllByRecursion (IsLow (rank ranks m)) (chain_up program s)
  low_up m c None at super = tt
  low_up m c (Some super) at is = low_chain (length program) (rank ranks m) super (λ n there. super_low m c super n at is there)

  -- The classes above a class have lower ranks.
  pub above_low : (m : ℕ) (c : Class) → slice_get program m ≡ Some c → AllByRecursion (IsLow (rank ranks m)) (chain_up program c.superclass)
  above_low m c at = low_up m c c.superclass at refl

-- ---- Classes that have no field of a key

-- A key whose place is among a class's fields has the class's name.
own_by : (static : Bool) (c : Class) (key : FieldKey) (place : ℕ) (b : Bool) → same_text c.name key.class ≡ b → place_among static key c ≡ Some place → b ≡ true
own_by static c key place true e there = refl
own_by static c key place false e there = absurd (none-some place (in_another_class c key 0 (filter (is_static_or_not static) c.fields) e ∙ there))

pub own_name : (static : Bool) (c : Class) (key : FieldKey) (place : ℕ) → place_among static key c ≡ Some place → c.name ≡ key.class
own_name static c key place there = texts_are_same c.name key.class (sym (own_by static c key place (same_text c.name key.class) refl there))

abbrev pub HasNone : Bool → FieldKey → Class → Type 0
HasNone static key d = None ≡ place_among static key d

none_in_another : (static : Bool) (key : FieldKey) (d : Class) → same_text d.name key.class ≡ false → HasNone static key d
none_in_another static key d other = in_another_class d key 0 (filter (is_static_or_not static) d.fields) other

pub none_in_others : (static : Bool) (key : FieldKey) (name : List ℕ) (ds : List Class) → name ≡ key.class → AllByRecursion (λ (d : Class). same_text d.name name ≡ false) ds → AllByRecursion (HasNone static key) ds
none_in_others static key name [] same all = tt
none_in_others static key name (d ∷ ds) same all =
    (none_in_another static key d (ap (same_text d.name) (sym same) ∙ all.0), none_in_others static key name ds same all.1)

-- ---- Counts

counts_within : (static : Bool) (cs : List Class) → count_of_all static cs ≤ fields_of cs
counts_within static [] = omega arith
counts_within static (c ∷ cs) =
    let here = count_by-le-length (is_static_or_not static) c.fields in let more = counts_within static cs in omega arith

fields_together : (cs ds : List Class) → fields_of (cs ++ ds) ≡ fields_of cs + fields_of ds
fields_together [] ds = omega arith
fields_together (c ∷ cs) ds = let more = fields_together cs ds in omega arith

counts_together : (static : Bool) (cs ds : List Class) → count_of_all static (cs ++ ds) ≡ count_of_all static cs + count_of_all static ds
counts_together static [] ds = omega arith
counts_together static (c ∷ cs) ds = let more = counts_together static cs ds in omega arith

-- ---- Instance fields

fold_past : (key : FieldKey) (n : ℕ) (ds : List Class) → AllByRecursion (HasNone false key) ds → fold (slot_under key) (Some n) ds ≡ Some (n + count_of_all false ds)
fold_past key n [] all = let same : n ≡ n + 0 = omega arith in ap (λ (m : ℕ). Some m) same
fold_past key n (d ∷ ds) all =
    let same : n + count_of false d + count_of_all false ds ≡ n + (count_of false d + count_of_all false ds) = omega arith in
    ap (λ o. fold (slot_under key) (option_or o (Some (n + count_of false d))) ds) (sym all.0)
    ∙ fold_past key (n + count_of false d) ds all.1
    ∙ ap (λ (m : ℕ). Some m) same

module _ (program : List Class) (rows : List (List ℕ)) (ranks order : List ℕ) (h : IsHierarchyOf program rows ranks order) where
  other_by : (m : ℕ) (c d : Class) (b : Bool) → class_number program c.name ≡ Some m → IsLow program rows ranks order h (rank ranks m) d → same_text d.name c.name ≡ b → b ≡ false
  other_by m c d false number low e = refl
  other_by m c d true number low e =
      let same : d.name ≡ c.name = texts_are_same d.name c.name (sym e) in
      let less = low m (ap (class_number program) same ∙ number) in
      absurd (omega arith)

  others : (m : ℕ) (c : Class) (ds : List Class) → class_number program c.name ≡ Some m → AllByRecursion (IsLow program rows ranks order h (rank ranks m)) ds
      → AllByRecursion (λ (d : Class). same_text d.name c.name ≡ false) ds
  others m c [] number all = tt
  others m c (d ∷ ds) number all = (other_by m c d (same_text d.name c.name) number all.0 refl, others m c ds number all.1)

  pub instance_slot : (m : ℕ) (c : Class) → slice_get program m ≡ Some c → class_number program c.name ≡ Some m → (key : FieldKey) (place : ℕ) → place_among false key c ≡ Some place
      → slot_of program c.name key ≡ Some (count_of_all false (chain_up program c.superclass) + place)
  instance_slot m c at number key place there =
      let up = chain_up program c.superclass in
      let same : place + count_of_all false up ≡ count_of_all false up + place = omega arith in
      sym (slot_is_fold program c.name key)
      ∙ ap (fold (slot_under key) None) (chain_is program rows ranks order h m c at number)
      ∙ ap (λ o. fold (slot_under key) (option_or o None) up) there
      ∙ fold_past key place up (none_in_others false key c.name up (own_name false c key place there) (others m c up number (above_low program rows ranks order h m c at)))
      ∙ ap (λ (n : ℕ). Some n) same

  -- A class's total is that of its superclass and the number of its own fields.
  pub total_is : (m : ℕ) (c : Class) → slice_get program m ≡ Some c → class_number program c.name ≡ Some m
      → count_of_all false (chain program c.name) ≡ count_of false c + count_of_all false (chain_up program c.superclass)
  total_is m c at number = ap (count_of_all false) (chain_is program rows ranks order h m c at number)

  total_fits : AreCountable program → (m : ℕ) (c : Class) → slice_get program m ≡ Some c → class_number program c.name ≡ Some m
      → count_of_all false (chain_up program c.superclass) + length c.fields < 2 ^ 64
  total_fits countable m c at number =
      let fits = chain_fits program c.name countable in
      let whole : fields_of (chain program c.name) ≡ length c.fields + fields_of (chain_up program c.superclass) = ap fields_of (chain_is program rows ranks order h m c at number) in
      let within = counts_within false (chain_up program c.superclass) in
      omega arith

  pub instances_from : AreCountable program → (m : ℕ) (c : Class) (total start : ℕ) → slice_get program m ≡ Some c → class_number program c.name ≡ Some m
      → total ≡ count_of_all false (chain program c.name) → start ≡ total - count_of false c → AreSlotsFrom false c (slot_of program c.name) start
  instances_from countable m c total start at number whole is =
      let sum = total_is m c at number in
      let same : start ≡ count_of_all false (chain_up program c.superclass) = omega arith in
      let fits = total_fits countable m c at number in
      record {
        each = λ key place there. instance_slot m c at number key place there ∙ ap (λ (n : ℕ). Some (n + place)) (sym same);
        fit = omega arith;
      }

  -- ---- Totals, class by class

  -- The totals of classes of lower ranks are known.
  pub record AreTotalsBelow (place : ℕ) (totals : List ℕ) : Type 0 where
    pub count_is : length totals ≡ length program
    pub each : (n : ℕ) (c : Class) → slice_get program n ≡ Some c → class_number program c.name ≡ Some n → rank ranks n < place
        → slice_get totals n ≡ Some (count_of_all false (chain program c.name))

  pub no_totals : (totals : List ℕ) → length totals ≡ length program → AreTotalsBelow 0 totals
  no_totals totals count = record { count_is = count; each = λ n c at number low. absurd (omega arith) }

  above_number : (place m : ℕ) (c : Class) (totals : List ℕ) (super : List ℕ) (o : Option ℕ) → slice_get program m ≡ Some c → rank ranks m ≡ place → AreTotalsBelow place totals
      → c.superclass ≡ Some super → class_number program super ≡ o → total_or_zero totals (class_number program super) ≡ count_of_all false (chain program super)
  above_number place m c totals super None at placed below some number =
      ap (total_or_zero totals) number ∙ sym (ap (count_of_all false) (up_nowhere program (length program) super (unnamed program super number)))
  above_number place m c totals super (Some p) at placed below some number =
      let d = named program super p number in
      let name : d.0.name ≡ super = name_is program super d.0 d.1 in
      let less = super_low program rows ranks order h m c super p at some number in
      ap (total_or_zero totals) number
      ∙ ap (λ o. unwrap_or o 0) (below.each p d.0 (named_at program super p number ∙ d.1) (ap (class_number program) name ∙ number) (omega arith))
      ∙ ap (λ n. count_of_all false (chain program n)) name

  above_by : (place m : ℕ) (c : Class) (totals : List ℕ) (s : Option (List ℕ)) → slice_get program m ≡ Some c → rank ranks m ≡ place → AreTotalsBelow place totals
      → c.superclass ≡ s → total_above program totals s ≡ count_of_all false (chain_up program s)
  above_by place m c totals None at placed below super = refl
  above_by place m c totals (Some super) at placed below some = above_number place m c totals super (class_number program super) at placed below some refl

  -- The total of the superclass of the class at a place is known.
  pub above_is : (place m : ℕ) (c : Class) (totals : List ℕ) → slice_get program m ≡ Some c → rank ranks m ≡ place → AreTotalsBelow place totals
      → total_above program totals c.superclass ≡ count_of_all false (chain_up program c.superclass)
  above_is place m c totals at placed below = above_by place m c totals c.superclass at placed below refl

  now_known : (place at total : ℕ) (c : Class) (old : List ℕ) → AreCountable program → rank ranks at ≡ place → slice_get program at ≡ Some c → class_number program c.name ≡ Some at
      → total ≡ min (total_above program old c.superclass + count_of false c) (2 ^ 64 - 1) → AreTotalsBelow place old → slice_get (set old at total) at ≡ Some (count_of_all false (chain program c.name))
  now_known place at total c old countable placed there number sum below =
      let count = below.count_is in
      let within : at < length old = (let inside = slice_get_within program at c there in omega arith) in
      let fits = total_fits countable at c there number in
      let above = above_is place at c old there placed below in
      let whole = total_is at c there number in
      let own = count_by-le-length (is_static_or_not false) c.fields in
      let same : total ≡ count_of_all false (chain program c.name) = omega arith in
      slice_get-get_or (set old at total) at 0 (omega (arith, length-set old at total, within)) ∙ ap (λ (n : ℕ). Some n) (get_or-set_same old at total 0 within ∙ same)

  still_known : (at total n : ℕ) (old : List ℕ) (x : ℕ) → (n ≡ at → ⊥) → slice_get old n ≡ Some x → slice_get (set old at total) n ≡ Some x
  still_known at total n old x other was =
      let within = slice_get_within old n x was in
      slice_get-get_or (set old at total) n 0 (omega (arith, length-set old at total, within))
      ∙ ap (λ (k : ℕ). Some k) (get_or-set_other old at n total 0 other ∙ get_or_from_slice_get old n x 0 was)

  -- One more class.
  pub one_total : AreCountable program → (place at total : ℕ) (c : Class) (old new : List ℕ) → get_or order place 0 ≡ at → rank ranks at ≡ place → slice_get program at ≡ Some c
      → total ≡ min (total_above program old c.superclass + count_of false c) (2 ^ 64 - 1) → new ≡ set old at total → AreTotalsBelow place old → AreTotalsBelow (place + 1) new
  one_total countable place at total c old new here placed there sum put below =
      subst (AreTotalsBelow (place + 1)) (sym put)
      (record {
        count_is = length-set old at total ∙ below.count_is;
        each = λ n d is number low.
            ⊎_elim
            (λ (same : rank ranks n ≡ place).
            let it : n ≡ at = sym (at_its_place program rows ranks order h n (slice_get_within program n d is)) ∙ ap (λ k. get_or order k 0) same ∙ here in
            let class_is : c ≡ d = same_Some c d (sym there ∙ ap (slice_get program) (sym it) ∙ is) in
            let own : class_number program c.name ≡ Some at = ap (λ (e : Class). class_number program e.name) class_is ∙ number ∙ ap (λ (k : ℕ). Some k) it in
            ap (slice_get (set old at total)) it ∙ now_known place at total c old countable placed there own sum below ∙ ap (λ (e : Class). Some (count_of_all false (chain program e.name))) class_is)
            (λ (other : rank ranks n ≡ place → ⊥).
            still_known at total n old (count_of_all false (chain program d.name)) (λ it. other (ap (rank ranks) it ∙ placed)) (below.each n d is number (omega arith)))
            (cases_eq (rank ranks n) place);
      })

  pub all_totals : AreCountable program → (place : ℕ) (totals : List ℕ) → length order ≤ place → AreTotalsBelow place totals → AreTotals program totals
  all_totals countable place totals past below = record {
    each = λ n c total at number got.
        let low : rank ranks n < length order = rank_within program rows ranks order h n (slice_get_within program n c at) in
        let whole : total ≡ count_of_all false (chain program c.name) = same_Some total (count_of_all false (chain program c.name)) (sym got ∙ below.each n c at number (omega arith)) in
        let sum = total_is n c at number in
        record {
          within = omega arith;
          slots = instances_from countable n c total (total - count_of false c) at number whole refl;
        };
  }

-- ---- Static fields

past_statics : (key : FieldKey) (n : ℕ) (ds cs : List Class) → AllByRecursion (HasNone true key) ds → slot_in true key n (ds ++ cs) ≡ slot_in true key (n + count_of_all true ds) cs
past_statics key n [] cs all = let same : n ≡ n + 0 = omega arith in ap (λ m. slot_in true key m cs) same
past_statics key n (d ∷ ds) cs all =
    let same : n + count_of true d + count_of_all true ds ≡ n + (count_of true d + count_of_all true ds) = omega arith in
    slot_further key n d (ds ++ cs) all.0 ∙ past_statics key (n + count_of true d) ds cs all.1 ∙ ap (λ m. slot_in true key m cs) same

earlier_by : {X : Type 0} (p : X → Bool) (b : Bool) (i k n : ℕ) (x : X) (xs : List X) → p x ≡ b → cond b (Some i) (position_from p (i + 1) xs) ≡ Some k → k ≡ i + suc n
    → (position_from p (i + 1) xs ≡ Some k → AllByRecursion (λ (y : X). p y ≡ false) (take n xs)) → AllByRecursion (λ (y : X). p y ≡ false) (take (suc n) (x ∷ xs))
earlier_by p true i k n x xs e there is more = let same : i ≡ k = same_Some i k there in absurd (omega arith)
earlier_by p false i k n x xs e there is more = (e, more there)

-- No item before the first that passes a test passes it.
earlier : {X : Type 0} (p : X → Bool) (i k n : ℕ) (xs : List X) → position_from p i xs ≡ Some k → k ≡ i + n → AllByRecursion (λ (y : X). p y ≡ false) (take n xs)
earlier p i k zero xs there is = tt
earlier p i k (suc n) [] there is = tt
earlier p i k (suc n) (x ∷ xs) there is =
    earlier_by p (p x) i k n x xs refl there is (λ later. earlier p (i + 1) k n xs later (omega arith))

module _ (program : List Class) (n : ℕ) (c : Class) (at : slice_get program n ≡ Some c) where
  within : n < length program
  within = slice_get_within program n c at

  split : program ≡ take n program ++ c ∷ drop (n + 1) program
  split =
      sym (take-append-drop n program)
      ∙ ap (λ (cs : List Class). take n program ++ cs) (drop_more program n c within ∙ ap (λ (d : Class). d ∷ drop (n + 1) program) (get_or_from_slice_get program n c c at))

  -- The classes so far, with this one.
  with_class : take (n + 1) program ≡ take n program ++ c ∷ []
  with_class = take_more program n c within ∙ ap (λ (d : Class). take n program ++ d ∷ []) (get_or_from_slice_get program n c c at)

  pub one_counted : count_of_all true (take (n + 1) program) ≡ count_of_all true (take n program) + count_of true c
  one_counted =
      let whole = ap (count_of_all true) with_class in
      let parts = counts_together true (take n program) (c ∷ []) in
      omega arith

  pub fields_left : fields_of (drop n program) ≡ length c.fields + fields_of (drop (n + 1) program)
  fields_left = ap fields_of (drop_more program n c within ∙ ap (λ (d : Class). d ∷ drop (n + 1) program) (get_or_from_slice_get program n c c at))

  static_slot : class_number program c.name ≡ Some n → (key : FieldKey) (place : ℕ) → place_among true key c ≡ Some place
      → static_slot_of program key ≡ Some (count_of_all true (take n program) + place)
  static_slot number key place there =
      let first = earlier (λ (d : Class). same_text d.name c.name) 0 n n program (sym (position_from-zero (λ (d : Class). same_text d.name c.name) program) ∙ number) (omega arith) in
      let same : 0 + count_of_all true (take n program) ≡ count_of_all true (take n program) = omega arith in
      ap (slot_in true key 0) split
      ∙ past_statics key 0 (take n program) (c ∷ drop (n + 1) program) (none_in_others true key c.name (take n program) (own_name true c key place there) first)
      ∙ slot_here key (0 + count_of_all true (take n program)) place c (drop (n + 1) program) (sym there)
      ∙ ap (λ (k : ℕ). Some (k + place)) same

  pub statics_from : AreCountable program → (start : ℕ) → class_number program c.name ≡ Some n → start ≡ count_of_all true (take n program) → AreSlotsFrom true c (static_slot_of program) start
  statics_from countable start number is =
      let fits = program_fits program countable in
      let whole : fields_of program ≡ fields_of (take n program) + (length c.fields + fields_of (drop (n + 1) program)) = ap fields_of split ∙ fields_together (take n program) (c ∷ drop (n + 1) program) in
      let less = counts_within true (take n program) in
      record {
        each = λ key place there. static_slot number key place there ∙ ap (λ (k : ℕ). Some (k + place)) (sym is);
        fit = omega arith;
      }

-- ---- Classes in order

pub no_starts : (program : List Class) → AreStartsOf program []
no_starts program = record { each = λ n c s at there. absurd (none-some (Some s) there) }

-- An item of a list with one more is an item of the list, or the new one.
at_push : {B : Type 0} (bs : List B) (b : B) (k : ℕ) (x : B) → slice_get (bs ++ b ∷ []) k ≡ Some x → (slice_get bs k ≡ Some x) ⊎ ((k ≡ length bs) × (b ≡ x))
at_push [] b zero x h = inr (refl, same_Some b x h)
at_push [] b (suc k) x h = absurd (none-some x h)
at_push (y ∷ bs) b zero x h = inl h
at_push (y ∷ bs) b (suc k) x h =
    ⊎_elim (λ there. inl there) (λ last. inr (ap suc last.0, last.1)) (at_push bs b k x h)

pub one_start : (program : List Class) (starts new : List (Option FieldStarts)) (o : Option FieldStarts) (c : Class) (n : ℕ) → length starts ≡ n → slice_get program n ≡ Some c → IfSome o (AreStarts program c)
    → new ≡ starts ++ o ∷ [] → AreStartsOf program starts → AreStartsOf program new
one_start program starts new o c n count at here put are =
    record {
      each = λ k d s there is.
          ⊎_elim
          (λ before. are.each k d s there before)
          (λ last.
          let same : k ≡ n = last.0 ∙ count in
          let class_is : c ≡ d = same_Some c d (sym at ∙ ap (slice_get program) (sym same) ∙ there) in
          subst (λ (e : Class). AreStarts program e s) class_is (subst (λ (x : Option FieldStarts). IfSome x (AreStarts program c)) last.1 here))
          (at_push starts o k (Some s) (ap (λ (l : List (Option FieldStarts)). slice_get l k) (sym put) ∙ is));
    }
