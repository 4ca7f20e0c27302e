-- The classes above names, by steps from class to superclass and superinterface.
use Rattle.std.proofs.Common.{◌≡◌, ℕ, zero, suc, ◌+◌, ◌-◌, ◌<◌, ◌≤◌, Bool, true, false, ◌||◌, ◌&&◌, eqb, ltb, leb, List, [], ◌∷◌, ◌++◌, length, get_or, Option, Some, None, refl, sym, ap, subst, ◌∙◌, ◌⊎◌, inl, inr, ⊎_elim, arith}
use Rattle.std.specs.Prelude.{slice_get, unwrap_or}
use Rattle.std.specs.Option.{option_map}
use Rattle.std.specs.List.{flat_map, list_all, list_any, position_or_len}
use Rattle.std.specs.Cmp.Lexicographic.{nat_list_eq_equiv, same_text as texts_are_same}
use Rattle.std.proofs.lemmas.Bool.{and_parts, cases_eq, cases_lt, false≢true, lt-ltb, ltb-true}
use Rattle.std.proofs.lemmas.Bool.Decides.{nat_tests}
use Rattle.std.proofs.lemmas.List.{append-nil, get_or-map}
use Rattle.std.proofs.lemmas.List.Concat.{flat_map-append}
use Rattle.std.proofs.lemmas.List.Folds.{list_any-append, list_all-append}
use Rattle.std.proofs.lemmas.Option.{cond_some, same_Some, slice_get-map, slice_get_within, get_or_from_slice_get, unwrap_or-slice_get}
use Rattle.jvms_program.specs.declared.program.Class.{Class}
use Rattle.jvms_file.specs.Names.{same_text}
use Rattle.jvms_program.specs.Program.{class_named, class_number}
use Rattle.jvms_program.specs.Resolution.{ancestry_within, names_class}
use Rattle.classes.proofs.PlaceLaws.{name_is, named_at, one_name, position_found, position_none}
use Rattle.jvms_program.specs.Resolution.{supers_of}
use Rattle.classes.specs.Hierarchy.{to_list, numbers_of, super_numbers, super_rows, rank}
use Rattle.linker.specs.Supers.{is_above, is_in, with_numbers, AreAllAbove, Fall}
use Rattle.linker.proofs.SetLaws.{all_in, new_place, place_of, same_place, still_all_in}

-- ---- Tests of lists

or_cases : (a b : Bool) → (a || b) ≡ true → (a ≡ true) ⊎ (b ≡ true)
or_cases true b h = inl refl
or_cases false b h = inr h

or_left : (a b : Bool) → a ≡ true → (a || b) ≡ true
or_left true b h = refl
or_left false b h = absurd (false≢true h)

or_right : (a b : Bool) → b ≡ true → (a || b) ≡ true
or_right true b h = refl
or_right false b h = h

any_flat_map : {X Y : Type 0} (p : Y → Bool) (f : X → List Y) (xs : List X) → list_any p (flat_map f xs) ≡ list_any (λ x. list_any p (f x)) xs
any_flat_map p f [] = refl
any_flat_map p f (x ∷ xs) = list_any-append p (f x) (flat_map f xs) ∙ ap (λ b. list_any p (f x) || b) (any_flat_map p f xs)

not_true : (b : Bool) → (b ≡ true → ⊥) → b ≡ false
not_true true never = absurd (never refl)
not_true false never = refl

same_number : (n m : ℕ) → eqb n m ≡ true → n ≡ m
same_number n m same = grind (arith, nat_tests)

module _ (program : List Class) where
  -- ---- One step up

  step_by : (most : ℕ) (name super : List ℕ) (c : Class) (s : Option (List ℕ)) → class_named program super ≡ Some c → c.superclass ≡ s
      → names_class name (ancestry_within (suc most) program super) ≡ (same_text c.name name || is_above program most name (supers_of c))
  unfolding ancestry_within
  step_by most name super c None h e =
      rw h
      (rw e
      (ap (λ b. same_text c.name name || b)
      (ap (list_any (λ (d : Class). same_text d.name name)) (sym (flat_map-append (ancestry_within most program) c.interfaces []))
      ∙ any_flat_map (λ (d : Class). same_text d.name name) (ancestry_within most program) (c.interfaces ++ []))))
  step_by most name super c (Some next) h e =
      rw h
      (rw e
      (ap (λ b. same_text c.name name || b)
      (ap (λ (ds : List Class). list_any (λ (d : Class). same_text d.name name) (flat_map (ancestry_within most program) c.interfaces ++ ds)) (sym (append-nil (ancestry_within most program next)))
      ∙ ap (list_any (λ (d : Class). same_text d.name name)) (sym (flat_map-append (ancestry_within most program) c.interfaces (next ∷ [])))
      ∙ any_flat_map (λ (d : Class). same_text d.name name) (ancestry_within most program) (c.interfaces ++ next ∷ []))))

  -- A class of a name is in the ancestry of a class if it is this one, or above one of its supers.
  step : (most : ℕ) (name super : List ℕ) (c : Class) → class_named program super ≡ Some c
      → names_class name (ancestry_within (suc most) program super) ≡ (same_text c.name name || is_above program most name (supers_of c))
  step most name super c h = step_by most name super c c.superclass h refl

  missing : (most : ℕ) (name super : List ℕ) → class_named program super ≡ None → names_class name (ancestry_within most program super) ≡ false
  unfolding ancestry_within
  missing zero name super h = refl
  missing (suc most) name super h = rw h refl

  nowhere : (name super : List ℕ) → names_class name (ancestry_within zero program super) ≡ false
  unfolding ancestry_within
  nowhere name super = refl

  none_above : (name : List ℕ) (names : List (List ℕ)) → is_above program zero name names ≡ false
  none_above name [] = refl
  none_above name (super ∷ names) = (λ i. nowhere name super i || none_above name names i)

  -- ---- More classes up

  grown_in : (most : ℕ) (name super : List ℕ) (o : Option Class) → class_named program super ≡ o
      → ((names : List (List ℕ)) → is_above program most name names ≡ true → is_above program (suc most) name names ≡ true)
      → names_class name (ancestry_within (suc most) program super) ≡ true → names_class name (ancestry_within (suc (suc most)) program super) ≡ true
  grown_in most name super None h more there = absurd (false≢true (sym (missing (suc most) name super h) ∙ there))
  grown_in most name super (Some c) h more there =
      step (suc most) name super c h
      ∙ ⊎_elim
      (λ here. or_left (same_text c.name name) (is_above program (suc most) name (supers_of c)) here)
      (λ above. or_right (same_text c.name name) (is_above program (suc most) name (supers_of c)) (more (supers_of c) above))
      (or_cases (same_text c.name name) (is_above program most name (supers_of c)) (sym (step most name super c h) ∙ there))

  one_grown : (most : ℕ) (name : List ℕ) (names : List (List ℕ)) → is_above program most name names ≡ true → is_above program (suc most) name names ≡ true
  one_grown zero name names there = absurd (false≢true (sym (none_above name names) ∙ there))
  one_grown (suc most) name [] there = there
  one_grown (suc most) name (super ∷ names) there =
      ⊎_elim
      (λ here. or_left (names_class name (ancestry_within (suc (suc most)) program super)) (is_above program (suc (suc most)) name names) (grown_in most name super (class_named program super) refl (one_grown most name) here))
      (λ later. or_right (names_class name (ancestry_within (suc (suc most)) program super)) (is_above program (suc (suc most)) name names) (one_grown (suc most) name names later))
      (or_cases (names_class name (ancestry_within (suc most) program super)) (is_above program (suc most) name names) there)

  grown_by : (more most : ℕ) (name : List ℕ) (names : List (List ℕ)) → is_above program most name names ≡ true → is_above program (more + most) name names ≡ true
  grown_by zero most name names there = let e : zero + most ≡ most = omega arith in rw e there
  grown_by (suc more) most name names there =
      let e : suc more + most ≡ suc (more + most) = omega arith in rw e (one_grown (more + most) name names (grown_by more most name names there))

  -- A class that is above at most `least` classes up is also above at most `most` classes up.
  pub grown : (least most : ℕ) (name : List ℕ) (names : List (List ℕ)) → least ≤ most → is_above program least name names ≡ true → is_above program most name names ≡ true
  grown least most name names h there =
      let e : (most - least) + least ≡ most = omega arith in subst (λ k. is_above program k name names ≡ true) e (grown_by (most - least) least name names there)

  -- ---- Properties that are kept up

  module _ (p : ℕ → Bool) (closed : (m : ℕ) (c : Class) → slice_get program m ≡ Some c → p m ≡ true → list_all p (super_numbers program c) ≡ true) where
    kept_in : (most : ℕ) (name super : List ℕ) (o : Option Class) → class_named program super ≡ o
        → ((names : List (List ℕ)) → list_all p (numbers_of program names) ≡ true → is_above program most name names ≡ true → (m : ℕ) × (class_number program name ≡ Some m) × (p m ≡ true))
        → list_all p (to_list (class_number program super)) ≡ true → names_class name (ancestry_within (suc most) program super) ≡ true
        → (m : ℕ) × (class_number program name ≡ Some m) × (p m ≡ true)
    kept_in most name super None h more all there = absurd (false≢true (sym (missing (suc most) name super h) ∙ there))
    kept_in most name super (Some c) h more all there =
        let n = position_or_len (λ (d : Class). same_text d.name super) program in
        let number : class_number program super ≡ Some n = position_found (λ (d : Class). same_text d.name super) program c h in
        let passes : p n ≡ true = (and_parts (p n) true (ap (λ o. list_all p (to_list o)) (sym number) ∙ all)).0 in
        ⊎_elim
        (λ here.
        let it : name ≡ super = sym (texts_are_same c.name name (sym here)) ∙ name_is program super c h in
        (n, ap (class_number program) it ∙ number, passes))
        (λ above. more (supers_of c) (closed n c (named_at program super n number ∙ h) passes) above)
        (or_cases (same_text c.name name) (is_above program most name (supers_of c)) (sym (step most name super c h) ∙ there))

    -- A property of the classes of some names that each class passes to its supers holds for all classes above.
    pub kept : (most : ℕ) (name : List ℕ) (names : List (List ℕ)) → list_all p (numbers_of program names) ≡ true → is_above program most name names ≡ true
        → (m : ℕ) × (class_number program name ≡ Some m) × (p m ≡ true)
    kept zero name names all there = absurd (false≢true (sym (none_above name names) ∙ there))
    kept (suc most) name [] all there = absurd (false≢true there)
    kept (suc most) name (super ∷ names) all there =
        let parts = and_parts (list_all p (to_list (class_number program super))) (list_all p (numbers_of program names)) (sym (list_all-append p (to_list (class_number program super)) (numbers_of program names)) ∙ all) in
        ⊎_elim
        (λ here. kept_in most name super (class_named program super) refl (kept most name) parts.0 here)
        (λ later. kept (suc most) name names parts.1 later)
        (or_cases (names_class name (ancestry_within (suc most) program super)) (is_above program (suc most) name names) there)

  -- ---- Classes that are reached

  -- The class of a number is above names, at most `most` classes up.
  pub record IsReached (names : List (List ℕ)) (most n : ℕ) : Type 0 where
    pub name : List ℕ
    pub number : class_number program name ≡ Some n
    pub above : is_above program most name names ≡ true

  named_by : (name : List ℕ) (n : ℕ) (o : Option Class) → class_named program name ≡ o → class_number program name ≡ Some n → (c : Class) × (class_named program name ≡ Some c)
  named_by name n None h number = let none : class_number program name ≡ None = position_none (λ (d : Class). same_text d.name name) program h in absurd cc
  named_by name n (Some c) h number = (c, h)

  itself : (most : ℕ) (name : List ℕ) (c : Class) → class_named program name ≡ Some c → names_class name (ancestry_within (suc most) program name) ≡ true
  itself most name c h =
      step most name name c h
      ∙ or_left (same_text c.name name) (is_above program most name (supers_of c)) (ap (λ n. same_text n name) (name_is program name c h) ∙ nat_list_eq_equiv.refl name)

  started_by : (super : List ℕ) (names : List (List ℕ)) (n : ℕ) (o : Option ℕ) → class_number program super ≡ o
      → (is_in (numbers_of program names) n ≡ true → IsReached names 1 n) → is_in (to_list o ++ numbers_of program names) n ≡ true → IsReached (super ∷ names) 1 n
  started_by super names n None h more there =
      let r = more there in
      record { name = r.name; number = r.number; above = or_right (names_class r.name (ancestry_within 1 program super)) (is_above program 1 r.name names) r.above }
  started_by super names n (Some m) h more there =
      ⊎_elim
      (λ here.
      let c = named_by super m (class_named program super) refl h in
      record {
        name = super;
        number = h ∙ ap (λ k. Some k) (sym (same_number n m here));
        above = or_left (names_class super (ancestry_within 1 program super)) (is_above program 1 super names) (itself zero super c.0 c.1);
      })
      (λ later.
      let r = more later in
      record { name = r.name; number = r.number; above = or_right (names_class r.name (ancestry_within 1 program super)) (is_above program 1 r.name names) r.above })
      (or_cases (eqb n m) (is_in (numbers_of program names) n) there)

  -- The classes of the names themselves.
  pub started : (names : List (List ℕ)) (n : ℕ) → is_in (numbers_of program names) n ≡ true → IsReached names 1 n
  started [] n there = absurd (false≢true there)
  started (super ∷ names) n there = started_by super names n (class_number program super) refl (started names n) there

  more_in : (most : ℕ) (name next super : List ℕ) (c : Class) (o : Option Class) → class_named program name ≡ Some c → class_named program super ≡ o → is_above program 1 next (supers_of c) ≡ true
      → ((names : List (List ℕ)) → is_above program most name names ≡ true → is_above program (suc most) next names ≡ true)
      → names_class name (ancestry_within (suc most) program super) ≡ true → names_class next (ancestry_within (suc (suc most)) program super) ≡ true
  more_in most name next super c None n h up more there = absurd (false≢true (sym (missing (suc most) name super h) ∙ there))
  more_in most name next super c (Some d) n h up more there =
      step (suc most) next super d h
      ∙ or_right (same_text d.name next) (is_above program (suc most) next (supers_of d))
      (⊎_elim
      (λ here.
      let it : super ≡ name = sym (name_is program super d h) ∙ texts_are_same d.name name (sym here) in
      let same : c ≡ d = same_Some c d (sym n ∙ ap (class_named program) (sym it) ∙ h) in
      subst (λ (e : Class). is_above program (suc most) next (supers_of e) ≡ true) same (grown 1 (suc most) next (supers_of c) (omega arith) up))
      (λ above. more (supers_of d) above)
      (or_cases (same_text d.name name) (is_above program most name (supers_of d)) (sym (step most name super d h) ∙ there)))

  more_above : (most : ℕ) (name next : List ℕ) (c : Class) (names : List (List ℕ)) → class_named program name ≡ Some c → is_above program 1 next (supers_of c) ≡ true
      → is_above program most name names ≡ true → is_above program (suc most) next names ≡ true
  more_above zero name next c names n up there = absurd (false≢true (sym (none_above name names) ∙ there))
  more_above (suc most) name next c [] n up there = absurd (false≢true there)
  more_above (suc most) name next c (super ∷ names) n up there =
      ⊎_elim
      (λ here. or_left (names_class next (ancestry_within (suc (suc most)) program super)) (is_above program (suc (suc most)) next names)
      (more_in most name next super c (class_named program super) n refl up (λ others above. more_above most name next c others n up above) here))
      (λ later. or_right (names_class next (ancestry_within (suc (suc most)) program super)) (is_above program (suc (suc most)) next names) (more_above (suc most) name next c names n up later))
      (or_cases (names_class name (ancestry_within (suc most) program super)) (is_above program (suc most) name names) there)

  -- The supers of a class that is reached, one class further up.
  pub next_reached : (names : List (List ℕ)) (most n m : ℕ) (c : Class) → slice_get program n ≡ Some c → IsReached names most n → is_in (super_numbers program c) m ≡ true → IsReached names (suc most) m
  next_reached names most n m c at r there =
      let s = started (supers_of c) m there in
      record { name = s.name; number = s.number; above = more_above most r.name s.name c names (sym (named_at program r.name n r.number) ∙ at) s.above r.above }

  -- ---- All classes above

  same_when : (a b : Bool) → (a ≡ true → b ≡ true) → (b ≡ true → a ≡ true) → a ≡ b
  same_when true b to from = sym (to refl)
  same_when false true to from = absurd (false≢true (from refl))
  same_when false false to from = refl

  -- Numbers that contain those of the names, contain those of each class's supers, and are all reached.
  pub all_above : (names : List (List ℕ)) (numbers : List ℕ) → list_all (is_in numbers) (numbers_of program names) ≡ true
      → ((m : ℕ) (c : Class) → slice_get program m ≡ Some c → is_in numbers m ≡ true → list_all (is_in numbers) (super_numbers program c) ≡ true)
      → ((n : ℕ) → is_in numbers n ≡ true → IsReached names (length program) n)
      → AreAllAbove program names numbers
  all_above names numbers start closed reached = record {
    all = λ name n number.
        same_when (is_in numbers n) (is_above program (length program) name names)
        (λ there. let r = reached n there in subst (λ k. is_above program (length program) k names ≡ true) (one_name program r.name name n (sym r.number) (sym number)) r.above)
        (λ above.
        let k = kept (is_in numbers) closed (length program) name names start above in
        subst (λ m. is_in numbers m ≡ true) (same_Some k.0 n (sym k.1 ∙ number)) k.2);
  }

  -- ---- Ranks

  all_true : (ns : List ℕ) → list_all (λ (n : ℕ). true) ns ≡ true
  all_true [] = refl
  all_true (n ∷ ns) = all_true ns

  -- A class that isn't there is above none.
  pub none_is_above : (most : ℕ) (name : List ℕ) (names : List (List ℕ)) → class_number program name ≡ None → is_above program most name names ≡ false
  none_is_above most name names absent = not_true (is_above program most name names) (λ there. let k = kept (λ n. true) (λ m c at passes. all_true (super_numbers program c)) most name names (all_true (numbers_of program names)) there in no_number k.0 (sym absent ∙ k.1))
    where
      no_number : (n : ℕ) → None ≡ Some n → ⊥
      no_number n e = cc

  weaker : (p q : ℕ → Bool) → ((n : ℕ) → p n ≡ true → q n ≡ true) → (ns : List ℕ) → list_all p ns ≡ true → list_all q ns ≡ true
  weaker p q change [] all = refl
  weaker p q change (n ∷ ns) all =
      let parts = and_parts (p n) (list_all p ns) all in
      let here = change n parts.0 in
      (λ i. here i && weaker p q change ns parts.1 i)

  row : (m : ℕ) (c : Class) → slice_get program m ≡ Some c → get_or (super_rows program) m [] ≡ super_numbers program c
  row m c at =
      get_or-map (super_numbers program) program m c [] (slice_get_within program m c at) ∙ ap (super_numbers program) (get_or_from_slice_get program m c c at)

  -- A class whose rank is above those of others isn't above them, if ranks fall.
  pub apart : (rows : List (List ℕ)) (ranks : List ℕ) (number limit : ℕ) (numbers : List ℕ) → rows ≡ super_rows program → Fall rows ranks → limit ≡ rank ranks number → list_all (λ n. ltb (rank ranks n) limit) numbers ≡ true
      → (name : List ℕ) (names : List (List ℕ)) → class_number program name ≡ Some number → numbers ≡ numbers_of program names → is_above program (length program) name names ≡ false
  apart rows ranks number limit numbers are falls here low name names there is =
      not_true (is_above program (length program) name names)
      (λ above.
      let k = kept (λ n. ltb (rank ranks n) (rank ranks number))
      (λ m c at below.
      weaker (λ n. leb (rank ranks n) (rank ranks m)) (λ n. ltb (rank ranks n) (rank ranks number)) (λ n le. lower (rank ranks n) (rank ranks m) (rank ranks number) le below) (super_numbers program c)
      (subst (λ (ns : List ℕ). list_all (λ n. leb (rank ranks n) (rank ranks m)) ns ≡ true) (ap (λ (rs : List (List ℕ)). get_or rs m []) are ∙ row m c at) (falls.fall m)))
      (length program) name names (subst (λ (ns : List ℕ). list_all (λ n. ltb (rank ranks n) (rank ranks number)) ns ≡ true) is (subst (λ r. list_all (λ n. ltb (rank ranks n) r) numbers ≡ true) here low)) above in
      let same : k.0 ≡ number = same_Some k.0 number (sym k.1 ∙ there) in
      not_lower (rank ranks number) (subst (λ n. ltb (rank ranks n) (rank ranks number) ≡ true) same k.2))
    where
      lower : (a b c : ℕ) → leb a b ≡ true → ltb b c ≡ true → ltb a c ≡ true
      lower a b c le lt = grind (arith, nat_tests)

      not_lower : (a : ℕ) → ltb a a ≡ true → ⊥
      not_lower a lt = grind (arith, nat_tests)

  -- ---- Upward, one class after another

  number_within : (name : List ℕ) (n : ℕ) → class_number program name ≡ Some n → n < length program
  number_within name n number =
      let place = position_or_len (λ (d : Class). same_text d.name name) program in
      let parts = cond_some (ltb place (length program)) place n number in
      subst (λ k. k < length program) parts.1 (ltb-true place (length program) parts.0)

  numbers_within_by : (o : Option ℕ) → ((n : ℕ) → o ≡ Some n → n < length program) → list_all (λ n. ltb n (length program)) (to_list o) ≡ true
  numbers_within_by None within = refl
  numbers_within_by (Some n) within = let e : ltb n (length program) ≡ true = lt-ltb n (length program) (within n refl) in (λ i. e i && true)

  -- Numbers of classes are those of the program.
  pub numbers_within : (names : List (List ℕ)) → list_all (λ n. ltb n (length program)) (numbers_of program names) ≡ true
  numbers_within [] = refl
  numbers_within (name ∷ names) =
      let here = numbers_within_by (class_number program name) (number_within name) in
      list_all-append (λ n. ltb n (length program)) (to_list (class_number program name)) (numbers_of program names) ∙ (λ i. here i && numbers_within names i)

  higher : (names : List (List ℕ)) (least most n : ℕ) → least ≤ most → IsReached names least n → IsReached names most n
  higher names least most n h r = record { name = r.name; number = r.number; above = grown least most r.name names h r.above }

  -- Each number of a set is reached, at most as many classes up as its place in the set.
  pub record AreReached (names : List (List ℕ)) (numbers : List ℕ) : Type 0 where
    pub reached : (j : ℕ) → j < length numbers → IsReached names (j + 1) (get_or numbers j 0)

  pub reached_first : (names : List (List ℕ)) (numbers : List ℕ) → numbers ≡ numbers_of program names → AreReached names (with_numbers [] numbers)
  reached_first names numbers are = record {
    reached = λ j within.
        higher names 1 (j + 1) (get_or (with_numbers [] numbers) j 0) (omega arith)
        (started names (get_or (with_numbers [] numbers) j 0)
        (subst (λ (ns : List ℕ). is_in ns (get_or (with_numbers [] numbers) j 0) ≡ true) are (new_place [] numbers j (omega arith) within)));
  }

  pub reached_next : (names : List (List ℕ)) (numbers : List ℕ) (place : ℕ) → place < length numbers → AreReached names numbers
      → AreReached names (with_numbers numbers (get_or (super_rows program) (get_or numbers place 0) []))
  reached_next names numbers place there before =
      let n = get_or numbers place 0 in
      let r = before.reached place there in
      let c = named_by r.name n (class_named program r.name) refl r.number in
      let at : slice_get program n ≡ Some c.0 = named_at program r.name n r.number ∙ c.1 in
      let more = get_or (super_rows program) n [] in
      record {
        reached = λ j within.
            ⊎_elim
            (λ (early : j < length numbers). subst (IsReached names (j + 1)) (sym (same_place numbers more j early)) (before.reached j early))
            (λ (late : length numbers ≤ j).
            let m = get_or (with_numbers numbers more) j 0 in
            higher names (suc (place + 1)) (j + 1) m (omega arith)
            (next_reached names (place + 1) n m c.0 at r (subst (λ (ns : List ℕ). is_in ns m ≡ true) (row n c.0 at) (new_place numbers more j late within))))
            (cases_lt j (length numbers));
      }

  -- The classes before this place have all their supers in the set.
  pub record AreClosed (numbers : List ℕ) (place : ℕ) : Type 0 where
    pub closed : (j : ℕ) → j < place → list_all (is_in numbers) (get_or (super_rows program) (get_or numbers j 0) []) ≡ true

  pub closed_none : (numbers : List ℕ) → AreClosed numbers 0
  closed_none numbers = record { closed = λ j before. absurd (omega arith) }

  pub closed_next : (numbers : List ℕ) (place : ℕ) → place < length numbers → AreClosed numbers place
      → AreClosed (with_numbers numbers (get_or (super_rows program) (get_or numbers place 0) [])) (place + 1)
  closed_next numbers place there before =
      let more = get_or (super_rows program) (get_or numbers place 0) [] in
      record {
        closed = λ j within.
            ⊎_elim
            (λ (here : j ≡ place).
            let same : get_or (with_numbers numbers more) j 0 ≡ get_or numbers place 0 = same_place numbers more j (omega arith) ∙ ap (λ k. get_or numbers k 0) here in
            subst (λ n. list_all (is_in (with_numbers numbers more)) (get_or (super_rows program) n []) ≡ true) (sym same) (all_in numbers more))
            (λ (other : j ≡ place → ⊥).
            let same : get_or (with_numbers numbers more) j 0 ≡ get_or numbers j 0 = same_place numbers more j (omega arith) in
            subst (λ n. list_all (is_in (with_numbers numbers more)) (get_or (super_rows program) n []) ≡ true) (sym same)
            (still_all_in numbers more (get_or (super_rows program) (get_or numbers j 0) []) (before.closed j (omega arith))))
            (cases_eq j place);
      }

  -- If all classes of the set have their supers in it, it has all classes above.
  pub whole : (start numbers : List ℕ) (place : ℕ) → list_all (is_in numbers) start ≡ true → AreClosed numbers place → length numbers ≤ place → length numbers ≤ length program
      → (names : List (List ℕ)) → start ≡ numbers_of program names → AreReached names numbers → AreAllAbove program names numbers
  whole start numbers place begun closed done few names is reached =
      all_above names numbers (subst (λ (ns : List ℕ). list_all (is_in numbers) ns ≡ true) is begun)
      (λ m c at there.
      let p = place_of numbers m there in
      subst (λ (ns : List ℕ). list_all (is_in numbers) ns ≡ true) (ap (λ n. get_or (super_rows program) n []) p.2 ∙ row m c at) (closed.closed p.0 (omega (arith, p.1))))
      (λ n there.
      let p = place_of numbers n there in
      higher names (p.0 + 1) (length program) n (omega (arith, p.1)) (subst (IsReached names (p.0 + 1)) p.2 (reached.reached p.0 p.1)))

  within_by : (n : ℕ) (o : Option Class) → slice_get program n ≡ o → list_all (λ m. ltb m (length program)) (get_or (super_rows program) n []) ≡ true
  within_by n None at =
      let none : get_or (super_rows program) n [] ≡ [] = sym (unwrap_or-slice_get (super_rows program) n []) ∙ ap (λ o. unwrap_or o []) (slice_get-map (super_numbers program) program n ∙ ap (λ o. option_map (super_numbers program) o) at) in
      rw none refl
  within_by n (Some c) at = rw (row n c at) (numbers_within (supers_of c))

  -- The supers of a class are classes of the program.
  pub row_within : (n : ℕ) → list_all (λ m. ltb m (length program)) (get_or (super_rows program) n []) ≡ true
  row_within n = within_by n (slice_get program n) refl
