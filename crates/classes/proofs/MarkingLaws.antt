-- Classes above one are marked, from the last in the order to the first. Then those of them in whose ancestry there is
-- a match are marked, from the first to the last.
use Rattle.std.proofs.Common.{◌≡◌, ℕ, ◌+◌, ◌-◌, ◌<◌, ◌≤◌, Bool, true, false, ◌||◌, ◌&&◌, eqb, ltb, List, [], ◌∷◌, length, get_or, Option, Some, None, refl, sym, ap, subst, ◌∙◌, ◌⊎◌, inl, inr, ⊎_elim, arith}
use Rattle.std.specs.Prelude.{is_some, slice_get}
use Rattle.std.specs.List.{flat_map, list_all, list_any}
use Rattle.std.proofs.lemmas.Bool.{and_parts, cases_eq, false≢true, lt-ltb, ltb-true}
use Rattle.std.proofs.lemmas.Bool.Decides.{nat_tests}
use Rattle.std.proofs.lemmas.Option.{same_Some, slice_get-get_or, slice_get_cases, slice_get_within}
use Rattle.jvms_program.specs.declared.program.Class.{Class}
use Rattle.jvms_program.specs.Program.{class_named, class_number}
use Rattle.jvms_program.specs.Resolution.{ancestry, first_in, supers_of}
use Rattle.classes.specs.Hierarchy.{IsHierarchyOf, rank, super_numbers}
use Rattle.classes.specs.Marks.{is_in, is_marked}
use Rattle.classes.specs.Searches.{AreAbove, AreUseful, IsClosed}
use Rattle.classes.proofs.HierarchyLaws.{all_both, at_its_place, before, count, lower, number_within, rank_within, row, unfolds, weaker}
use Rattle.classes.proofs.PlaceLaws.{named_at}
use Rattle.classes.proofs.SearchLaws.{all_in, any_found, first_of_two, in_passes}

or_cases : (a b : Bool) → (a || b) ≡ true → (a ≡ true) ⊎ (b ≡ true)
or_cases true b h = inl refl
or_cases false b h = inr h

or_left : (a b : Bool) → a ≡ true → (a || b) ≡ true
or_left true b h = refl
or_left false b h = absurd (false≢true h)

or_right : (a b : Bool) → b ≡ true → (a || b) ≡ true
or_right true b h = refl
or_right false b h = h

same_number : (n m : ℕ) → eqb n m ≡ true → n ≡ m
same_number n m same = grind (arith, nat_tests)

is_itself : (n : ℕ) → eqb n n ≡ true
is_itself n = grind (arith, nat_tests)

is_another : (n m : ℕ) → (n ≡ m → ⊥) → eqb n m ≡ false
is_another n m other = grind (arith, nat_tests)

module _ (program : List Class) (rows : List (List ℕ)) (ranks order : List ℕ) (h : IsHierarchyOf program rows ranks order) where
  -- ---- The class at a place

  there_by : (at : ℕ) → at < length program → ((c : Class) × (at < length program) × (slice_get program at ≡ Some c) × (get_or program at c ≡ c)) ⊎ ((length program ≤ at) × (slice_get program at ≡ None))
      → (c : Class) × (slice_get program at ≡ Some c)
  there_by at within (inl found) = (found.0, found.2)
  there_by at within (inr past) = absurd (omega arith)

  -- A class is at a place of the order up to that of another.
  pub record StandsAt (place at : ℕ) : Type 0 where
    pub class : Class
    pub there : slice_get program at ≡ Some class
    pub placed : rank ranks at ≡ place
    pub within : at < length program

  pub stands_at : (other place : ℕ) → other < length program → place ≤ rank ranks other → StandsAt place (get_or order place 0)
  stands_at other place within low =
      let least : rank ranks other < length order = rank_within program rows ranks order h other within in
      let found = h.found.found place (omega arith) in
      let here : get_or order place 0 < length program = omega (arith, found.0, count program rows ranks order h) in
      let c = there_by (get_or order place 0) here (slice_get_cases program (get_or order place 0)).1 in
      record { class = c.0; there = c.1; placed = found.1; within = here }

  -- A class as it is read.
  pub stands_there : (at : ℕ) (c : Class) → at < length program → c ≡ get_or program at c → slice_get program at ≡ Some c
  stands_there at c within is = slice_get-get_or program at c within ∙ ap (λ (d : Class). Some d) (sym is)

  -- The numbers of its superclass and superinterfaces, as they are read.
  pub row_is : (at : ℕ) (c : Class) → slice_get program at ≡ Some c → (d : List ℕ) → get_or rows at d ≡ super_numbers program c
  row_is at c there d =
      let within : at < length rows = omega (arith, slice_get_within program at c there, count program rows ranks order h) in
      same_Some (get_or rows at d) (get_or rows at []) (sym (slice_get-get_or rows at d within) ∙ slice_get-get_or rows at [] within) ∙ row program rows ranks order h at c there

  pub row_fits : (place at : ℕ) (s : StandsAt place at) (seen : List ℕ) (limit : ℕ) → seen ≡ super_numbers program s.class → length program ≤ limit → list_all (λ n. ltb n limit) seen ≡ true
  row_fits place at s seen limit is room =
      weaker (λ n. ltb n (length program) && ltb (rank ranks n) (rank ranks at)) (λ n. ltb n limit)
      (λ n both. let lt : n < length program = ltb-true n (length program) ((and_parts (ltb n (length program)) (ltb (rank ranks n) (rank ranks at)) both).0) in lt-ltb n limit (omega arith))
      seen (subst (λ (ns : List ℕ). list_all (λ n. ltb n (length program) && ltb (rank ranks n) (rank ranks at)) ns ≡ true) (sym is) (before program rows ranks order h at s.class s.there))

  -- ---- Classes above one

  -- The classes above a class are marked, as far as they come from those with at least this rank.
  pub record AreMarkedFrom (class left : ℕ) (marks : List ℕ) : Type 0 where
    pub itself : is_marked marks class ≡ true
    pub below : (m : ℕ) → is_marked marks m ≡ true → rank ranks m ≤ rank ranks class
    pub closed : (m : ℕ) (c : Class) → slice_get program m ≡ Some c → is_marked marks m ≡ true → left ≤ rank ranks m → list_all (is_marked marks) (super_numbers program c) ≡ true

  pub marked_first : (class : ℕ) (old new : List ℕ) → ((n : ℕ) → is_marked old n ≡ false) → ((n : ℕ) → is_marked new n ≡ (eqb n class || is_marked old n)) → AreMarkedFrom class (rank ranks class + 1) new
  marked_first class old new none marked = record {
    itself = marked class ∙ or_left (eqb class class) (is_marked old class) (is_itself class);
    below = λ m there. let it = only m there in omega (arith, ap (rank ranks) it);
    closed = λ m c at there late. let it = only m there in absurd (omega (arith, ap (rank ranks) it));
  }
    where
      only : (m : ℕ) → is_marked new m ≡ true → m ≡ class
      only m there =
          ⊎_elim
          (λ same. same_number m class same)
          (λ prior. absurd (false≢true (sym (none m) ∙ prior)))
          (or_cases (eqb m class) (is_marked old m) (sym (marked m) ∙ there))

  -- The class at the place before has no mark.
  pub marked_past : (class left at : ℕ) (marks : List ℕ) → 0 < left → rank ranks at ≡ left - 1 → get_or order (left - 1) 0 ≡ at → is_marked marks at ≡ false
      → AreMarkedFrom class left marks → AreMarkedFrom class (left - 1) marks
  marked_past class left at marks some placed here not_there prior = record {
    itself = prior.itself;
    below = prior.below;
    closed = λ m c there marked late.
        ⊎_elim
        (λ (same : rank ranks m ≡ left - 1).
        let it : m ≡ at = sym (at_its_place program rows ranks order h m (slice_get_within program m c there)) ∙ ap (λ k. get_or order k 0) same ∙ here in
        absurd (false≢true (sym not_there ∙ ap (is_marked marks) (sym it) ∙ marked)))
        (λ (other : rank ranks m ≡ left - 1 → ⊥). prior.closed m c there marked (omega arith))
        (cases_eq (rank ranks m) (left - 1));
  }

  -- The class at the place before has a mark, and its superclass and superinterfaces get theirs.
  pub marked_more : (class left at : ℕ) (c : Class) (old new : List ℕ) → 0 < left → left ≤ rank ranks class + 1 → rank ranks at ≡ left - 1 → get_or order (left - 1) 0 ≡ at → slice_get program at ≡ Some c
      → ((n : ℕ) → is_marked new n ≡ (is_in (super_numbers program c) n || is_marked old n)) → AreMarkedFrom class left old → AreMarkedFrom class (left - 1) new
  marked_more class left at c old new some within placed here there marked prior = record {
    itself = kept class prior.itself;
    below = λ m now.
        ⊎_elim
        (λ fresh. omega (arith, low m fresh))
        (λ was. prior.below m was)
        (or_cases (is_in (super_numbers program c) m) (is_marked old m) (sym (marked m) ∙ now));
    closed = λ m d is now late.
        ⊎_elim
        (λ (same : rank ranks m ≡ left - 1).
        let it : m ≡ at = sym (at_its_place program rows ranks order h m (slice_get_within program m d is)) ∙ ap (λ k. get_or order k 0) same ∙ here in
        let class_is : c ≡ d = same_Some c d (sym there ∙ ap (slice_get program) (sym it) ∙ is) in
        subst (λ (e : Class). list_all (is_marked new) (super_numbers program e) ≡ true) class_is
        (weaker (is_in (super_numbers program c)) (is_marked new) (λ n fresh. marked n ∙ or_left (is_in (super_numbers program c) n) (is_marked old n) fresh) (super_numbers program c) (all_in (super_numbers program c))))
        (λ (other : rank ranks m ≡ left - 1 → ⊥).
        ⊎_elim
        (λ fresh. absurd (omega (arith, low m fresh)))
        (λ was. weaker (is_marked old) (is_marked new) kept (super_numbers program d) (prior.closed m d is was (omega arith)))
        (or_cases (is_in (super_numbers program c) m) (is_marked old m) (sym (marked m) ∙ now)))
        (cases_eq (rank ranks m) (left - 1));
  }
    where
      kept : (n : ℕ) → is_marked old n ≡ true → is_marked new n ≡ true
      kept n was = marked n ∙ or_right (is_in (super_numbers program c) n) (is_marked old n) was

      low : (m : ℕ) → is_in (super_numbers program c) m ≡ true → rank ranks m < left - 1
      low m fresh =
          let lt : rank ranks m < rank ranks at = ltb-true (rank ranks m) (rank ranks at) (in_passes (λ n. ltb (rank ranks n) (rank ranks at)) (super_numbers program c) m (lower program rows ranks order h at c there) fresh) in
          omega arith

  pub all_marked : (class : ℕ) (marks : List ℕ) → AreMarkedFrom class 0 marks → AreAbove program ranks class marks
  all_marked class marks are = record {
    itself = are.itself;
    above = record { closed = λ m c at there. are.closed m c at there (omega arith) };
    below = are.below;
  }

  -- ---- Classes in whose ancestry there is a match

  module _ (look : Class → Option (ℕ × ℕ)) (reached : List ℕ) where
    -- The classes with a rank below this one are marked exactly if they are useful, and no other is marked.
    pub record AreUsefulBelow (place : ℕ) (useful : List ℕ) : Type 0 where
      pub exact : (name : List ℕ) (n : ℕ) → class_number program name ≡ Some n → is_marked reached n ≡ true → rank ranks n < place → is_marked useful n ≡ is_some (first_in look (ancestry program name))
      pub fresh : (n : ℕ) → is_marked useful n ≡ true → rank ranks n < place

    pub useful_none : (useful : List ℕ) → ((n : ℕ) → is_marked useful n ≡ false) → AreUsefulBelow 0 useful
    useful_none useful none = record {
      exact = λ name n number there low. absurd (omega arith);
      fresh = λ n there. absurd (false≢true (sym (none n) ∙ there));
    }

    or_same : (a b c : Bool) → a ≡ c → (a || b) ≡ (c || b)
    or_same a b c e = ap (λ d. d || b) e

    -- There is a match in the ancestry of the class at a place exactly if the code says so.
    found_at : (closed : IsClosed program reached) (place at : ℕ) (c : Class) (useful : List ℕ) → rank ranks at ≡ place → slice_get program at ≡ Some c → is_marked reached at ≡ true → AreUsefulBelow place useful
        → (name : List ℕ) → class_number program name ≡ Some at
        → is_some (first_in look (ancestry program name)) ≡ (is_some (look c) || list_any (is_marked useful) (super_numbers program c))
    found_at closed place at c useful placed there marked prior name number =
        let named : class_named program name ≡ Some c = sym (named_at program name at number) ∙ there in
        let p = λ (n : ℕ). is_marked reached n && ltb (rank ranks n) place in
        let all : list_all p (super_numbers program c) ≡ true =
        all_both (is_marked reached) (λ n. ltb (rank ranks n) place) (super_numbers program c) (closed.closed at c there marked)
        (subst (λ k. list_all (λ n. ltb (rank ranks n) k) (super_numbers program c) ≡ true) placed (lower program rows ranks order h at c there)) in
        let any = any_found program look (is_marked useful) p
        (λ other n is passes. let parts = and_parts (is_marked reached n) (ltb (rank ranks n) place) passes in prior.exact other n is parts.0 (ltb-true (rank ranks n) place parts.1))
        (supers_of c) all in
        ap (λ (cs : List Class). is_some (first_in look cs)) (unfolds program rows ranks order h name at c number named)
        ∙ first_of_two program look (c ∷ []) (flat_map (ancestry program) (supers_of c)) (look c) (alone c (look c) refl)
        ∙ ap (λ b. is_some (look c) || b) (sym any)
      where
        alone : (c : Class) (o : Option (ℕ × ℕ)) → look c ≡ o → first_in look (c ∷ []) ≡ look c
        alone c None e = rw e refl
        alone c (Some x) e = rw e refl

    -- The class at a place is the one with that rank.
    the_one : (place at n : ℕ) → get_or order place 0 ≡ at → n < length program → rank ranks n ≡ place → n ≡ at
    the_one place at n here within same = sym (at_its_place program rows ranks order h n within) ∙ ap (λ k. get_or order k 0) same ∙ here

    -- The class at a place isn't reached.
    pub useful_past : (place at : ℕ) (useful : List ℕ) → get_or order place 0 ≡ at → is_marked reached at ≡ false → AreUsefulBelow place useful → AreUsefulBelow (place + 1) useful
    useful_past place at useful here not_there prior = record {
      exact = λ name n number marked low.
          ⊎_elim
          (λ (same : rank ranks n ≡ place).
          let it = the_one place at n here (number_within program name n number) same in
          absurd (false≢true (sym not_there ∙ ap (is_marked reached) (sym it) ∙ marked)))
          (λ (other : rank ranks n ≡ place → ⊥). prior.exact name n number marked (omega arith))
          (cases_eq (rank ranks n) place);
      fresh = λ n there. let low = prior.fresh n there in omega arith;
    }

    -- The class at a place is reached, and is useful or not.
    pub useful_more : IsClosed program reached → (place at : ℕ) (c : Class) (is : Bool) (old new : List ℕ) → get_or order place 0 ≡ at → rank ranks at ≡ place → slice_get program at ≡ Some c → is_marked reached at ≡ true
        → ((name : List ℕ) → class_number program name ≡ Some at → is ≡ (is_some (look c) || list_any (is_marked old) (super_numbers program c))) → ((n : ℕ) → is_marked new n ≡ ((is && eqb n at) || is_marked old n))
        → AreUsefulBelow place old → AreUsefulBelow (place + 1) new
    useful_more closed place at c is old new here placed there marked when now prior = record {
      exact = λ name n number reaches low.
          ⊎_elim
          (λ (same : rank ranks n ≡ place).
          let it = the_one place at n here (number_within program name n number) same in
          let was : is_marked old n ≡ false = not_yet n same in
          now n ∙ only n is it was ∙ when name (number ∙ ap (λ k. Some k) it) ∙ sym (found_at closed place at c old placed there marked prior name (number ∙ ap (λ k. Some k) it)))
          (λ (other : rank ranks n ≡ place → ⊥).
          now n ∙ ap (λ b. (is && b) || is_marked old n) (is_another n at (λ it. other (ap (rank ranks) it ∙ placed))) ∙ never is (is_marked old n) ∙ prior.exact name n number reaches (omega arith))
          (cases_eq (rank ranks n) place);
      fresh = λ n is_there.
          ⊎_elim
          (λ both. let it = same_number n at ((and_parts is (eqb n at) both).1) in omega (arith, ap (rank ranks) it))
          (λ was. let low = prior.fresh n was in omega arith)
          (or_cases (is && eqb n at) (is_marked old n) (sym (now n) ∙ is_there));
    }
      where
        not_true : (b : Bool) → (b ≡ true → ⊥) → b ≡ false
        not_true true absent = absurd (absent refl)
        not_true false absent = refl

        not_yet : (n : ℕ) → rank ranks n ≡ place → is_marked old n ≡ false
        not_yet n same = not_true (is_marked old n) (λ was. let low = prior.fresh n was in absurd (omega arith))

        never : (a b : Bool) → ((a && false) || b) ≡ b
        never true b = refl
        never false b = refl

        only : (n : ℕ) (is : Bool) → n ≡ at → is_marked old n ≡ false → ((is && eqb n at) || is_marked old n) ≡ is
        only n true it was = rw was (or_left (eqb n at) false (ap (λ k. eqb n k) (sym it) ∙ is_itself n))
        only n false it was = was

    pub useful_all : (class : ℕ) (useful : List ℕ) → AreAbove program ranks class reached → AreUsefulBelow (rank ranks class + 1) useful → AreUseful program look reached useful
    useful_all class useful above are = record {
      exact = λ name n number marked. let low = above.below n marked in are.exact name n number marked (omega arith);
    }
