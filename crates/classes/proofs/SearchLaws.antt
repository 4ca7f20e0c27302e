-- Searches by marks. Of the classes of some names, the first that is marked as useful leads to the first match.
use Rattle.std.proofs.Common.{◌≡◌, ℕ, Bool, true, false, cond, ◌||◌, ◌&&◌, eqb, List, [], ◌∷◌, ◌++◌, length, Option, Some, None, refl, sym, ap, subst, ◌∙◌, ⊎_elim, arith}
use Rattle.std.specs.Prelude.{is_some}
use Rattle.std.specs.List.{find, flat_map, list_all, list_any}
use Rattle.std.proofs.lemmas.Bool.{and_parts, cases_eq, false≢true}
use Rattle.std.proofs.lemmas.Bool.Decides.{nat_tests}
use Rattle.std.proofs.lemmas.List.Folds.{list_any-append}
use Rattle.std.proofs.lemmas.Option.{same_Some}
use Rattle.jvms_program.specs.declared.program.Class.{Class}
use Rattle.jvms_program.specs.Program.{class_number}
use Rattle.jvms_program.specs.Resolution.{ancestry, first_in}
use Rattle.classes.specs.Hierarchy.{numbers_of, to_list}
use Rattle.classes.specs.Marks.{is_in}
use Rattle.classes.proofs.HierarchyLaws.{first_numbers, missing, number_passes}
use Rattle.classes.proofs.PlaceLaws.{unnamed}
use Rattle.classes.proofs.WalkLaws.{first_in-append_none, first_in-append_some}

not_true : (b : Bool) → (b ≡ true → ⊥) → b ≡ false
not_true true never = absurd (never refl)
not_true false never = refl

-- ---- Lists of numbers

pub in_passes : (p : ℕ → Bool) (ns : List ℕ) (n : ℕ) → list_all p ns ≡ true → is_in ns n ≡ true → p n ≡ true
in_passes p [] n all there = absurd (false≢true there)
in_passes p (m ∷ ns) n all there =
    let parts = and_parts (p m) (list_all p ns) all in
    ⊎_elim
    (λ (same : n ≡ m). subst (λ k. p k ≡ true) (sym same) parts.0)
    (λ (other : n ≡ m → ⊥).
    let e : eqb n m ≡ false = grind (arith, nat_tests) in in_passes p ns n parts.1 (rw e at there))
    (cases_eq n m)

pub all_in : (ns : List ℕ) → list_all (is_in ns) ns ≡ true
all_in ns = all_among ns ns (λ n there. there)
  where
    here : (n m : ℕ) (b : Bool) → n ≡ m → (eqb n m || b) ≡ true
    here n m b same = let e : eqb n m ≡ true = grind (arith, nat_tests) in rw e refl

    later : (a b : Bool) → b ≡ true → (a || b) ≡ true
    later true b h = refl
    later false b h = h

    all_among : (whole ns : List ℕ) → ((n : ℕ) → is_in ns n ≡ true → is_in whole n ≡ true) → list_all (is_in whole) ns ≡ true
    all_among whole [] into = refl
    all_among whole (n ∷ ns) into =
        let first = into n (here n n (is_in ns n) refl) in
        let rest = all_among whole ns (λ m there. into m (later (eqb m n) (is_in ns m) there)) in
        (λ i. first i && rest i)

found_by : (p q : ℕ → Bool) (m n : ℕ) (ns : List ℕ) (b : Bool) → p m ≡ b → q m ≡ true → (find p ns ≡ Some n → (p n ≡ true) × (q n ≡ true))
    → cond b (Some m) (find p ns) ≡ Some n → (p n ≡ true) × (q n ≡ true)
found_by p q m n ns true e here more h = let it : m ≡ n = same_Some m n h in (subst (λ k. p k ≡ true) it e, subst (λ k. q k ≡ true) it here)
found_by p q m n ns false e here more h = more h

-- The first that passes a test is among those that are tested.
pub found_passes : (p q : ℕ → Bool) (ns : List ℕ) (n : ℕ) → list_all q ns ≡ true → find p ns ≡ Some n → (p n ≡ true) × (q n ≡ true)
found_passes p q [] n all found = absurd cc
found_passes p q (m ∷ ns) n all found =
    let parts = and_parts (q m) (list_all q ns) all in
    found_by p q m n ns (p m) refl parts.0 (found_passes p q ns n parts.1) found

-- ---- Names, one after another

module _ (program : List Class) (look : Class → Option (ℕ × ℕ)) where
  is_some-or : (c : Class) (cs : List Class) (o : Option (ℕ × ℕ)) → look c ≡ o → is_some (first_in look (c ∷ cs)) ≡ (is_some o || is_some (first_in look cs))
  is_some-or c cs None e = rw e refl
  is_some-or c cs (Some x) e = rw e refl

  pub first_of_two : (xs ys : List Class) (o : Option (ℕ × ℕ)) → first_in look xs ≡ o → is_some (first_in look (xs ++ ys)) ≡ (is_some o || is_some (first_in look ys))
  first_of_two xs ys None e = ap (λ (x : Option (ℕ × ℕ)). is_some x) (first_in-append_none look xs ys e)
  first_of_two xs ys (Some x) e = ap (λ (x : Option (ℕ × ℕ)). is_some x) (first_in-append_some look xs ys x e)

  module _ (useful p : ℕ → Bool) (exact : (name : List ℕ) (n : ℕ) → class_number program name ≡ Some n → p n ≡ true → useful n ≡ is_some (first_in look (ancestry program name))) where
    none_above : (name : List ℕ) → class_number program name ≡ None → first_in look (ancestry program name) ≡ None
    none_above name number = ap (first_in look) (missing program (length program) name (unnamed program name number))

    here : (name : List ℕ) (o : Option ℕ) → class_number program name ≡ o → list_all p (to_list o) ≡ true → list_any useful (to_list o) ≡ is_some (first_in look (ancestry program name))
    here name None number all = ap (λ (x : Option (ℕ × ℕ)). is_some x) (sym (none_above name number))
    here name (Some n) number all = or_false (useful n) ∙ exact name n number (number_passes p (Some n) n refl all)
      where
        or_false : (b : Bool) → (b || false) ≡ b
        or_false true = refl
        or_false false = refl

    -- There is a match above classes of these names exactly if one of them is useful.
    pub any_found : (names : List (List ℕ)) → list_all p (numbers_of program names) ≡ true
        → list_any useful (numbers_of program names) ≡ is_some (first_in look (flat_map (ancestry program) names))
    any_found [] all = refl
    any_found (name ∷ names) all =
        let parts = first_numbers program p name names all in
        let one = here name (class_number program name) refl parts.0 in
        let more = any_found names parts.1 in
        list_any-append useful (to_list (class_number program name)) (numbers_of program names)
        ∙ (λ i. one i || more i)
        ∙ sym (first_of_two (ancestry program name) (flat_map (ancestry program) names) (first_in look (ancestry program name)) refl)

    -- The first match above classes of these names is the first above the first useful one.
    pub record LeadsOn (names : List (List ℕ)) (n : ℕ) : Type 0 where
      pub name : List ℕ
      pub number : class_number program name ≡ Some n
      pub same : first_in look (flat_map (ancestry program) names) ≡ first_in look (ancestry program name)

    none_of : (o : Option (ℕ × ℕ)) → is_some o ≡ false → o ≡ None
    none_of None e = refl
    none_of (Some x) e = absurd (false≢true (sym e))

    some_of : (o : Option (ℕ × ℕ)) → is_some o ≡ true → (x : ℕ × ℕ) × (o ≡ Some x)
    some_of None e = absurd (false≢true e)
    some_of (Some x) e = (x, refl)

    passed : (name : List ℕ) (names : List (List ℕ)) (n : ℕ) → first_in look (ancestry program name) ≡ None → LeadsOn names n → LeadsOn (name ∷ names) n
    passed name names n none l = record {
      name = l.name;
      number = l.number;
      same = first_in-append_none look (ancestry program name) (flat_map (ancestry program) names) none ∙ l.same;
    }

    lead_mark : (name : List ℕ) (names : List (List ℕ)) (n m : ℕ) (b : Bool) → class_number program name ≡ Some m → useful m ≡ b → p m ≡ true
        → (find useful (numbers_of program names) ≡ Some n → LeadsOn names n) → cond b (Some m) (find useful (numbers_of program names)) ≡ Some n → LeadsOn (name ∷ names) n
    lead_mark name names n m true number mark passes more h =
        let it : m ≡ n = same_Some m n h in
        let some = some_of (first_in look (ancestry program name)) (sym (exact name m number passes) ∙ mark) in
        record {
          name = name;
          number = number ∙ ap (λ k. Some k) it;
          same = first_in-append_some look (ancestry program name) (flat_map (ancestry program) names) some.0 some.1 ∙ sym some.1;
        }
    lead_mark name names n m false number mark passes more h =
        passed name names n (none_of (first_in look (ancestry program name)) (sym (exact name m number passes) ∙ mark)) (more h)

    lead_by : (name : List ℕ) (names : List (List ℕ)) (n : ℕ) (o : Option ℕ) → class_number program name ≡ o → list_all p (to_list o) ≡ true
        → (find useful (numbers_of program names) ≡ Some n → LeadsOn names n) → find useful (to_list o ++ numbers_of program names) ≡ Some n → LeadsOn (name ∷ names) n
    lead_by name names n None number all more h = passed name names n (none_above name number) (more h)
    lead_by name names n (Some m) number all more h = lead_mark name names n m (useful m) number refl (number_passes p (Some m) m refl all) more h

    pub leads_on : (names : List (List ℕ)) (n : ℕ) → list_all p (numbers_of program names) ≡ true → find useful (numbers_of program names) ≡ Some n → LeadsOn names n
    leads_on [] n all found = absurd cc
    leads_on (name ∷ names) n all found =
        let parts = first_numbers program p name names all in
        lead_by name names n (class_number program name) refl parts.0 (leads_on names n parts.1) found

    none_by : (m : ℕ) (ns : List ℕ) (b : Bool) → useful m ≡ b → (find useful ns ≡ None → list_any useful ns ≡ false) → cond b (Some m) (find useful ns) ≡ None → list_any useful (m ∷ ns) ≡ false
    none_by m ns true e more none = absurd cc
    none_by m ns false e more none = rw e (more none)

    find_none : (ns : List ℕ) → find useful ns ≡ None → list_any useful ns ≡ false
    find_none [] h = refl
    find_none (m ∷ ns) h = none_by m ns (useful m) refl (find_none ns) h

    -- There is no match above classes of these names if none is useful.
    pub none_found : (names : List (List ℕ)) → list_all p (numbers_of program names) ≡ true → find useful (numbers_of program names) ≡ None
        → first_in look (flat_map (ancestry program) names) ≡ None
    none_found names all none =
        none_of (first_in look (flat_map (ancestry program) names)) (sym (any_found names all) ∙ find_none (numbers_of program names) none)
