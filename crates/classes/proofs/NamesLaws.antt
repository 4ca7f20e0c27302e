-- Searches above classes of some names, one after another, and up superclasses.
use Rattle.std.proofs.Common.{◌≡◌, ℕ, zero, suc, ◌+◌, ◌-◌, ◌<◌, Bool, true, false, List, [], ◌∷◌, ◌++◌, length, drop, get_or, Option, Some, None, refl, sym, ap, subst, ◌∙◌, arith, sub-one}
use Rattle.std.specs.Prelude.{is_some}
use Rattle.std.specs.List.{flat_map, list_all}
use Rattle.std.proofs.lemmas.Bool.{false≢true}
use Rattle.jvms_program.specs.declared.program.Class.{Class}
use Rattle.jvms_program.specs.Program.{class_named, class_number}
use Rattle.jvms_program.specs.Resolution.{ancestry, chain_within, first_in}
use Rattle.classes.specs.Hierarchy.{numbers_of, super_numbers, to_list}
use Rattle.classes.proofs.HierarchyLaws.{first_numbers, missing, number_passes}
use Rattle.std.proofs.lemmas.List.Folds.{list_all-append}
use Rattle.std.proofs.lemmas.List.Concat.{flat_map-append}
use Rattle.std.proofs.lemmas.Bool.{and_parts}
use Rattle.std.proofs.lemmas.List.{append-nil}
use Rattle.classes.proofs.PlaceLaws.{unnamed}
use Rattle.classes.proofs.WalkLaws.{names_past, names_found}

-- A property of the numbers of names holds for the number of each.
pub nth_passes : (program : List Class) (p : ℕ → Bool) (names : List (List ℕ)) (i : ℕ) (name : List ℕ) (n : ℕ) → list_all p (numbers_of program names) ≡ true → i < length names
    → name ≡ get_or names i name → class_number program name ≡ Some n → p n ≡ true
nth_passes program p [] i name n all within is number = absurd (omega arith)
nth_passes program p (first ∷ names) zero name n all within is number =
    number_passes p (class_number program first) n (ap (class_number program) (sym is) ∙ number) (first_numbers program p first names all).0
nth_passes program p (first ∷ names) (suc i) name n all within is number =
    nth_passes program p names i name n (first_numbers program p first names all).1 (omega arith) is number

module _ (program : List Class) (look : Class → Option (ℕ × ℕ)) where
  none_of : (o : Option (ℕ × ℕ)) → is_some o ≡ false → o ≡ None
  none_of None e = refl
  none_of (Some x) e = absurd (false≢true (sym e))

  some_of : (o : Option (ℕ × ℕ)) → is_some o ≡ true → (x : ℕ × ℕ) × (o ≡ Some x)
  some_of None e = absurd (false≢true e)
  some_of (Some x) e = (x, refl)

  -- There is no match above the class of the next name.
  pub goes_past : (names : List (List ℕ)) (i : ℕ) (name : List ℕ) (whole : Option (ℕ × ℕ)) → i < length names → name ≡ get_or names i name → is_some (first_in look (ancestry program name)) ≡ false
      → whole ≡ first_in look (flat_map (ancestry program) (drop i names)) → whole ≡ first_in look (flat_map (ancestry program) (drop (i + 1) names))
  goes_past names i name whole within is not prior =
      prior ∙ names_past look (ancestry program) names i name within is (none_of (first_in look (ancestry program name)) not)

  -- The class of the next name isn't there.
  pub not_there : (name : List ℕ) → class_number program name ≡ None → is_some (first_in look (ancestry program name)) ≡ false
  not_there name number = ap (λ (cs : List Class). is_some (first_in look cs)) (missing program (length program) name (unnamed program name number))

  -- The match is above the class of the next name.
  pub stops_here : (names : List (List ℕ)) (i : ℕ) (name : List ℕ) (whole : Option (ℕ × ℕ)) → i < length names → name ≡ get_or names i name → is_some (first_in look (ancestry program name)) ≡ true
      → whole ≡ first_in look (flat_map (ancestry program) (drop i names)) → first_in look (ancestry program name) ≡ whole
  stops_here names i name whole within is there prior =
      let some = some_of (first_in look (ancestry program name)) there in
      some.1 ∙ sym (prior ∙ names_found look (ancestry program) names i name some.0 within is some.1)

-- ---- Up superclasses

module _ (program : List Class) (look : Class → Option (ℕ × ℕ)) where
  chain_step : (most : ℕ) (name : List ℕ) (c : Class) → class_named program name ≡ Some c → look c ≡ None → c.superclass ≡ None → first_in look (chain_within (suc most) program name) ≡ None
  unfolding chain_within
  chain_step most name c h l s = rw h (rw l (rw s refl))

  pub along_missing : (left : ℕ) (name : List ℕ) → class_named program name ≡ None → first_in look (chain_within left program name) ≡ None
  unfolding chain_within
  along_missing zero name h = refl
  along_missing (suc left) name h = rw h refl

  pub along_found : (left : ℕ) (name : List ℕ) (c : Class) (x : ℕ × ℕ) → 0 < left → class_named program name ≡ Some c → look c ≡ Some x → first_in look (chain_within left program name) ≡ Some x
  unfolding chain_within
  along_found zero name c x m h l = absurd (omega arith)
  along_found (suc left) name c x m h l = rw h (rw l refl)

  pub along_top : (left : ℕ) (name : List ℕ) (c : Class) → class_named program name ≡ Some c → look c ≡ None → c.superclass ≡ None → first_in look (chain_within left program name) ≡ None
  unfolding chain_within
  along_top zero name c h l s = refl
  along_top (suc left) name c h l s = chain_step left name c h l s

  pub along_next : (left : ℕ) (name super : List ℕ) (c : Class) → 0 < left → class_named program name ≡ Some c → look c ≡ None → c.superclass ≡ Some super
      → first_in look (chain_within left program name) ≡ first_in look (chain_within (left - 1) program super)
  unfolding chain_within
  along_next zero name super c m h l s = absurd (omega arith)
  along_next (suc left) name super c m h l s = rw h (rw l (rw s (rw sub-one refl)))

  pub along_end : (left : ℕ) (name : List ℕ) → left ≡ 0 → first_in look (chain_within left program name) ≡ None
  unfolding chain_within
  along_end left name e = rw e refl

-- ---- Numbers of a class's superinterfaces, and of its superclass

numbers-append : (program : List Class) (xs ys : List (List ℕ)) → numbers_of program (xs ++ ys) ≡ numbers_of program xs ++ numbers_of program ys
numbers-append program xs ys = flat_map-append (λ name. to_list (class_number program name)) xs ys

supers_by : (program : List Class) (p : ℕ → Bool) (c : Class) (s : Option (List ℕ)) → c.superclass ≡ s → list_all p (super_numbers program c) ≡ true
    → (list_all p (numbers_of program c.interfaces) ≡ true) × ((super : List ℕ) → s ≡ Some super → list_all p (to_list (class_number program super)) ≡ true)
supers_by program p c None e all =
    let whole : list_all p (numbers_of program (c.interfaces ++ [])) ≡ true = rw e at all in
    (subst (λ (names : List (List ℕ)). list_all p (numbers_of program names) ≡ true) (append-nil c.interfaces) whole, λ super is. absurd cc)
supers_by program p c (Some super) e all =
    let whole : list_all p (numbers_of program (c.interfaces ++ super ∷ [])) ≡ true = rw e at all in
    let parts = and_parts (list_all p (numbers_of program c.interfaces)) (list_all p (numbers_of program (super ∷ [])))
    (sym (list_all-append p (numbers_of program c.interfaces) (numbers_of program (super ∷ []))) ∙ ap (list_all p) (sym (numbers-append program c.interfaces (super ∷ []))) ∙ whole) in
    let first = first_numbers program p super [] parts.1 in
    (parts.0, λ other is. let same : super ≡ other = cc in subst (λ (name : List ℕ). list_all p (to_list (class_number program name)) ≡ true) same first.0)

-- A property of the supers of a class holds for its superinterfaces, and for its superclass.
pub of_interfaces : (program : List Class) (p : ℕ → Bool) (c : Class) → list_all p (super_numbers program c) ≡ true → list_all p (numbers_of program c.interfaces) ≡ true
of_interfaces program p c all = (supers_by program p c c.superclass refl all).0

pub of_superclass : (program : List Class) (p : ℕ → Bool) (c : Class) (super : List ℕ) → list_all p (super_numbers program c) ≡ true → c.superclass ≡ Some super → list_all p (to_list (class_number program super)) ≡ true
of_superclass program p c super all is = (supers_by program p c c.superclass refl all).1 super is
