-- Steps of a search through the ancestry of a class.
use Rattle.std.proofs.Common.{◌≡◌, ℕ, zero, suc, Bool, true, false, cond, ◌+◌, ◌<◌, List, [], ◌∷◌, ◌++◌, length, drop, get_or, Option, Some, None, refl, add-one, drop-cons, arith}
use Rattle.std.specs.Prelude.{is_some}
use Rattle.std.specs.List.{flat_map, list_any}
use Rattle.jvms_file.specs.Names.{same_text}
use Rattle.jvms_program.specs.declared.program.Class.{Class}
use Rattle.jvms_program.specs.Program.{class_named}
use Rattle.jvms_program.specs.Resolution.{ancestry_within, first_in}

module _ {A : Type 0} (look : Class → Option A) where
  -- ---- One list after another

  append_some_by : (o : Option A) (xs ys : List Class) (c : Class) (x : A) → o ≡ look c → (first_in look xs ≡ Some x → first_in look (xs ++ ys) ≡ Some x)
      → first_in look (c ∷ xs) ≡ Some x → first_in look (c ∷ xs ++ ys) ≡ Some x
  append_some_by None xs ys c x e more h = rw (← e) (more (rw (← e) at h))
  append_some_by (Some y) xs ys c x e more h = rw (← e) (rw (← e) at h)

  pub first_in-append_some : (xs ys : List Class) (x : A) → first_in look xs ≡ Some x → first_in look (xs ++ ys) ≡ Some x
  first_in-append_some [] ys x h = cc
  first_in-append_some (c ∷ xs) ys x h = append_some_by (look c) xs ys c x refl (first_in-append_some xs ys x) h

  append_none_by : (o : Option A) (xs ys : List Class) (c : Class) → o ≡ look c → (first_in look xs ≡ None → first_in look (xs ++ ys) ≡ first_in look ys)
      → first_in look (c ∷ xs) ≡ None → first_in look (c ∷ xs ++ ys) ≡ first_in look ys
  append_none_by None xs ys c e more h = rw (← e) (more (rw (← e) at h))
  append_none_by (Some y) xs ys c e more h = let g : Some y ≡ None = rw (← e) at h in cc

  pub first_in-append_none : (xs ys : List Class) → first_in look xs ≡ None → first_in look (xs ++ ys) ≡ first_in look ys
  first_in-append_none [] ys h = refl
  first_in-append_none (c ∷ xs) ys h = append_none_by (look c) xs ys c refl (first_in-append_none xs ys) h

  -- ---- Through lists of names, from the i-th on

  pub names_past : (classes_of : List ℕ → List Class) (names : List (List ℕ)) (i : ℕ) (name : List ℕ) → i < length names → name ≡ get_or names i name
      → first_in look (classes_of name) ≡ None
      → first_in look (flat_map classes_of (drop i names)) ≡ first_in look (flat_map classes_of (drop (i + 1) names))
  names_past classes_of names i name h e none =
      rw (add-one, drop-cons names i name, ← e) (first_in-append_none (classes_of name) _ none)

  pub names_found : (classes_of : List ℕ → List Class) (names : List (List ℕ)) (i : ℕ) (name : List ℕ) (x : A) → i < length names → name ≡ get_or names i name
      → first_in look (classes_of name) ≡ Some x → first_in look (flat_map classes_of (drop i names)) ≡ Some x
  names_found classes_of names i name x h e some =
      rw (drop-cons names i name, ← e) (first_in-append_some (classes_of name) _ x some)

  -- ---- Through the ancestry

  pub above_found : (most : ℕ) (program : List Class) (name : List ℕ) (c : Class) (x : A) → 0 < most → Some c ≡ class_named program name
      → Some x ≡ look c → Some x ≡ first_in look (ancestry_within most program name)
  unfolding ancestry_within
  above_found zero program name c x m h l = absurd (omega arith)
  above_found (suc most) program name c x m h l = rw (← h) (rw (← l) refl)

-- A search through lists of classes is one search of each list after another.
flat_step : {A : Type 0} (look : Class → Option A) (classes_of : Class → List Class) (c : Class) (cs : List Class) (o : Option A) → first_in look (classes_of c) ≡ o
    → first_in look (flat_map classes_of cs) ≡ first_in (λ d. first_in look (classes_of d)) cs
    → first_in look (classes_of c ++ flat_map classes_of cs) ≡ first_in (λ d. first_in look (classes_of d)) (c ∷ cs)
flat_step look classes_of c cs None h e = rw (first_in-append_none look (classes_of c) (flat_map classes_of cs) h) (rw h e)
flat_step look classes_of c cs (Some x) h e = rw (first_in-append_some look (classes_of c) (flat_map classes_of cs) x h) (rw h refl)

pub first_in-flat_map : {A : Type 0} (look : Class → Option A) (classes_of : Class → List Class) (cs : List Class)
    → first_in look (flat_map classes_of cs) ≡ first_in (λ c. first_in look (classes_of c)) cs
first_in-flat_map look classes_of [] = refl
first_in-flat_map look classes_of (c ∷ cs) = flat_step look classes_of c cs (first_in look (classes_of c)) refl (first_in-flat_map look classes_of cs)

-- A class of a name is among some.
named_by : (name : List ℕ) (c : Class) (cs : List Class) (p : Bool) → same_text c.name name ≡ p
    → is_some {T = ℕ × ℕ} (first_in (λ (d : Class). cond (same_text d.name name) (Some (0, 0)) None) cs) ≡ list_any (λ (d : Class). same_text d.name name) cs
    → is_some {T = ℕ × ℕ} (first_in (λ (d : Class). cond (same_text d.name name) (Some (0, 0)) None) (c ∷ cs)) ≡ list_any (λ (d : Class). same_text d.name name) (c ∷ cs)
named_by name c cs true e h = rw e refl
named_by name c cs false e h = rw e h

pub first_in_named : (name : List ℕ) (cs : List Class)
    → is_some {T = ℕ × ℕ} (first_in (λ (c : Class). cond (same_text c.name name) (Some (0, 0)) None) cs) ≡ list_any (λ (c : Class). same_text c.name name) cs
first_in_named name [] = refl
first_in_named name (c ∷ cs) = named_by name c cs (same_text c.name name) refl (first_in_named name cs)

pub ruleset appended = (first_in-append_none, first_in-append_some, first_in-flat_map)
