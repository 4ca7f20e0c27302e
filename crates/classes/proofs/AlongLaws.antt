-- One step of a search up superclasses, whose superinterfaces are searched.
use Rattle.std.proofs.Common.{◌≡◌, ℕ, Bool, true, ◌&&◌, List, length, Option, Some, None, refl, sym, ap, subst, ◌∙◌}
use Rattle.std.specs.List.{flat_map, list_all}
use Rattle.jvms_program.specs.declared.program.Class.{Class}
use Rattle.jvms_program.specs.Program.{class_named, class_number}
use Rattle.jvms_program.specs.Resolution.{ancestry, chain, first_in}
use Rattle.classes.specs.Hierarchy.{numbers_of, super_numbers, to_list}
use Rattle.classes.specs.Marks.{is_marked}
use Rattle.classes.specs.Searches.{IsClosed}
use Rattle.classes.specs.Starts.{classes_from, name_of}
use Rattle.classes.specs.declared.ancestors.Start.{Start}
use Rattle.classes.specs.declared.ancestors.Start.TheVariants as start
use Rattle.classes.proofs.HierarchyLaws.{missing, number_passes}
use Rattle.classes.proofs.NamesLaws.{along_missing, of_interfaces, of_superclass}
use Rattle.classes.proofs.PlaceLaws.{named_at}
use Rattle.classes.proofs.WalkLaws.{first_in-flat_map}

-- The first match in the ancestries of a class's superinterfaces.
abbrev pub in_interfaces : List Class → (Class → Option (ℕ × ℕ)) → Class → Option (ℕ × ℕ)
in_interfaces program look c = first_in look (flat_map (ancestry program) c.interfaces)

pub as_one : (program : List Class) (look : Class → Option (ℕ × ℕ)) (name : List ℕ)
    → first_in look (flat_map (λ (c : Class). flat_map (ancestry program) c.interfaces) (chain program name)) ≡ first_in (in_interfaces program look) (chain program name)
as_one program look name = first_in-flat_map look (λ (c : Class). flat_map (ancestry program) c.interfaces) (chain program name)

module _ (program : List Class) (reached : List ℕ) (closed : IsClosed program reached) (name : List ℕ) (n : ℕ) (c : Class)
    (all : list_all (is_marked reached) (to_list (class_number program name)) ≡ true) (number : Some n ≡ class_number program name) (is : Some c ≡ class_named program name) where
  above : list_all (is_marked reached) (super_numbers program c) ≡ true
  above =
      closed.closed n c (named_at program name n (sym number) ∙ sym is) (number_passes (is_marked reached) (class_number program name) n (sym number) all)

  pub interfaces_reached : (seen : List (List ℕ)) → seen ≡ c.interfaces → list_all (is_marked reached) (numbers_of program seen) ≡ true
  interfaces_reached seen e = subst (λ (names : List (List ℕ)). list_all (is_marked reached) (numbers_of program names) ≡ true) (sym e) (of_interfaces program (is_marked reached) c above)

  pub superclass_reached : (super : List ℕ) → Some super ≡ c.superclass → list_all (is_marked reached) (to_list (class_number program super)) ≡ true
  superclass_reached super e = of_superclass program (is_marked reached) c super above (sym e)

-- If the class of a name isn't there, there is no match from it on.
pub none_from : (program : List Class) (look : Class → Option (ℕ × ℕ)) (start : Start) → class_named program (name_of start) ≡ None → None ≡ first_in look (classes_from program start)
none_from program look (start.Class name) h = sym (ap (first_in look) (missing program (length program) name.now h))
none_from program look (start.Interfaces name) h = rw h refl
none_from program look (start.InterfacesUp name) h =
    sym (as_one program look name.now ∙ along_missing program (in_interfaces program look) (length program) name.now h)

pub one_passes : (p : ℕ → Bool) (o : Option ℕ) (n : ℕ) → Some n ≡ o → p n ≡ true → list_all p (to_list o) ≡ true
one_passes p o n is passes = subst (λ (o : Option ℕ). list_all p (to_list o) ≡ true) is (λ i. passes i && true)
