-- The numbers of the classes in each class's ancestry (own). A set of numbers is a persistent array, each item of which
-- has the bits of 32 numbers.
use Rattle.std.specs.Prelude.{◌≡◌, ℕ, ◌/◌, ◌%◌, ◌^◌, ◌<◌, Bool, false, ◌==◌, List, Option, Some, None, is_some, nat_eq, slice_get, ◌||◌}
use Rattle.std.specs.Int.{bit_at}
use Rattle.std.specs.List.{list_all, list_any}
use Rattle.std.specs.Option.{option_and_then, option_map}
use Rattle.jvms_program.specs.declared.program.Class.{Class}
use Rattle.jvms_program.specs.Program.{class_number}
use Rattle.jvms_program.specs.Resolution.{ancestry, names_class}
use Rattle.classes.specs.declared.class_sets.AncestorSets.{AncestorSets}
use Rattle.classes.specs.PersistentArrays.{IsTree, item_at}

-- Decides whether the set of a root has a number.
abbrev pub has_number : List (List ℕ) → ℕ → ℕ → ℕ → Bool
has_number nodes levels root n = bit_at (item_at nodes levels root (n / 32)) (n % 32) == 1

-- Decides whether a set, if there is one, has a number.
abbrev pub is_in_set : List (List ℕ) → ℕ → Option ℕ → ℕ → Bool
is_in_set nodes levels None n = false
is_in_set nodes levels (Some root) n = has_number nodes levels root n

-- Returns the root of the set of the class of a number.
abbrev pub root_at : List (Option ℕ) → ℕ → Option ℕ
root_at roots number = option_and_then (λ root. root) (slice_get roots number)

-- Decides whether each of these classes has its set.
abbrev pub are_known : List (Option ℕ) → List ℕ → Bool
are_known roots classes = list_all (λ n. is_some (root_at roots n)) classes

-- Each set is a tree of these nodes.
pub record AreTrees (nodes : List (List ℕ)) (levels : ℕ) (roots : List (Option ℕ)) : Type 0 where
  pub each : (m root : ℕ) → root_at roots m ≡ Some root → IsTree nodes levels root

-- The set has what the sets of these classes have.
pub record HasNumbersOf (nodes : List (List ℕ)) (levels : ℕ) (roots : List (Option ℕ)) (supers : List ℕ) (set : ℕ → Bool) : Type 0 where
  pub each : (n : ℕ) → set n ≡ list_any (λ s. is_in_set nodes levels (root_at roots s) n) supers

-- The set has a class and what the sets of these classes have.
pub record IsUnionOf (nodes : List (List ℕ)) (levels : ℕ) (roots : List (Option ℕ)) (class : ℕ) (supers : List ℕ) (set : ℕ → Bool) : Type 0 where
  pub each : (n : ℕ) → n / 32 < 4 ^ levels → set n ≡ (nat_eq n class || list_any (λ s. is_in_set nodes levels (root_at roots s) n) supers)

-- The set has the numbers of just the classes of an ancestry.
pub record IsAncestorSet (program : List Class) (c : Class) (set : ℕ → Bool) : Type 0 where
  pub each : (name : List ℕ) (n : ℕ) → class_number program name ≡ Some n → set n ≡ names_class name (ancestry program c.name)

-- Returns the set of the class of a number.
abbrev pub set_at : AncestorSets → ℕ → Option (ℕ → Bool)
set_at sets number = option_map (has_number sets.arrays.nodes.items sets.arrays.levels) (root_at sets.roots.items number)

-- Each class that its name finds has its set, or none.
pub record AreAncestorSets (program : List Class) (sets : AncestorSets) : Type 0 where
  pub each : (m : ℕ) (c : Class) (root : ℕ) → slice_get program m ≡ Some c → class_number program c.name ≡ Some m → root_at sets.roots.items m ≡ Some root
      → IsAncestorSet program c (has_number sets.arrays.nodes.items sets.arrays.levels root)
