-- Superclasses and superinterfaces by their numbers (own).
use Rattle.std.specs.Prelude.{◌≡◌, ℕ, Bool, true, false, nat_eq, nat_le, if◌then◌else◌, List, [], ◌∷◌, ◌++◌, length, Some, slice_get, slice_index_or, unwrap_or}
use Rattle.std.specs.List.{fold, list_all, list_any, IsDistinct}
use Rattle.jvms_program.specs.declared.program.Class.{Class}
use Rattle.jvms_program.specs.Program.{class_number}
use Rattle.jvms_program.specs.Resolution.{ancestry_within, names_class}
use Rattle.classes.specs.Hierarchy.{rank, super_rows}

-- Decides whether a class of a name is in the ancestry of one of these names, at most `most` classes up.
abbrev pub is_above : List Class → ℕ → List ℕ → List (List ℕ) → Bool
is_above program most name names = list_any (λ super. names_class name (ancestry_within most program super)) names

-- ---- Sets of numbers, in the order in which they were added

abbrev pub is_in : List ℕ → ℕ → Bool
is_in numbers n = list_any (nat_eq n) numbers

abbrev pub with_number : List ℕ → ℕ → List ℕ
with_number numbers n = if is_in numbers n then numbers else numbers ++ n ∷ []

abbrev pub with_numbers : List ℕ → List ℕ → List ℕ
with_numbers numbers more = fold with_number numbers more

-- Some numbers, all below a limit.
pub record Numbers : Type 0 where
  pub limit : ℕ
  pub numbers : List ℕ

-- Each of these numbers is marked, no other is, and each is there once.
pub record AreMarked (marks : List Bool) (numbers : List ℕ) : Type 0 where
  pub marked : (n : ℕ) → unwrap_or (slice_get marks n) false ≡ is_in numbers n
  pub once : IsDistinct nat_eq numbers

-- No class has a superclass or superinterface of a higher rank.
pub record Fall (rows : List (List ℕ)) (ranks : List ℕ) : Type 0 where
  pub fall : (m : ℕ) → list_all (λ n. nat_le (rank ranks n) (rank ranks m)) (slice_index_or rows m []) ≡ true

-- The numbers of each class's superclass and superinterfaces. If `falls` is true, ranks fall along them.
pub record AreSupersOf (program : List Class) (rows : List (List ℕ)) (ranks : List ℕ) (falls : Bool) : Type 0 where
  pub rows_are : rows ≡ super_rows program
  pub ranks_fall : falls ≡ true → Fall rows ranks

-- The numbers are those of all classes in the ancestries of these names.
pub record AreAllAbove (program : List Class) (names : List (List ℕ)) (numbers : List ℕ) : Type 0 where
  pub all : (name : List ℕ) (n : ℕ) → class_number program name ≡ Some n → is_in numbers n ≡ is_above program (length program) name names
