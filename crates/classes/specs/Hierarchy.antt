-- The hierarchy of a program's classes (JVMS 5.3.5): superclasses and superinterfaces by their numbers, and an order in
-- which each class comes after its own.
use Rattle.std.specs.Prelude.{◌≡◌, ℕ, ◌<◌, ◌≤◌, ◌&&◌, Bool, true, nat_lt, List, [], ◌∷◌, map, length, Option, Some, None, slice_get, slice_index_or, unwrap_or}
use Rattle.std.specs.List.{flat_map, list_all}
use Rattle.jvms_program.specs.declared.program.Class.{Class}
use Rattle.jvms_program.specs.Program.{class_number}
use Rattle.jvms_program.specs.Resolution.{chain, supers_of}

-- ---- Numbers

abbrev pub to_list : Option ℕ → List ℕ
to_list None = []
to_list (Some n) = n ∷ []

-- Returns the numbers of the classes of these names that are there.
abbrev pub numbers_of : List Class → List (List ℕ) → List ℕ
numbers_of program names = flat_map (λ name. to_list (class_number program name)) names

-- Returns the numbers of a class's superinterfaces and of its superclass.
abbrev pub super_numbers : List Class → Class → List ℕ
super_numbers program c = numbers_of program (supers_of c)

-- Returns the numbers of the superinterfaces and the superclass of each class of the program.
abbrev pub super_rows : List Class → List (List ℕ)
super_rows program = map (super_numbers program) program

-- Returns the chain of a superclass, or no classes if there is none.
abbrev pub chain_up : List Class → Option (List ℕ) → List Class
chain_up program None = []
chain_up program (Some name) = chain program name

-- ---- The order

-- Returns the place of a class in the order.
abbrev pub rank : List ℕ → ℕ → ℕ
rank ranks number = unwrap_or (slice_get ranks number) 0

-- Decides whether the superinterfaces and the superclass of a class are there, and come before it.
abbrev pub come_before : List (List ℕ) → List ℕ → ℕ → Bool
come_before rows ranks m = list_all (λ n. nat_lt n (length rows) && nat_lt (rank ranks n) (rank ranks m)) (slice_index_or rows m [])

-- Each class has its place in the order, after its superclass and its superinterfaces.
pub record ArePlaced (rows : List (List ℕ)) (ranks order : List ℕ) : Type 0 where
  pub placed : (m : ℕ) → m < length rows → (rank ranks m < length order) × (slice_index_or order (rank ranks m) 0 ≡ m)
  pub rises : (m : ℕ) → m < length rows → come_before rows ranks m ≡ true

-- Each item of the order is the number of a class, and that class has its place.
pub record AreFound (count : ℕ) (ranks order : List ℕ) : Type 0 where
  pub few : length order ≤ count
  pub found : (place : ℕ) → place < length order → (slice_index_or order place 0 < count) × (rank ranks (slice_index_or order place 0) ≡ place)

-- The numbers of all superclasses and superinterfaces, and an order of the classes.
pub record IsHierarchyOf (program : List Class) (rows : List (List ℕ)) (ranks order : List ℕ) : Type 0 where
  pub rows_are : rows ≡ super_rows program
  pub placed : ArePlaced rows ranks order
  pub found : AreFound (length rows) ranks order
