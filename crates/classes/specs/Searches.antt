-- Searches through the ancestries of classes, which mark classes by their numbers (own).
use Rattle.std.specs.Prelude.{◌≡◌, ℕ, ◌≤◌, true, List, Option, Some, is_some, slice_get}
use Rattle.std.specs.List.{list_all}
use Rattle.jvms_program.specs.declared.program.Class.{Class}
use Rattle.jvms_program.specs.Program.{class_number}
use Rattle.jvms_program.specs.Resolution.{ancestry, first_in}
use Rattle.classes.specs.Hierarchy.{rank, super_numbers}
use Rattle.classes.specs.Marks.{is_marked}

-- If a class is marked, so are its superclass and its superinterfaces.
pub record IsClosed (program : List Class) (marks : List ℕ) : Type 0 where
  pub closed : (m : ℕ) (c : Class) → slice_get program m ≡ Some c → is_marked marks m ≡ true → list_all (is_marked marks) (super_numbers program c) ≡ true

-- A class and all classes above it are marked, and none that comes after it in the order.
pub record AreAbove (program : List Class) (ranks : List ℕ) (class : ℕ) (marks : List ℕ) : Type 0 where
  pub itself : is_marked marks class ≡ true
  pub above : IsClosed program marks
  pub below : (m : ℕ) → is_marked marks m ≡ true → rank ranks m ≤ rank ranks class

-- A reached class is marked as useful exactly if there is a match in its ancestry.
pub record AreUseful (program : List Class) (look : Class → Option (ℕ × ℕ)) (reached useful : List ℕ) : Type 0 where
  pub exact : (name : List ℕ) (n : ℕ) → class_number program name ≡ Some n → is_marked reached n ≡ true → is_marked useful n ≡ is_some (first_in look (ancestry program name))
