-- An order of a class's members by name and descriptor, in which a look-up halves what is left (own).
use Rattle.std.specs.Prelude.{◌≡◌, ℕ, ◌+◌, ◌<◌, Bool, ◌&&◌, List, [], length, Option, Some, None, slice_get, slice_index}
use Rattle.std.specs.Cmp.Lexicographic.{slice_cmp}
use Rattle.std.specs.List.{Contains, position}
use Rattle.std.specs.Ordering.{nat_cmp, ordering_then}
use Rattle.std.specs.declared.cmp.Ordering.{Ordering}
use Rattle.std.specs.declared.cmp.Ordering.TheVariants.{Less}
use Rattle.jvms_file.specs.Names.{same_text}

-- A member's name and its descriptor.
abbrev pub Names : Type 0
Names = List ℕ × List ℕ

-- Compares the names, and if they are equal the descriptors.
abbrev pub names_cmp : Names → Names → Ordering
names_cmp a b = ordering_then (slice_cmp nat_cmp a.0 b.0) (slice_cmp nat_cmp a.1 b.1)

-- Decides whether a member has this name and descriptor.
abbrev pub is_named : {A : Type 0} → (A → Names) → List ℕ → List ℕ → A → Bool
is_named names name descriptor m = same_text (names m).0 name && same_text (names m).1 descriptor

-- Decides whether a member has this name.
abbrev pub has_name : {A : Type 0} → (A → Names) → List ℕ → A → Bool
has_name names name m = same_text (names m).0 name

-- Returns the name and the descriptor of the member of a number, or empty ones if there is no such member.
abbrev pub names_or_empty : {A : Type 0} → (A → Names) → Option A → Names
names_or_empty names None = ([], [])
names_or_empty names (Some m) = names m

abbrev pub names_at : {A : Type 0} → (A → Names) → List A → ℕ → Names
names_at names items number = names_or_empty names (slice_get items number)

-- Each member is the first with its name and descriptor.
pub record AreDistinct {A : Type 0} (names : A → Names) (items : List A) : Type 0 where
  pub first : (n : ℕ) (m : A) → slice_get items n ≡ Some m → position (is_named names (names m).0 (names m).1) items ≡ Some n

-- Each number of the order is below that of the next by its member's name and descriptor.
pub record IsRising {A : Type 0} (names : A → Names) (items : List A) (order : List ℕ) : Type 0 where
  pub rises : (k : ℕ) → k + 1 < length order → names_cmp (names_at names items (slice_index order k)) (names_at names items (slice_index order (k + 1))) ≡ Less

-- The order has the numbers of all members and no others.
pub record AreNumbers {A : Type 0} (items : List A) (order : List ℕ) : Type 0 where
  pub covers : (n : ℕ) → n < length items → Contains order n
  pub within : (n : ℕ) → Contains order n → n < length items
