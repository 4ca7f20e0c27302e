-- The names and descriptors that the classes of a program declare (own).
use Rattle.std.specs.Prelude.{◌≡◌, ℕ, ◌||◌, Bool, true, List, [], None, map}
use Rattle.std.specs.Borrow.{Bor}
use Rattle.std.specs.BTreeSet.{BTreeSet, contains}
use Rattle.std.specs.declared.cmp.Ordering.{Ordering}
use Rattle.std.specs.List.{flat_map, list_any}
use Rattle.std.specs.Option.{option_and_then}
use Rattle.jvms_program.specs.declared.program.Class.{Class}
use Rattle.jvms_program.specs.declared.program.Field.{Field}
use Rattle.jvms_program.specs.declared.program.Method.{Method}
use Rattle.jvms_program.specs.MemberOrders.{Names, is_named, names_cmp}
use Rattle.jvms_program.specs.Program.{class_named}
use Rattle.jvms_program.specs.Resolution.{declared_field, declared_method}
use Rattle.classes.specs.declared.declarations.DeclaredNames.{DeclaredNames}

-- Returns the name and the descriptor.
abbrev pub names_of : DeclaredNames → Names
names_of d = (d.name, d.descriptor)

-- Decides whether a name and a descriptor are among some.
abbrev pub is_among : List DeclaredNames → List ℕ → List ℕ → Bool
is_among declared name descriptor = list_any (is_named names_of name descriptor) declared

abbrev pub field_names : Field → DeclaredNames
field_names f = record { name = f.name; descriptor = f.descriptor }

abbrev pub method_names : Method → DeclaredNames
method_names m = record { name = m.name; descriptor = m.descriptor }

-- Returns the names and descriptors of the fields that these classes declare.
abbrev pub fields_of : List Class → List DeclaredNames
fields_of classes = flat_map (λ c. map field_names c.fields) classes

-- Returns the names and descriptors of the methods that these classes declare.
abbrev pub methods_of : List Class → List DeclaredNames
methods_of classes = flat_map (λ c. map method_names c.methods) classes

-- The new ones are the old ones and some more.
pub record Adds (old more new : List DeclaredNames) : Type 0 where
  pub each : (name descriptor : List ℕ) → is_among new name descriptor ≡ (is_among old name descriptor || is_among more name descriptor)

-- These are the names and descriptors that members declare, whatever their order and number.
abbrev pub AreThoseOf : List DeclaredNames → List DeclaredNames → Type 0
AreThoseOf members declared = Adds [] members declared

-- Compares a name and a descriptor with others, as they are borrowed.
abbrev pub borrowed_cmp : Bor (List ℕ) × Bor (List ℕ) → Bor (List ℕ) × Bor (List ℕ) → Ordering
borrowed_cmp a b = names_cmp (a.0.now, a.1.now) (b.0.now, b.1.now)

-- A name and a descriptor that were seen are among those that are declared.
pub record AreSeen (declared : List DeclaredNames) (seen : BTreeSet (Bor (List ℕ) × Bor (List ℕ))) : Type 0 where
  pub each : (names : Bor (List ℕ) × Bor (List ℕ)) → contains borrowed_cmp seen names ≡ true → is_among declared names.0.now names.1.now ≡ true

-- No class of the program declares a field of this name and descriptor.
abbrev pub HasNoField : List Class → List ℕ → List ℕ → Type 0
HasNoField program name descriptor =
    (class : List ℕ) → option_and_then (declared_field name descriptor) (class_named program class) ≡ None

-- No class of the program declares a method of this name and descriptor.
abbrev pub HasNoMethod : List Class → List ℕ → List ℕ → Type 0
HasNoMethod program name descriptor =
    (class : List ℕ) → option_and_then (declared_method name descriptor) (class_named program class) ≡ None
