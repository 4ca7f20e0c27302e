-- Slots of fields, counted class by class (own).
use Rattle.std.specs.Prelude.{◌≡◌, ℕ, Bool, true, false, not, ◌+◌, ◌-◌, ◌*◌, ◌<◌, ◌≤◌, ◌^◌, List, [], ◌∷◌, length, Option, Some, None, slice_get, unwrap_or}
use Rattle.std.specs.List.{AllByRecursion, count_by, position_from}
use Rattle.std.specs.Option.{option_map, option_or}
use Rattle.jvms_program.specs.declared.key.FieldKey.{FieldKey}
use Rattle.jvms_program.specs.declared.program.Class.{Class}
use Rattle.jvms_program.specs.declared.program.Field.{Field}
use Rattle.jvms_program.specs.Program.{class_number}
use Rattle.jvms_program.specs.Slots.{keys_where, same_key, slot_of, static_slot_of}
use Rattle.classes.specs.declared.slot_starts.FieldStarts.{FieldStarts}

-- Decides whether a field is static, or isn't, as asked.
abbrev pub is_static_or_not : Bool → Field → Bool
is_static_or_not true f = f.is_static
is_static_or_not false f = not f.is_static

-- Returns the place of the field of a key among a class's static fields, or among its instance fields.
abbrev pub place_among : Bool → FieldKey → Class → Option ℕ
place_among static key c = position_from (λ k. same_key k key) 0 (keys_where (is_static_or_not static) c)

-- Returns the number of a class's static fields, or of its instance fields.
abbrev pub count_of : Bool → Class → ℕ
count_of static c = count_by (is_static_or_not static) c.fields

-- Returns the slot of an instance field in a chain with one more topmost superclass, from its slot without that class.
-- The fields of the topmost superclass come first.
abbrev pub slot_under : FieldKey → Option ℕ → Class → Option ℕ
slot_under key slot top = option_or (place_among false key top) (option_map (λ n. n + count_of false top) slot)

-- Returns the number of slots up to one.
abbrev pub up_to : Option ℕ → ℕ
up_to None = 0
up_to (Some slot) = slot + 1

-- The number of classes times the greatest number of fields of any doesn't overflow 64 bits.
pub record AreCountable (program : List Class) : Type 0 where
  pub most : ℕ
  pub within : AllByRecursion (λ c. length c.fields ≤ most) program
  pub fit : length program * most < 2 ^ 64

-- ---- The first slots of each class's fields

-- Returns the number of static fields of classes, or of their instance fields.
abbrev pub count_of_all : Bool → List Class → ℕ
count_of_all static [] = 0
count_of_all static (c ∷ cs) = count_of static c + count_of_all static cs

-- Returns the total of the class of a number, if there is one.
abbrev pub total_or_zero : List ℕ → Option ℕ → ℕ
total_or_zero totals None = 0
total_or_zero totals (Some number) = unwrap_or (slice_get totals number) 0

-- Returns the total of a superclass, or 0.
abbrev pub total_above : List Class → List ℕ → Option (List ℕ) → ℕ
total_above program totals None = 0
total_above program totals (Some superclass) = total_or_zero totals (class_number program superclass)

-- The slots of a class's static fields are consecutive from a start on, or those of its instance fields.
pub record AreSlotsFrom (static : Bool) (c : Class) (slot : FieldKey → Option ℕ) (start : ℕ) : Type 0 where
  pub each : (key : FieldKey) (place : ℕ) → place_among static key c ≡ Some place → slot key ≡ Some (start + place)
  pub fit : start + length c.fields < 2 ^ 64

-- A class's total: the number of instance fields of its superclasses and its own. Its own slots come last.
pub record IsTotal (program : List Class) (c : Class) (total : ℕ) : Type 0 where
  pub within : count_of false c ≤ total
  pub slots : AreSlotsFrom false c (slot_of program c.name) (total - count_of false c)

-- The total of each class that its name finds.
pub record AreTotals (program : List Class) (totals : List ℕ) : Type 0 where
  pub each : (n : ℕ) (c : Class) (total : ℕ) → slice_get program n ≡ Some c → class_number program c.name ≡ Some n → slice_get totals n ≡ Some total → IsTotal program c total

-- The slots of a class's fields begin at these numbers.
pub record AreStarts (program : List Class) (c : Class) (starts : FieldStarts) : Type 0 where
  pub statics : AreSlotsFrom true c (static_slot_of program) starts.statics
  pub instances : AreSlotsFrom false c (slot_of program c.name) starts.instances

-- The first slots of each class's fields. Those of some classes are unknown.
pub record AreStartsOf (program : List Class) (starts : List (Option FieldStarts)) : Type 0 where
  pub each : (n : ℕ) (c : Class) (s : FieldStarts) → slice_get program n ≡ Some c → slice_get starts n ≡ Some (Some s) → AreStarts program c s
