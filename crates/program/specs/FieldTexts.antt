-- The strings that static fields have as constants (JVMS 4.7.2).
use Rattle.std.specs.Prelude.{◌≡◌, ℕ, Bool, true, false, not, List, length, take, Option, Some, None}
use Rattle.std.specs.BTreeSet.{BTreeSet, contains}
use Rattle.std.specs.Borrow.{Bor}
use Rattle.std.specs.Cmp.Lexicographic.{slice_cmp}
use Rattle.std.specs.List.{list_any}
use Rattle.std.specs.Ordering.{nat_cmp}
use Rattle.std.specs.declared.cmp.Ordering.{Ordering}
use Rattle.std.specs.declared.vec.Vec.{Vec}
use Rattle.std.specs.declared.alloc.Global.{Global}
use Rattle.jvms_file.specs.Names.{same_text}
use Rattle.jvms_program.specs.declared.program.Class.{Class}
use Rattle.jvms_program.specs.declared.program.Field.{Field}
use Rattle.jvms_program.specs.declared.program.Loadable.{Loadable}
use Rattle.jvms_program.specs.declared.program.Loadable.TheVariants as loadable
use Rattle.program.specs.Tables.{AreEntriesFor}

-- Returns the units of a static field's constant, if it is a string.
abbrev pub text_constant : Bool → Option Loadable → Option (List ℕ)
text_constant true (Some (loadable.String units)) = Some units
text_constant _ _ = None

abbrev pub constant_text : Field → Option (List ℕ)
constant_text f = text_constant f.is_static f.constant

abbrev pub is_same : List ℕ → Option (List ℕ) → Bool
is_same units None = false
is_same units (Some text) = same_text text units

abbrev pub has_constant_text : List ℕ → Field → Bool
has_constant_text units f = is_same units (constant_text f)

-- Compares strings, as they are borrowed.
abbrev pub texts_cmp : Bor (List ℕ) → Bor (List ℕ) → Ordering
texts_cmp a b = slice_cmp nat_cmp a.now b.now

-- Decides whether there is a string, and none of these fields has it as its constant.
abbrev pub is_not_among : List Field → Option (List ℕ) → Bool
is_not_among before None = false
is_not_among before (Some units) = not (list_any (has_constant_text units) before)

-- Decides whether the field at a place has a string, and none before it has the same.
abbrev pub is_first_text : List Field → ℕ → Field → Bool
is_first_text fields place f = is_not_among (take place fields) (constant_text f)

-- These are the strings of fields.
pub record AreTextsOf (fields : List Field) (texts : BTreeSet (Bor (List ℕ))) : Type 0 where
  pub each : (units : Bor (List ℕ)) → contains texts_cmp texts units ≡ list_any (has_constant_text units.now) fields

-- ---- A table of them

abbrev pub IsFirstText : List Field → ℕ → Field → Bool → Type 0
IsFirstText fields place f is_first = is_first ≡ is_first_text fields place f

-- There is a right answer for each field.
abbrev pub AreFirstTextsOfClass : ℕ → Class → Vec Bool Global → Type 0
AreFirstTextsOfClass number c firsts = AreEntriesFor (IsFirstText c.fields) c.fields firsts.items × (length firsts.items ≡ length c.fields)

abbrev pub AreFirstTexts : List Class → List (Vec Bool Global) → Type 0
AreFirstTexts program firsts = AreEntriesFor AreFirstTextsOfClass program firsts × (length firsts ≡ length program)
