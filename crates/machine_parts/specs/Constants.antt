-- The strings that the initialisation of a class stores in its static fields, field by field.
use Rattle.std.specs.Prelude.{ℕ, Bool, true, false, not, ◌&&◌, List, [], ◌∷◌, ◌++◌, Option, Some, None, is_some}
use Rattle.std.specs.List.{list_any}
use Rattle.jvms_program.specs.declared.program.Field.{Field}
use Rattle.jvms_machine.specs.declared.value.Value.{Value}
use Rattle.jvms_machine.specs.declared.value.Value.TheVariants as value
use Rattle.machine_thread.specs.program.FieldTexts.{constant_text, has_constant_text}
use Rattle.jvms_machine.specs.State.{Object, text_reference}

-- Decides whether a string has no object yet, and none of these fields has it.
abbrev pub is_new : List Object → List Field → Option (List ℕ) → Bool
is_new heap before None = false
is_new heap before (Some units) = not (is_some (text_reference heap units)) && not (list_any (has_constant_text units) before)

-- Returns a string as a value: its reference, or null if it has none.
abbrev pub text_value : Option ℕ → Value
text_value None = value.Null
text_value (Some r) = value.Reference r

-- Returns the string that a field adds to those of the fields before it.
abbrev pub text_where : Bool → Option (List ℕ) → Option (List ℕ)
text_where true (Some units) = Some units
text_where _ _ = None

abbrev pub text_to_make : List Object → List Field → Field → Option (List ℕ)
text_to_make heap before f = text_where (is_new heap before (constant_text f)) (constant_text f)

-- Appends the string that a field adds, if it adds one.
abbrev pub with_text : List (List ℕ) → Option (List ℕ) → List (List ℕ)
with_text texts None = texts
with_text texts (Some units) = texts ++ units ∷ []

-- Decides whether a field's string has no object yet, and no field before it has the same string.
abbrev pub is_new_text : List Object → List Field → Field → Bool
is_new_text heap before f = is_new heap before (constant_text f)
