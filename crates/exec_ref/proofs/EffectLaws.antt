-- Applied effects: their strings, their threads, and nested arrays.
use Rattle.std.proofs.Common.{◌≡◌, ℕ, ◌≤◌, List, Option, Some, None, IsTrue, length, refl, sym, ap, ◌∙◌, subst}
use Rattle.std.specs.Option.{option_and_then}
use Rattle.jvms_program.specs.declared.key.FieldKey.{FieldKey}
use Rattle.jvms_program.specs.declared.number.FieldNumber.{FieldNumber}
use Rattle.jvms_program.specs.Program.{field_key_at}
use Rattle.jvms_machine.specs.declared.value.Value.{Value}
use Rattle.jvms_machine.specs.State.{Object, instance, array, text, class_object, object_at}
use Rattle.jvms_machine.specs.Arrays.{counted_lengths}
use Rattle.jvms_machine.specs.Heap.{has_dimensions, with_value}
use Rattle.jvms_machine.proofs.ArraySoundness.{lengths_taken}
use Rattle.heap.specs.Objects.{object_part, units_of, HasDimensions}
use Rattle.heap.specs.Statics.{Statics}
use Rattle.heap.proofs.DimensionLaws.{dimensions_are}
use Rattle.printing.specs.Strings as strings

same_units : (o : Option Object) → option_and_then units_of o ≡ strings.units_of o
same_units None = refl
same_units (Some (instance class fields)) = refl
same_units (Some (array class elements)) = refl
same_units (Some (text units)) = refl
same_units (Some (class_object name)) = refl

-- The units of the printed string.
pub the_string : (heap : List Object) (r : ℕ) (units : Option (List ℕ)) → units ≡ object_part units_of heap r → units ≡ strings.units_of (object_at heap r)
the_string heap r units is = is ∙ same_units (object_at heap r)

-- The lengths of nested arrays fit the dimensions of their class.
pub are_dimensions : (class : List ℕ) (dimensions : ℕ) (operands : List Value) → IsTrue (has_dimensions class dimensions) → dimensions ≤ length operands → HasDimensions class (counted_lengths dimensions operands)
are_dimensions class dimensions operands has there =
    dimensions_are class (counted_lengths dimensions operands) (subst (λ n. IsTrue (has_dimensions class n)) (sym (lengths_taken dimensions operands there)) has)

-- The static fields stay those of their program.
pub statics_stay : (old new : Statics) (n : FieldNumber) (v : Value) → ((key : FieldKey) → field_key_at old.program n ≡ Some key → new ≡ record old { fields = with_value key v old.fields })
    → (field_key_at old.program n ≡ None → new ≡ old) → new.program ≡ old.program
statics_stay old new n v put none = by_key (field_key_at old.program n) refl
  where
    by_key : (o : Option FieldKey) → field_key_at old.program n ≡ o → new.program ≡ old.program
    by_key None is = ap (λ (s : Statics). s.program) (none is)
    by_key (Some key) is = ap (λ (s : Statics). s.program) (put key is)
