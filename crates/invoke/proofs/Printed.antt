-- The printed object is a string, or of a wrong kind.
use Rattle.std.proofs.Common.{◌≡◌, ℕ, Bool, List, Option, Some, None, refl}
use Rattle.std.specs.Option.{option_and_then}
use Rattle.jvms_machine.specs.declared.action.Printed.TheVariants as printed
use Rattle.jvms_machine.specs.declared.machine.BadCause.TheVariants as cause
use Rattle.jvms_machine.specs.State.{Activation, Object, instance, array, text, class_object}
use Rattle.jvms_machine.specs.Decisions.{bad}
use Rattle.jvms_machine.specs.Natives.{prints, object_printed}
use Rattle.machine_parts.specs.heap.Objects.{units_of}

pub text_printed : (a : Activation) (takes : ℕ) (ends_line : Bool) (r : ℕ) (units : List ℕ) (o : Option Object) → option_and_then units_of o ≡ Some units → object_printed a takes ends_line r o ≡ prints a takes (printed.Text r) ends_line
text_printed a takes ends_line r units None is = cc
text_printed a takes ends_line r units (Some (instance class fields)) is = cc
text_printed a takes ends_line r units (Some (array class elements)) is = cc
text_printed a takes ends_line r units (Some (text us)) is = refl
text_printed a takes ends_line r units (Some (class_object name)) is = cc

pub no_text_printed : (a : Activation) (takes : ℕ) (ends_line : Bool) (r : ℕ) (o : Option Object) → option_and_then units_of o ≡ None → object_printed a takes ends_line r o ≡ bad cause.Kind
no_text_printed a takes ends_line r None is = refl
no_text_printed a takes ends_line r (Some (instance class fields)) is = refl
no_text_printed a takes ends_line r (Some (array class elements)) is = refl
no_text_printed a takes ends_line r (Some (text us)) is = cc
no_text_printed a takes ends_line r (Some (class_object name)) is = refl
