-- The forms of a text decide whether it is a method's descriptor.
use Rattle.std.proofs.Common.{◌≡◌, ℕ, ◌+◌, Bool, true, false, List, Option, None, Some, if◌then◌else◌, refl, arith, nat_le}
use Rattle.std.proofs.lemmas.Bool.Decides.{nat_tests}
use Rattle.jvms_file.specs.declared.descriptor.MethodType.{MethodType}
use Rattle.jvms_file.specs.Descriptors.{method_type_of, parameter_units}
use Rattle.jvms_file.specs.Members.{is_method_descriptor_for}
use Rattle.const_pool.specs.Texts.{forms_of}
use Rattle.class_file.specs.Wanted.{is_formed_descriptor}

few : (on_none : Bool) (units : ℕ) → nat_le units (if on_none then 255 else 254) ≡ nat_le (units + (if on_none then 0 else 1)) 255
few true units = grind (arith, nat_tests)
few false units = grind (arith, nat_tests)

by_type : (on_none : Bool) (text : List ℕ) (t : Option MethodType) → method_type_of text ≡ t → is_formed_descriptor on_none (forms_of text) ≡ is_method_descriptor_for on_none text
by_type on_none text None is = rw is refl
by_type on_none text (Some t) is = rw is (few on_none (parameter_units t))

pub formed_descriptor : (on_none : Bool) (text : List ℕ) → is_formed_descriptor on_none (forms_of text) ≡ is_method_descriptor_for on_none text
formed_descriptor on_none text = by_type on_none text (method_type_of text) refl
