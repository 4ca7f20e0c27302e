-- The texts and types that numbers of a constant pool name.
use Rattle.std.proofs.Common.{◌≡◌, ℕ, zero, suc, ◌-◌, ◌<◌, List, [], Option, None, Some, refl, sym, ap, ◌∙◌, arith, map}
use Rattle.std.proofs.lemmas.Option.{none-some, same_Some, slice_get-map}
use Rattle.std.specs.Option.{option_and_then, option_map, unwrap_or}
use Rattle.std.specs.Prelude.{slice_get}
use Rattle.jvms_file.specs.declared.class_file.Constant.{Constant}
use Rattle.jvms_file.specs.ConstantPool.{utf8_of, utf8_at}
use Rattle.jvms_file.specs.Descriptors.{field_type_of, field_type_from, method_type_of}
use Rattle.jvms_file.specs.Descriptors.{field_type, method_type}
use Rattle.linker.specs.declared.spelled.TypedText.{TypedText}
use Rattle.linker.specs.Spelled.{typed_text, typed_text_of}

nothing_is_no_field : field_type_of [] ≡ None
unfolding field_type_from
nothing_is_no_field = refl

nothing_is_no_method : method_type_of [] ≡ None
unfolding method_type_of
nothing_is_no_method = refl

-- A text that spells no type has the types of the empty text.
pub no_field : (text : List ℕ) → field_type_of text ≡ None → field_type [] ≡ field_type text
no_field text none = rw (none, nothing_is_no_field) refl

pub no_method : (text : List ℕ) → method_type_of text ≡ None → method_type [] ≡ method_type text
no_method text none = rw (none, nothing_is_no_method) refl

flat : (e : Option Constant) → option_and_then (λ s. s) (option_map typed_text_of e) ≡ option_map typed_text (option_and_then utf8_of e)
flat None = refl
flat (Some c) = refl

-- The text at a number's place among all entries.
pub spelled_at : (pool : List Constant) (number : ℕ) → 0 < number → option_and_then (λ s. s) (slice_get (map typed_text_of pool) (number - 1)) ≡ option_map typed_text (utf8_at pool number)
spelled_at pool zero some = absurd (omega arith)
spelled_at pool (suc i) some =
    let place : suc i - 1 ≡ i = omega arith in
    rw place (ap (λ o. option_and_then (λ s. s) o) (slice_get-map typed_text_of pool i) ∙ flat (slice_get pool i))

-- The text that is found, or else the empty text.
pub found_spelled : (text : Option (List ℕ)) (s : TypedText) → Some s ≡ option_map typed_text text → s ≡ typed_text (unwrap_or text [])
found_spelled None s is = absurd (none-some s (sym is))
found_spelled (Some t) s is = same_Some s (typed_text t) is
