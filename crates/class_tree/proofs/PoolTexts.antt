-- Proves which texts of a constant pool have which index.
use Rattle.std.proofs.Common.{◌≡◌, ℕ, zero, suc, ◌-◌, ◌<◌, List, Option, None, Some, refl, ap, ◌∙◌, arith, map}
use Rattle.std.proofs.lemmas.Option.{slice_get-map}
use Rattle.std.specs.Option.{option_and_then, option_map}
use Rattle.std.specs.Prelude.{slice_get}
use Rattle.jvms_file.specs.declared.class_file.Constant.{Constant}
use Rattle.jvms_file.specs.ConstantPool.{utf8_of, utf8_at}

flat : (e : Option Constant) → option_and_then (λ s. s) (option_map utf8_of e) ≡ option_and_then utf8_of e
flat None = refl
flat (Some c) = refl

-- The text at an index among the texts of all entries is that of the index's entry.
pub text_at : (pool : List Constant) (number : ℕ) → 0 < number → option_and_then (λ s. s) (slice_get (map utf8_of pool) (number - 1)) ≡ utf8_at pool number
text_at pool zero some = absurd (omega arith)
text_at pool (suc i) some =
    let place : suc i - 1 ≡ i = omega arith in
    rw place (ap (λ o. option_and_then (λ s. s) o) (slice_get-map utf8_of pool i) ∙ flat (slice_get pool i))
