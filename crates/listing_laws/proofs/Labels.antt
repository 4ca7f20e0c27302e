-- Proves that the labels of places are words that labels may be.
use Rattle.std.proofs.Common.{◌≡◌, ℕ, true, false, List, refl}
use Rattle.std.specs.Prelude.{codes}
use Rattle.std.specs.Fmt.{decimal}
use Rattle.jvms_file.specs.Names.{begins_with, same_text}
use Rattle.jasmin.specs.Operands.{is_label}
use Rattle.listing_spec.specs.TreeOf.{label_of}
use Rattle.listing_spec.specs.Listable.{IsPlaceLabel}
use Rattle.listing_laws.proofs.Words.{IsPlain}
use Rattle.listing_laws.proofs.Numbers.{decimal_digits, digits_go_on}

-- The label of a place is a plain word and a label.
pub record IsLabelWord (w : List ℕ) : Type 0 where
  pub word : IsPlain w
  pub label : is_label w ≡ true
  pub no_dot : begins_with 46 w ≡ false
  pub no_default : same_text (codes "default") w ≡ false

label_of_word : (place : ℕ) → IsLabelWord (label_of place)
unfolding label_of
label_of_word place = record {
  word = record { some = refl; units = digits_go_on (decimal place) (decimal_digits place); plain = refl };
  label = refl;
  no_dot = refl;
  no_default = refl;
}

pub label_word : (w : List ℕ) → IsPlaceLabel w → IsLabelWord w
label_word w (place, is) = rw is (label_of_word place)
