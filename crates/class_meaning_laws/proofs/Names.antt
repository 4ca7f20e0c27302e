-- Proves which texts the indices of a pool mean.
use Rattle.std.proofs.Common.{◌≡◌, ℕ, zero, suc, false, ◌==◌, List, [], ◌∷◌, map, Option, None, Some, refl, ap, ◌∙◌}
use Rattle.std.proofs.Math.Dec.{eqb-suc-zero}
use Rattle.std.proofs.lemmas.Option.{none-some}
use Rattle.std.specs.Option.{option_and_then, unwrap_or}
use Rattle.jvms_file.specs.declared.class_file.Constant.{Constant}
use Rattle.jvms_file.specs.declared.class_file.Constant.TheVariants as constant
use Rattle.jvms_file.specs.ConstantPool.{entry, utf8_at, class_name_number, class_name_at}
use Rattle.jvms_program.specs.Meaning.{text_of, class_text}
use Rattle.assembly.specs.Named.{AreClasses}

-- Lists with equal heads and equal tails are equal.
pub same_lists : {A : Type 0} (x y : A) (xs ys : List A) → x ≡ y → xs ≡ ys → x ∷ xs ≡ y ∷ ys
same_lists x y xs ys first rest = ap (λ z. z ∷ xs) first ∙ ap (λ zs. y ∷ zs) rest

pub text_is : (pool : List Constant) (n : ℕ) (text : List ℕ) → utf8_at pool n ≡ Some text → text_of pool n ≡ text
text_is pool n text is = ap (λ (t : Option (List ℕ)). unwrap_or t []) is

pub class_text_is : (pool : List Constant) (n : ℕ) (name : List ℕ) → class_name_at pool n ≡ Some name → class_text pool n ≡ name
class_text_is pool n name is = ap (λ (t : Option (List ℕ)). unwrap_or t []) is

pub class_texts_are : (pool : List Constant) (numbers : List ℕ) (names : List (List ℕ)) → AreClasses pool numbers names → map (class_text pool) numbers ≡ names
class_texts_are pool [] [] are = refl
class_texts_are pool (n ∷ numbers) (name ∷ names) are =
    same_lists (class_text pool n) name (map (class_text pool) numbers) names (class_text_is pool n name are.0.1) (class_texts_are pool numbers names are.1)
class_texts_are pool [] (name ∷ names) are = absurd are
class_texts_are pool (n ∷ numbers) [] are = absurd are

-- The index of a class isn't 0.
pub class_is_not_0 : (pool : List Constant) (n : ℕ) (name : List ℕ) → class_name_at pool n ≡ Some name → (n == 0) ≡ false
class_is_not_0 pool zero name is = absurd (none-some name is)
class_is_not_0 pool (suc n) name is = eqb-suc-zero n

-- The name of a class is named by the entry of the class.
pub record IsClass (pool : List Constant) (n : ℕ) (name : List ℕ) : Type 0 where
  pub number : ℕ
  pub here : entry pool n ≡ Some (constant.Class number)
  pub names : utf8_at pool number ≡ Some name

class_by : (pool : List Constant) (n : ℕ) (name : List ℕ) (r : Option Constant) → entry pool n ≡ r
    → option_and_then (utf8_at pool) (option_and_then class_name_number r) ≡ Some name → IsClass pool n name
class_by pool n name None here is = absurd (none-some name is)
class_by pool n name (Some (constant.Class number)) here is = record { number = number; here = here; names = is }
class_by pool n name (Some c) here is = absurd (none-some name is)

pub class_found : (pool : List Constant) (n : ℕ) (name : List ℕ) → class_name_at pool n ≡ Some name → IsClass pool n name
class_found pool n name is = class_by pool n name (entry pool n) refl is
