-- Proves which texts the indices of a class file name, and when two are the same.
use Rattle.std.proofs.Common.{◌≡◌, ℕ, Bool, true, false, ◌||◌, List, [], Option, Some, None, refl, ap}
use Rattle.std.specs.Option.{unwrap_or}
use Rattle.std.proofs.lemmas.Bool.{false≢true}
use Rattle.std.proofs.lemmas.Cmp.{nat_list_eq_equiv}
use Rattle.jvms_file.specs.declared.class_file.Constant.{Constant}
use Rattle.jvms_file.specs.Names.{same_text, is_initializer_name}
use Rattle.jvms_file.specs.ConstantPool.{utf8_at}
use Rattle.jvms_file.specs.Members.{is_text_with, same_entry_text, is_initializer}
use Rattle.jvms_program.specs.Meaning.{text_of}

-- The test that two texts are the same is symmetric.
same_turned : (a b : List ℕ) → same_text a b ≡ same_text b a
same_turned a b = nat_list_eq_equiv.symm a b

named_by : (test : List ℕ → Bool) (u : Option (List ℕ)) → is_text_with test u ≡ true → u ≡ Some (unwrap_or u [])
named_by test (Some text) is = refl
named_by test None is = absurd (false≢true is)

passes_by : (test : List ℕ → Bool) (u : Option (List ℕ)) → is_text_with test u ≡ true → test (unwrap_or u []) ≡ true
passes_by test (Some text) is = is
passes_by test None is = absurd (false≢true is)

-- If the text of an index passes a test, there is such a text.
pub text_named : (pool : List Constant) (test : List ℕ → Bool) (n : ℕ) → is_text_with test (utf8_at pool n) ≡ true → utf8_at pool n ≡ Some (text_of pool n)
text_named pool test n is = named_by test (utf8_at pool n) is

pub text_passes : (pool : List Constant) (test : List ℕ → Bool) (n : ℕ) → is_text_with test (utf8_at pool n) ≡ true → test (text_of pool n) ≡ true
text_passes pool test n is = passes_by test (utf8_at pool n) is

pub initializer_is : (pool : List Constant) (n : ℕ) → utf8_at pool n ≡ Some (text_of pool n) → is_initializer pool n ≡ is_initializer_name (text_of pool n)
initializer_is pool n named = ap (is_text_with is_initializer_name) named

-- Two indices name the same text exactly if their texts are the same.
pub same_texts : (pool : List Constant) (m n : ℕ) (a b : List ℕ) → utf8_at pool m ≡ Some a → utf8_at pool n ≡ Some b → same_entry_text pool m n ≡ same_text b a
same_texts pool m n a b first second = rw (first, second) (same_turned a b)

-- A disjunction may be regrouped.
pub regrouped : (a b c d e : Bool) → (a || b || c || d || e) ≡ true → (a || (b || (c || (d || e)))) ≡ true
regrouped true b c d e is = refl
regrouped false true c d e is = refl
regrouped false false true d e is = refl
regrouped false false false true e is = refl
regrouped false false false false e is = is
