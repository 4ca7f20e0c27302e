-- Proves that names and descriptors are words: none is empty, and none begins with a semicolon.
use Rattle.std.proofs.Common.{◌≡◌, ℕ, Bool, true, false, not, eqb, List, [], ◌∷◌, ◌++◌, refl, subst}
use Rattle.std.specs.Prelude.{is_some}
use Rattle.std.specs.List.{list_all, onto_first, slice_split}
use Rattle.std.proofs.lemmas.Bool.{eqb-true}
use Rattle.jvms_file.specs.Names.{begins_with, is_name, is_class_name, is_method_name}
use Rattle.jvms_file.specs.Descriptors.{field_type_from, field_type_of, is_class_entry_name}
use Rattle.jasmin.specs.Lexing.{is_empty}
use Rattle.listing_spec.specs.Printable.{is_word}
use Rattle.listing_laws.proofs.Words.{IsPlain, word_units}

-- A word isn't empty and doesn't begin with a semicolon.
pub record IsHead (w : List ℕ) : Type 0 where
  pub some : not (is_empty w) ≡ true
  pub plain : begins_with 59 w ≡ false

pub head_plain : (w : List ℕ) → IsHead w → is_word w ≡ true → IsPlain w
head_plain w h e = record { some = h.some; units = word_units w e; plain = h.plain }

-- A text that passes a test doesn't begin with a semicolon, if no text that does passes it.
head_by : (test : List ℕ → Bool) → (test [] ≡ true → ⊥) → ((us : List ℕ) → test (59 ∷ us) ≡ true → ⊥) → (w : List ℕ) → test w ≡ true → IsHead w
head_by test none bad [] e = absurd (none e)
head_by test none bad (u ∷ us) e = record { some = refl; plain = by (eqb u 59) refl }
  where
    by : (b : Bool) → eqb u 59 ≡ b → eqb u 59 ≡ false
    by true is = absurd (bad us (subst (λ (v : ℕ). test (v ∷ us) ≡ true) (eqb-true u 59 is) e))
    by false is = is

bad_name : (us : List ℕ) → is_name (59 ∷ us) ≡ true → ⊥
bad_name us e = cc

pub name_head : (w : List ℕ) → is_name w ≡ true → IsHead w
name_head = head_by is_name (λ e. cc) bad_name

bad_parts : (parts : List (List ℕ)) → list_all is_name (onto_first 59 parts) ≡ true → ⊥
bad_parts [] e = cc
bad_parts (p ∷ ps) e = cc

pub class_head : (w : List ℕ) → is_class_name w ≡ true → IsHead w
class_head = head_by is_class_name (λ e. cc) (λ us e. bad_parts (slice_split (λ u. eqb u 47) us) e)

bad_descriptor : (us : List ℕ) → is_some (field_type_of (59 ∷ us)) ≡ true → ⊥
unfolding field_type_from
bad_descriptor us e = cc

no_descriptor : is_some (field_type_of []) ≡ true → ⊥
unfolding field_type_from
no_descriptor e = cc

pub descriptor_head : (w : List ℕ) → is_some (field_type_of w) ≡ true → IsHead w
descriptor_head = head_by (λ (v : List ℕ). is_some (field_type_of v)) no_descriptor bad_descriptor

pub entry_head : (w : List ℕ) → is_class_entry_name w ≡ true → IsHead w
entry_head = head_by is_class_entry_name (λ e. cc) (λ us e. bad_parts (slice_split (λ u. eqb u 47) us) e)

bad_method : (us : List ℕ) → is_method_name (59 ∷ us) ≡ true → ⊥
bad_method us e = cc

pub method_head : (w : List ℕ) → is_method_name w ≡ true → IsHead w
method_head = head_by is_method_name (λ e. cc) bad_method

-- A text that begins with such a word isn't empty and doesn't begin with a semicolon.
pub behind_head : (w v : List ℕ) → IsHead w → IsHead (w ++ v)
behind_head [] v h = absurd (let e = h.some in cc)
behind_head (u ∷ us) v h = record { some = refl; plain = h.plain }
