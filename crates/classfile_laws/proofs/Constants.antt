-- An entry of the constant pool (JVMS 4.4). A spelled one is read, and a read one is spelled so.
use Rattle.std.proofs.Common.{◌≡◌, ℕ, ◌^◌, ◌<◌, true, ◌==◌, List, ◌∷◌, ◌++◌, length, Result, Ok, Err, refl, sym, ap, subst, ◌∙◌, append_assoc}
use Rattle.std.specs.Int.{w32, w64}
use Rattle.std.proofs.lemmas.Bool.{eqb-true}
use Rattle.jvms_file.specs.declared.class_file.Constant.{Constant}
use Rattle.jvms_file.specs.declared.class_file.Constant.TheVariants as constant
use Rattle.jvms_file.specs.declared.fault.ClassFault.{ClassFault}
use Rattle.jvms_file.specs.declared.fault.ClassFault.TheVariants as fault
use Rattle.jvms_file.specs.Results.{◌>>=◌}
use Rattle.jvms_file.specs.Bytes.{signed}
use Rattle.jvms_file.specs.Texts.{bytes_of_text, text_of_bytes}
use Rattle.jvms_file.specs.ConstantPool.{utf8_constant_at, one_number_at, two_numbers_at, four_bytes_at, eight_bytes_at, tagged_at, constant_at}
use Rattle.jvms_file.specs.Spelling.{u2, u4, u8, IsU2, IsU4, SpellsConstant}
use Rattle.jvms_file.proofs.TextLaws.{decoded_is_encoded, encoded_is_decoded}
use Rattle.classfile_laws.proofs.Numbers.{IsBytes, u1_again, u2_again, u4_again, u8_again, bytes_again}
use Rattle.classfile_laws.proofs.Steps.{Found, answered, choose, u1_step, u2_step, u4_step, u8_step, bytes_step}

-- A number that names an entry.
abbrev pub IsUsable : Constant → Type 0
IsUsable constant.Unusable = ⊥
IsUsable _ = Unit {0}

-- ---- Spelled entries are read.

-- An entry that is spelled is read.
pub constant_again : (cut : ClassFault) (bytes : List ℕ) (c : Constant) (rest : List ℕ) → IsUsable c → SpellsConstant bytes c → constant_at cut (bytes ++ rest) ≡ Ok (c, rest)
unfolding constant_at
constant_again cut bytes (constant.Utf8 text) rest usable s =
    let count = length (bytes_of_text text) in
    rw (s.2, u1_again cut 1 ((u2 count ++ bytes_of_text text) ++ rest), append_assoc (u2 count) (bytes_of_text text) rest, u2_again cut count (bytes_of_text text ++ rest) s.1, bytes_again cut (bytes_of_text text) rest, encoded_is_decoded text s.0) refl
constant_again cut bytes (constant.Integer n) rest usable s = rw (s.3, u1_again cut 3 (u4 s.0 ++ rest), u4_again cut s.0 rest s.1, s.2) refl
constant_again cut bytes (constant.Float n) rest usable s = rw (s.1, u1_again cut 4 (u4 n ++ rest), u4_again cut n rest s.0) refl
constant_again cut bytes (constant.Long n) rest usable s = rw (s.3, u1_again cut 5 (u8 s.0 ++ rest), u8_again cut s.0 rest s.1, s.2) refl
constant_again cut bytes (constant.Double n) rest usable s = rw (s.1, u1_again cut 6 (u8 n ++ rest), u8_again cut n rest s.0) refl
constant_again cut bytes (constant.Class n) rest usable s = rw (s.1, u1_again cut 7 (u2 n ++ rest), u2_again cut n rest s.0) refl
constant_again cut bytes (constant.String n) rest usable s = rw (s.1, u1_again cut 8 (u2 n ++ rest), u2_again cut n rest s.0) refl
constant_again cut bytes (constant.Field m n) rest usable s =
    rw (s.2, u1_again cut 9 ((u2 m ++ u2 n) ++ rest), append_assoc (u2 m) (u2 n) rest, u2_again cut m (u2 n ++ rest) s.0, u2_again cut n rest s.1) refl
constant_again cut bytes (constant.Method m n) rest usable s =
    rw (s.2, u1_again cut 10 ((u2 m ++ u2 n) ++ rest), append_assoc (u2 m) (u2 n) rest, u2_again cut m (u2 n ++ rest) s.0, u2_again cut n rest s.1) refl
constant_again cut bytes (constant.InterfaceMethod m n) rest usable s =
    rw (s.2, u1_again cut 11 ((u2 m ++ u2 n) ++ rest), append_assoc (u2 m) (u2 n) rest, u2_again cut m (u2 n ++ rest) s.0, u2_again cut n rest s.1) refl
constant_again cut bytes (constant.NameAndType m n) rest usable s =
    rw (s.2, u1_again cut 12 ((u2 m ++ u2 n) ++ rest), append_assoc (u2 m) (u2 n) rest, u2_again cut m (u2 n ++ rest) s.0, u2_again cut n rest s.1) refl
constant_again cut bytes constant.Unusable rest usable s = absurd usable

-- ---- Read entries are spelled so.

-- The bytes after a tag.
abbrev Behind : ℕ → List ℕ → Constant → Type 0
Behind tag bytes c = SpellsConstant (tag ∷ bytes) c × IsUsable c

module _ (P : List ℕ → Constant → Type 0) (cut : ClassFault) (bytes : List ℕ) (c : Constant) (rest : List ℕ) (are : IsBytes bytes) where
  one_number_found : (make : ℕ → Constant) → ((n : ℕ) → IsU2 n → P (u2 n) (make n)) → one_number_at make cut bytes ≡ Ok (c, rest) → Found P bytes c rest
  one_number_found make spells e =
      u2_step cut bytes _ _ are e (λ n behind fits parts left last.
      let same = answered (make n) c behind rest last in
      record { first = u2 n; parts = parts ∙ ap (λ (w : List ℕ). u2 n ++ w) same.1; spells = subst (P (u2 n)) same.0 (spells n fits); left = subst IsBytes same.1 left })

  two_numbers_found : (make : ℕ → ℕ → Constant) → ((m n : ℕ) → IsU2 m → IsU2 n → P (u2 m ++ u2 n) (make m n)) → two_numbers_at make cut bytes ≡ Ok (c, rest) → Found P bytes c rest
  two_numbers_found make spells e =
      u2_step cut bytes _ _ are e (λ m middle fits parts left more.
      u2_step cut middle _ _ left more (λ n behind fits2 parts2 left2 last.
      let same = answered (make m n) c behind rest last in
      record { first = u2 m ++ u2 n; parts = rw (parts, parts2, same.1, append_assoc) refl; spells = subst (P (u2 m ++ u2 n)) same.0 (spells m n fits fits2); left = subst IsBytes same.1 left2 }))

  four_bytes_found : (make : ℕ → Constant) → ((n : ℕ) → IsU4 n → P (u4 n) (make n)) → four_bytes_at make cut bytes ≡ Ok (c, rest) → Found P bytes c rest
  four_bytes_found make spells e =
      u4_step cut bytes _ _ are e (λ n behind fits parts left last.
      let same = answered (make n) c behind rest last in
      record { first = u4 n; parts = parts ∙ ap (λ (w : List ℕ). u4 n ++ w) same.1; spells = subst (P (u4 n)) same.0 (spells n fits); left = subst IsBytes same.1 left })

  eight_bytes_found : (make : ℕ → Constant) → ((n : ℕ) → n < 2 ^ 64 → P (u8 n) (make n)) → eight_bytes_at make cut bytes ≡ Ok (c, rest) → Found P bytes c rest
  eight_bytes_found make spells e =
      u8_step cut bytes _ _ are e (λ n behind fits parts left last.
      let same = answered (make n) c behind rest last in
      record { first = u8 n; parts = parts ∙ ap (λ (w : List ℕ). u8 n ++ w) same.1; spells = subst (P (u8 n)) same.0 (spells n fits); left = subst IsBytes same.1 left })

-- A text that was read is decoded from its bytes.
text_found : (cut : ClassFault) (bytes : List ℕ) (c : Constant) (rest : List ℕ) → IsBytes bytes → utf8_constant_at cut bytes ≡ Ok (c, rest) → Found (Behind 1) bytes c rest
text_found cut bytes c rest are e =
    u2_step cut bytes _ _ are e (λ n middle fits parts left more.
    bytes_step cut n middle _ _ left more (λ coded behind size parts2 texts left2 last.
    go coded behind (text_of_bytes coded) refl n middle fits parts size parts2 left2 last))
  where
    go : (coded behind : List ℕ) (r : Result (List ℕ) ℕ) → text_of_bytes coded ≡ r → (n : ℕ) (middle : List ℕ) → IsU2 n → bytes ≡ u2 n ++ middle → length coded ≡ n → middle ≡ coded ++ behind → IsBytes behind
        → ◌>>=◌ {B = Constant × List ℕ} (elim r as (λ _. Result (List ℕ) ClassFault) [ Ok units ↦ Ok units | Err place ↦ Err fault.Utf8 ]) (λ units. Ok (constant.Utf8 units, behind)) ≡ Ok (c, rest) → Found (Behind 1) bytes c rest
    go coded behind (Err place) is n middle fits parts size parts2 left last = absurd cc
    go coded behind (Ok units) is n middle fits parts size parts2 left last =
        let same = answered (constant.Utf8 units) c behind rest last in
        let codes = decoded_is_encoded coded units is in
        let count : length (bytes_of_text units) ≡ n = ap length (sym codes.1) ∙ size in
        record {
          first = u2 n ++ bytes_of_text units;
          parts = rw (parts, parts2, same.1, codes.1, append_assoc) refl;
          spells = subst (Behind 1 (u2 n ++ bytes_of_text units)) same.0 ((codes.0, subst IsU2 (sym count) fits, ap (λ (k : ℕ). 1 ∷ u2 k ++ bytes_of_text units) (sym count)), tt);
          left = subst IsBytes same.1 left;
        }

-- The bytes after a tag that was read.
tagged_found : (tag : ℕ) (cut : ClassFault) (bytes : List ℕ) (c : Constant) (rest : List ℕ) → IsBytes bytes → tagged_at tag cut bytes ≡ Ok (c, rest) → Found (Behind tag) bytes c rest
tagged_found tag cut bytes c rest are e =
    choose (tag == 1) _ _ _ e (λ is f. at 1 is (text_found cut bytes c rest are f)) (λ _ e3.
    choose (tag == 3) _ _ _ e3 (λ is f. at 3 is (four_bytes_found (Behind 3) cut bytes c rest are (λ n. constant.Integer (signed w32 n)) (λ n fits. ((n, fits, refl, refl), tt)) f)) (λ _ e4.
    choose (tag == 4) _ _ _ e4 (λ is f. at 4 is (four_bytes_found (Behind 4) cut bytes c rest are (λ n. constant.Float n) (λ n fits. ((fits, refl), tt)) f)) (λ _ e5.
    choose (tag == 5) _ _ _ e5 (λ is f. at 5 is (eight_bytes_found (Behind 5) cut bytes c rest are (λ n. constant.Long (signed w64 n)) (λ n fits. ((n, fits, refl, refl), tt)) f)) (λ _ e6.
    choose (tag == 6) _ _ _ e6 (λ is f. at 6 is (eight_bytes_found (Behind 6) cut bytes c rest are (λ n. constant.Double n) (λ n fits. ((fits, refl), tt)) f)) (λ _ e7.
    choose (tag == 7) _ _ _ e7 (λ is f. at 7 is (one_number_found (Behind 7) cut bytes c rest are (λ n. constant.Class n) (λ n fits. ((fits, refl), tt)) f)) (λ _ e8.
    choose (tag == 8) _ _ _ e8 (λ is f. at 8 is (one_number_found (Behind 8) cut bytes c rest are (λ n. constant.String n) (λ n fits. ((fits, refl), tt)) f)) (λ _ e9.
    choose (tag == 9) _ _ _ e9 (λ is f. at 9 is (two_numbers_found (Behind 9) cut bytes c rest are (λ m n. constant.Field m n) (λ m n fits more. ((fits, more, refl), tt)) f)) (λ _ e10.
    choose (tag == 10) _ _ _ e10 (λ is f. at 10 is (two_numbers_found (Behind 10) cut bytes c rest are (λ m n. constant.Method m n) (λ m n fits more. ((fits, more, refl), tt)) f)) (λ _ e11.
    choose (tag == 11) _ _ _ e11 (λ is f. at 11 is (two_numbers_found (Behind 11) cut bytes c rest are (λ m n. constant.InterfaceMethod m n) (λ m n fits more. ((fits, more, refl), tt)) f)) (λ _ e12.
    choose (tag == 12) _ _ _ e12 (λ is f. at 12 is (two_numbers_found (Behind 12) cut bytes c rest are (λ m n. constant.NameAndType m n) (λ m n fits more. ((fits, more, refl), tt)) f)) (λ _ none.
    absurd cc)))))))))))
  where
    at : (k : ℕ) → (tag == k) ≡ true → Found (Behind k) bytes c rest → Found (Behind tag) bytes c rest
    at k is found = subst (λ (t : ℕ). Found (Behind t) bytes c rest) (sym (eqb-true tag k is)) found

-- An entry that was read.
pub constant_found : (cut : ClassFault) (bytes : List ℕ) (c : Constant) (rest : List ℕ) → IsBytes bytes → constant_at cut bytes ≡ Ok (c, rest) → Found (λ first c. SpellsConstant first c × IsUsable c) bytes c rest
unfolding constant_at
constant_found cut bytes c rest are e =
    u1_step cut bytes _ _ are e (λ tag behind fits parts left last.
    let found = tagged_found tag cut behind c rest left last in
    record { first = tag ∷ found.first; parts = parts ∙ ap (λ (w : List ℕ). tag ∷ w) found.parts; spells = found.spells; left = found.left })
