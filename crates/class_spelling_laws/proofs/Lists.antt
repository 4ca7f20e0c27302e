-- Proves properties of lists whose elements are spelled in order, and of lists whose elements are made of those of
-- another.
use Rattle.std.proofs.Common.{◌≡◌, ℕ, suc, ◌+◌, ◌*◌, ◌≤◌, Bool, List, [], ◌∷◌, ◌++◌, length, refl, sym, ap, ◌∙◌, subst, arith, append_assoc, append-nil}
use Rattle.std.specs.List.{AllByRecursion, AllZip, list_any}
use Rattle.std.proofs.Math.Nat.{suc-mul, mul-le-mul_right}
use Rattle.std.proofs.lemmas.List.{length-append}
use Rattle.jvms_file.specs.Spelling.{u2, IsU2, InOrder, Counted, IsDistinctBy}
use Rattle.classfile_laws.proofs.Numbers.{length-u2}

-- ---- All elements of a list

pub all_push : {A : Type 0} (P : A → Type 0) (xs ys : List A) → AllByRecursion P xs → AllByRecursion P ys → AllByRecursion P (xs ++ ys)
all_push P [] ys are more = more
all_push P (x ∷ xs) ys are more = (are.0, all_push P xs ys are.1 more)

pub all_map : {A : Type 0} (P Q : A → Type 0) → ((x : A) → P x → Q x) → (xs : List A) → AllByRecursion P xs → AllByRecursion Q xs
all_map P Q f [] are = tt
all_map P Q f (x ∷ xs) are = (f x are.0, all_map P Q f xs are.1)

pub all_both : {A : Type 0} (P Q : A → Type 0) (xs : List A) → AllByRecursion P xs → AllByRecursion Q xs → AllByRecursion (λ x. P x × Q x) xs
all_both P Q [] are too = tt
all_both P Q (x ∷ xs) are too = ((are.0, too.0), all_both P Q xs are.1 too.1)

-- ---- Elements spelled in order

-- There are bytes that spell it.
abbrev pub IsSpelled : {A : Type 0} → (List ℕ → A → Type 0) → A → Type 0
IsSpelled P x = (bytes : List ℕ) × P bytes x

pub in_order : {A : Type 0} (P : List ℕ → A → Type 0) (xs : List A) → AllByRecursion (IsSpelled P) xs → IsSpelled (InOrder P) xs
in_order P [] are = ([], refl)
in_order P (x ∷ xs) are =
    let first = are.0 in
    let rest = in_order P xs are.1 in
    (first.0 ++ rest.0, (first.0, rest.0, refl, first.1, rest.1))

pub counted : {A : Type 0} (P : List ℕ → A → Type 0) (xs : List A) → IsU2 (length xs) → AllByRecursion (IsSpelled P) xs → IsSpelled (Counted P) xs
counted P xs few are =
    let rest = in_order P xs are in
    (u2 (length xs) ++ rest.0, (few, (u2 (length xs), rest.0, refl, refl, rest.1)))

-- If each element has at most `most` bytes, all have at most their number times `most`.
pub in_order_size : {A : Type 0} (P : List ℕ → A → Type 0) (most : ℕ) → ((bytes : List ℕ) (x : A) → P bytes x → length bytes ≤ most)
    → (bytes : List ℕ) (xs : List A) → InOrder P bytes xs → length bytes ≤ length xs * most
in_order_size P most small bytes [] is = rw is (omega arith)
in_order_size P most small bytes (x ∷ xs) is =
    let first = small is.0 x is.3 in
    let rest = in_order_size P most small is.1 xs is.4 in
    let parts : length bytes ≡ length is.0 + length is.1 = ap length is.2 ∙ length-append is.0 is.1 in
    let product : suc (length xs) * most ≡ length xs * most + most = suc-mul (length xs) most in
    let bound : length bytes ≤ suc (length xs) * most = omega arith in
    bound

pub counted_size : {A : Type 0} (P : List ℕ → A → Type 0) (most : ℕ) → ((bytes : List ℕ) (x : A) → P bytes x → length bytes ≤ most)
    → (bytes : List ℕ) (xs : List A) → Counted P bytes xs → length bytes ≤ 2 + 65535 * most
counted_size P most small bytes xs is =
    let two = is.1 in
    let few : length xs ≤ 65535 = let count = is.0 in omega arith in
    let all : length xs * most ≤ 65535 * most = mul-le-mul_right most few in
    let rest = in_order_size P most small two.1 xs two.4 in
    let front : length two.0 ≡ 2 = ap length two.3 ∙ length-u2 (length xs) in
    let parts : length bytes ≡ length two.0 + length two.1 = ap length two.2 ∙ length-append two.0 two.1 in
    omega arith

-- An empty list has the two bytes of its count.
pub no_size : {A : Type 0} (P : List ℕ → A → Type 0) (bytes : List ℕ) (xs : List A) → xs ≡ [] → Counted P bytes xs → length bytes ≡ 2
no_size {A = A} P bytes xs none is =
    let two = subst (Counted P bytes) none is in
    let rest = two.1 in
    ap length rest.2 ∙ length-append rest.0 rest.1 ∙ rw (rest.3, rest.4, length-u2 0) refl

-- ---- Two lists, element by element

pub zip_length : {A B : Type 0} (R : A → B → Type 0) (xs : List A) (ys : List B) → AllZip R xs ys → length xs ≡ length ys
zip_length R [] [] are = refl
zip_length R (x ∷ xs) (y ∷ ys) are = ap suc (zip_length R xs ys are.1)
zip_length R [] (y ∷ ys) are = absurd are
zip_length R (x ∷ xs) [] are = absurd are

pub zip_all : {A B : Type 0} (R : A → B → Type 0) (P : B → Type 0) (S : A → Type 0) → ((x : A) (y : B) → R x y → P y → S x)
    → (xs : List A) (ys : List B) → AllZip R xs ys → AllByRecursion P ys → AllByRecursion S xs
zip_all R P S f [] [] are all = tt
zip_all R P S f (x ∷ xs) (y ∷ ys) are all = (f x y are.0 all.0, zip_all R P S f xs ys are.1 all.1)
zip_all R P S f [] (y ∷ ys) are all = absurd are
zip_all R P S f (x ∷ xs) [] are all = absurd are

pub zip_map : {A B : Type 0} (R S : A → B → Type 0) → ((x : A) (y : B) → R x y → S x y) → (xs : List A) (ys : List B) → AllZip R xs ys → AllZip S xs ys
zip_map R S f [] [] are = tt
zip_map R S f (x ∷ xs) (y ∷ ys) are = (f x y are.0, zip_map R S f xs ys are.1)
zip_map R S f [] (y ∷ ys) are = absurd are
zip_map R S f (x ∷ xs) [] are = absurd are

any_as : {A B : Type 0} (R : A → B → Type 0) (f : A → Bool) (g : B → Bool) → ((x : A) (y : B) → R x y → f x ≡ g y)
    → (xs : List A) (ys : List B) → AllZip R xs ys → list_any f xs ≡ list_any g ys
any_as R f g agree [] [] are = refl
any_as R f g agree (x ∷ xs) (y ∷ ys) are = rw (agree x y are.0, any_as R f g agree xs ys are.1) refl
any_as R f g agree [] (y ∷ ys) are = absurd are
any_as R f g agree (x ∷ xs) [] are = absurd are

-- If a list is made of elements no two of which are alike, no two of its own are equal.
pub distinct_as : {A B : Type 0} (R : A → B → Type 0) (same : A → A → Bool) (like : B → B → Bool)
    → ((a b : A) (x y : B) → R a x → R b y → same a b ≡ like x y)
    → (xs : List A) (ys : List B) → AllZip R xs ys → IsDistinctBy like ys → IsDistinctBy same xs
distinct_as R same like agree [] [] are distinct = tt
distinct_as R same like agree (a ∷ xs) (x ∷ ys) are distinct =
    (any_as R (same a) (like x) (λ b y is. agree a b x y are.0 is) xs ys are.1 ∙ distinct.0, distinct_as R same like agree xs ys are.1 distinct.1)
distinct_as R same like agree [] (y ∷ ys) are distinct = absurd are
distinct_as R same like agree (x ∷ xs) [] are distinct = absurd are

-- ---- Appended elements

-- The elements after those before are made of these.
abbrev pub IsOwn : {A B : Type 0} → (A → B → Type 0) → List A → List A → List B → Type 0
IsOwn {A} R seen xs ys = (own : List A) × (xs ≡ seen ++ own) × AllZip R own ys

pub own_none : {A B : Type 0} (R : A → B → Type 0) (seen : List A) → IsOwn R seen seen []
own_none R seen = ([], sym (append-nil seen), tt)

pub own_more : {A B : Type 0} (R : A → B → Type 0) (seen xs : List A) (x : A) (y : B) (ys : List B) → R x y → IsOwn R (seen ++ x ∷ []) xs ys → IsOwn R seen xs (y ∷ ys)
own_more R seen xs x y ys is own = (x ∷ own.0, own.1 ∙ append_assoc seen (x ∷ []) own.0, (is, own.2))

pub own_all : {A B : Type 0} (R : A → B → Type 0) (xs : List A) (ys : List B) → IsOwn R [] xs ys → AllZip R xs ys
own_all R xs ys own = subst (λ zs. AllZip R zs ys) (sym own.1) own.2
