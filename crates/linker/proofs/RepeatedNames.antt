-- The first name that equals an earlier one, found in one pass over the names.
use Rattle.std.proofs.Common.{◌≡◌, ℕ, zero, suc, ◌+◌, ◌<◌, ◌≤◌, Bool, true, false, cond, ◌||◌, List, [], ◌∷◌, length, get_or, take, Some, None, refl, sym, ap, ◌∙◌, arith, ⊎_elim}
use Rattle.std.specs.List.{find, list_any, range_with_len}
use Rattle.std.proofs.lemmas.Bool.{cases_eq}
use Rattle.std.proofs.lemmas.Cmp.{nat_list_eq_equiv}
use Rattle.std.proofs.lemmas.List.{get_or-map, take_more, length-map}
use Rattle.std.proofs.lemmas.List.Folds.{list_any-append}
use Rattle.std.proofs.lemmas.Map.Text.{is_eq-slice_cmp}
use Rattle.std.specs.Cmp.Lexicographic.{slice_cmp}
use Rattle.std.specs.Ordering.{nat_cmp, is_eq}
use Rattle.jvms_program.specs.declared.program.Class.{Class}
use Rattle.jvms_file.specs.Names.{same_text}
use Rattle.linker.specs.Linking.{names_of, repeats, repeated_name}

-- ---- The first number of a range that passes a test

none_passes : (f : ℕ → Bool) (a n : ℕ) → ((k : ℕ) → a ≤ k → k < a + n → f k ≡ false) → find f (range_with_len a n) ≡ None
none_passes f a zero fails = refl
none_passes f a (suc n) fails =
    rw (fails a (omega arith) (omega arith)) (none_passes f (a + 1) n (λ k from below. fails k (omega arith) (omega arith)))

first_passes : (f : ℕ → Bool) (a n k : ℕ) → a ≤ k → k < a + n → f k ≡ true → ((j : ℕ) → a ≤ j → j < k → f j ≡ false) → find f (range_with_len a n) ≡ Some k
first_passes f a zero k from below passes fails = absurd (omega arith)
first_passes f a (suc n) k from below passes fails =
    ⊎_elim
    (λ (same : a ≡ k). rw same (rw passes refl))
    (λ (other : a ≡ k → ⊥). rw (fails a (omega arith) (omega arith)) (first_passes f (a + 1) n k (omega arith) (omega arith) passes (λ j lo hi. fails j (omega arith) hi)))
    (cases_eq a k)

-- ---- Names by their places

-- The name of the class at a place.
pub name_at : (classes : List Class) (i : ℕ) (c : Class) → i < length classes → c ≡ get_or classes i c → get_or (names_of classes) i [] ≡ c.name
name_at classes i c within is = get_or-map (λ (x : Class). x.name) classes i c [] within ∙ ap (λ (x : Class). x.name) (sym is)

-- A name that was seen repeats one, and only such a name does.
pub repeats_when : (names : List (List ℕ)) (i : ℕ) (name : List ℕ) (seen : Bool) → get_or names i [] ≡ name → seen ≡ list_any (same_text name) (take i names) → repeats names i ≡ seen
repeats_when names i name seen is when = rw is (sym when)

or_last : (b x : Bool) → cond b true x ≡ (x || (b || false))
or_last true true = refl
or_last true false = refl
or_last false true = refl
or_last false false = refl

-- The names seen, with the next.
pub names_within : (classes : List Class) (i : ℕ) → i < length classes → i < length (names_of classes)
names_within classes i within = rw (length-map classes (λ (x : Class). x.name)) within

pub seen_more : (names : List (List ℕ)) (i : ℕ) (name q : List ℕ) (seen : Bool) → i < length names → get_or names i [] ≡ name → seen ≡ list_any (same_text q) (take i names) → cond (is_eq (slice_cmp nat_cmp name q)) true seen ≡ list_any (same_text q) (take (i + 1) names)
seen_more names i name q seen within is when =
    rw (is_eq-slice_cmp name q)
    (rw (take_more names i [] within)
    (rw (list_any-append (same_text q) (take i names) (get_or names i [] ∷ []))
    (rw is
    (rw (← when)
    (rw (nat_list_eq_equiv.symm name q) (or_last (same_text q name) seen))))))

-- ---- The first place

pub first_repeated : (names : List (List ℕ)) (n : ℕ) → n < length names → ((k : ℕ) → k < n → repeats names k ≡ false) → repeats names n ≡ true → repeated_name names ≡ Some n
first_repeated names n within fresh again =
    first_passes (repeats names) 0 (length names) n (omega arith) (omega arith) again (λ j from below. fresh j below)

pub none_repeated : (classes : List Class) (n : ℕ) → length classes ≤ n → ((k : ℕ) → k < n → repeats (names_of classes) k ≡ false) → repeated_name (names_of classes) ≡ None
none_repeated classes n whole fresh =
    none_passes (repeats (names_of classes)) 0 (length (names_of classes)) (λ k from below. fresh k (omega (arith, length-map classes (λ (x : Class). x.name))))
