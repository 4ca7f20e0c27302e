-- No two classes of a program that is linked have one name.
use Rattle.std.proofs.Common.{◌≡◌, ℕ, zero, suc, ◌+◌, ◌<◌, ◌≤◌, Bool, true, false, cond, ◌||◌, nat_lt, List, [], ◌∷◌, ◌++◌, length, get_or, take, Option, Some, None, Result, Ok, refl, sym, ap, subst, ◌∙◌, arith, append_assoc, ⊎_elim}
use Rattle.std.proofs.Math.Seq.{take-suc, take-length}
use Rattle.std.specs.List.{find, list_any, position, position_from, position_or_len, range_with_len, IsDistinct}
use Rattle.std.proofs.lemmas.Bool.{cases_eq}
use Rattle.std.proofs.lemmas.Bool.Decides.{nat_tests}
use Rattle.std.proofs.lemmas.Cmp.{nat_list_eq_equiv}
use Rattle.std.proofs.lemmas.Iterator.Adapters.{position_from-zero}
use Rattle.std.proofs.lemmas.List.{append-nil, map-append}
use Rattle.std.proofs.lemmas.List.Folds.{list_any-append}
use Rattle.std.proofs.lemmas.List.Sums.{fails_before_first}
use Rattle.std.proofs.lemmas.Map.Keys.{IsDistinct-push}
use Rattle.std.proofs.lemmas.Map.Made.{IsDistinct-from_count}
use Rattle.jvms_program.specs.declared.program.Class.{Class}
use Rattle.jvms_file.specs.Names.{same_text}
use Rattle.jvms_file.specs.Results.{◌>>=◌}
use Rattle.jvms_program.specs.BuiltIn.{built_in_classes, is_built_in}
use Rattle.linker.specs.declared.fault.LinkFault.{LinkFault}
use Rattle.linker.specs.Linking.{names_of, repeats, repeated_name, built_in_name, refusal_at, refusal, HaveDistinctNames}

-- ---- The consequences of no refusal

abbrev NoneOf : Option ℕ → Option ℕ → Type 0
NoneOf a b = (a ≡ None) × (b ≡ None)

none_refused : (f g : ℕ → LinkFault) (a b : Option ℕ) (others : Result (Unit {0}) LinkFault) → (refusal_at f a >>= λ x. refusal_at g b >>= λ y. others) ≡ Ok tt → NoneOf a b
none_refused f g None None others passes = (refl, refl)
none_refused f g None (Some n) others passes = absurd cc
none_refused f g (Some n) b others passes = absurd cc

-- A search that finds nothing fails at its first test, and at the others.
cond_none : (b : Bool) (n : ℕ) (r : Option ℕ) → cond b (Some n) r ≡ None → (b ≡ false) × (r ≡ None)
cond_none true n r none = absurd cc
cond_none false n r none = (refl, none)

none_found : (f : ℕ → Bool) (a n : ℕ) → find f (range_with_len a n) ≡ None → (k : ℕ) → a ≤ k → k < a + n → f k ≡ false
none_found f a zero none k from below = absurd (omega arith)
none_found f a (suc n) none k from below =
    let parts = cond_none (f a) a (find f (range_with_len (a + 1) n)) none in
    ⊎_elim
    (λ (same : a ≡ k). subst (λ (j : ℕ). f j ≡ false) same parts.0)
    (λ (other : a ≡ k → ⊥). none_found f (a + 1) n parts.1 k (omega arith) (omega arith))
    (cases_eq a k)

-- A list in which no place passes a test.
past_all : (a n : ℕ) → cond (nat_lt a n) (Some a) None ≡ None → n ≤ a
past_all a n none = let parts = cond_none (nat_lt a n) a None none in grind (arith, nat_tests)

nowhere : (p : List ℕ → Bool) (names : List (List ℕ)) (i : ℕ) → position p names ≡ None → i < length names → p (get_or names i []) ≡ false
nowhere p names i none within =
    let past = past_all (position_or_len p names) (length names) none in fails_before_first p names i [] (omega arith)

-- ---- Tests of names and of classes by their names

by_name : (p : List ℕ → Bool) (i : ℕ) (classes : List Class) → position_from p i (names_of classes) ≡ position_from (λ c. p c.name) i classes
by_name p i [] = refl
by_name p i (c ∷ classes) = ap (λ r. cond (p c.name) (Some i) r) (by_name p (i + 1) classes)

position_by_name : (p : List ℕ → Bool) (classes : List Class) → position p (names_of classes) ≡ position (λ c. p c.name) classes
position_by_name p classes =
    position_from-zero p (names_of classes) ∙ by_name p 0 classes ∙ sym (position_from-zero (λ (c : Class). p c.name) classes)

any_by_name : (name : List ℕ) (classes : List Class) → list_any (same_text name) (names_of classes) ≡ list_any (λ c. same_text c.name name) classes
any_by_name name [] = refl
any_by_name name (c ∷ classes) = rw (nat_list_eq_equiv.symm name c.name) (ap (λ b. same_text c.name name || b) (any_by_name name classes))

-- ---- Distinct names

neither : (a b : Bool) → a ≡ false → b ≡ false → (a || b) ≡ false
neither a b left right = rw (left, right) refl

distinct_behind : (front names : List (List ℕ)) (n : ℕ) → n ≤ length names → IsDistinct same_text front → ((i : ℕ) → i < length names → list_any (same_text (get_or names i [])) front ≡ false) → ((i : ℕ) → i < length names → repeats names i ≡ false) → IsDistinct same_text (front ++ take n names)
distinct_behind front names zero within apart new fresh = rw append-nil apart
distinct_behind front names (suc n) within apart new fresh =
    let next : n < length names = omega arith in
    rw (take-suc names n [] next)
    (rw (← append_assoc front (take n names) (get_or names n [] ∷ []))
    (IsDistinct-push nat_list_eq_equiv (front ++ take n names) (get_or names n [])
    (distinct_behind front names n (omega arith) apart new fresh)
    (rw (list_any-append (same_text (get_or names n [])) front (take n names)) (neither _ _ (new n next) (fresh n next)))))

built_in_distinct : HaveDistinctNames built_in_classes
unfolding built_in_classes
built_in_distinct = IsDistinct-from_count nat_list_eq_equiv (names_of built_in_classes) refl

built_in_when : (name : List ℕ) → is_built_in name ≡ list_any (same_text name) (names_of built_in_classes)
unfolding is_built_in
built_in_when name = sym (any_by_name name built_in_classes)

-- Classes that pass the tests have distinct names, and so have the built-in classes with them.
pub distinct_names : (classes : List Class) → refusal classes ≡ Ok tt → HaveDistinctNames (built_in_classes ++ classes)
distinct_names classes passes =
    let parts = none_refused _ _ (built_in_name classes) (repeated_name (names_of classes)) _ passes in
    let own : position is_built_in (names_of classes) ≡ None = position_by_name is_built_in classes ∙ parts.0 in
    let apart = distinct_behind (names_of built_in_classes) (names_of classes) (length (names_of classes)) (omega arith) built_in_distinct
    (λ i within. sym (built_in_when _) ∙ nowhere is_built_in (names_of classes) i own within)
    (λ i within. none_found (repeats (names_of classes)) 0 (length (names_of classes)) parts.1 i (omega arith) (omega arith)) in
    rw (map-append (λ (c : Class). c.name) built_in_classes classes) (subst (λ (own : List (List ℕ)). IsDistinct same_text (names_of built_in_classes ++ own)) (take-length (names_of classes)) apart)
