-- Lists of the numbers from 1 to n, each once.
use Rattle.std.proofs.Common.{◌≡◌, ℕ, suc, ◌<◌, ◌≤◌, Bool, true, false, ◌||◌, eqb, List, [], ◌∷◌, length, inl, inr, ⊎_elim, refl, sym, ◌∙◌, subst, true≢false, arith}
use Rattle.std.specs.List.{AllByRecursion, IsDistinct, list_any}
use Rattle.std.specs.Cmp.{nat_eq_equiv}
use Rattle.std.proofs.lemmas.Bool.{cases_Bool, cases_eq}
use Rattle.std.proofs.lemmas.Bool.Decides.{nat_tests}
use Rattle.std.proofs.lemmas.Map.Steps.{length-le_from_distinct_below}
use Rattle.std.proofs.lemmas.Map.Keys.{IsDistinct-cons}
use Rattle.std.proofs.lemmas.Map.Made.{length-le_from_is_member}
use Rattle.velodrome.specs.Cycles.{IsIn}
use Rattle.velodrome.specs.Orders.{AreNumbersTo}
use Rattle.serial_order.proofs.Members.{all_in, all_of_members}

-- A number that is found is a member.
pub in_found : (n : ℕ) (numbers : List ℕ) → list_any (eqb n) numbers ≡ true → IsIn n numbers
in_found n [] found = absurd (true≢false (sym found))
in_found n (m ∷ numbers) found = ⊎_elim (λ same. inl same) (λ other. inr (in_found n numbers (let no : eqb n m ≡ false = grind (arith, nat_tests) in rw no at found))) (cases_eq n m)

pub found_in : (n : ℕ) (numbers : List ℕ) → IsIn n numbers → list_any (eqb n) numbers ≡ true
found_in n [] in_numbers = absurd in_numbers
found_in n (m ∷ numbers) (inl same) = let yes : eqb n m ≡ true = grind (arith, nat_tests) in rw yes refl
found_in n (m ∷ numbers) (inr more) = or_true (eqb n m) (found_in n numbers more)
  where
    or_true : (b : Bool) {c : Bool} → c ≡ true → (b || c) ≡ true
    or_true true is = refl
    or_true false is = is

apart_of_missing : (n : ℕ) (numbers : List ℕ) → list_any (eqb n) numbers ≡ false → AllByRecursion (λ m. eqb n m ≡ false) numbers
apart_of_missing n numbers missing =
    all_of_members (λ m. eqb n m ≡ false) numbers (λ m in_numbers. ⊎_elim (λ same. absurd (true≢false (sym (found_in n numbers (subst (λ k. IsIn k numbers) (sym same) in_numbers)) ∙ missing))) (λ other. let no : eqb n m ≡ false = grind (arith, nat_tests) in no) (cases_eq n m))

-- A list of distinct numbers from 1 to n has at most n of them.
pub at_most : (n : ℕ) (numbers : List ℕ) → IsDistinct eqb numbers → AllByRecursion (λ k. (0 < k) × (k ≤ n)) numbers → length numbers ≤ n
at_most n numbers distinct within =
    let zero_apart = all_of_members (λ m. eqb 0 m ≡ false) numbers (λ m in_numbers. let known : (0 < m) × (m ≤ n) = all_in (λ k. (0 < k) × (k ≤ n)) numbers m within in_numbers in let no : eqb 0 m ≡ false = grind (arith, nat_tests) in no) in
    let long = length-le_from_distinct_below (0 ∷ numbers) (suc n) (IsDistinct-cons eqb 0 numbers zero_apart distinct) (λ q found. below q (in_found q (0 ∷ numbers) found)) in
    omega arith
  where
    below : (q : ℕ) → IsIn q (0 ∷ numbers) → q < suc n
    below q (inl same) = omega arith
    below q (inr more) = let known = all_in (λ k. (0 < k) × (k ≤ n)) numbers q within more in omega arith

-- Each number from 1 to n is among them.
pub each_number : (n : ℕ) (numbers : List ℕ) → AreNumbersTo n numbers → (k : ℕ) → 0 < k → k ≤ n → IsIn k numbers
each_number n numbers are k low high = ⊎_elim (λ found. in_found k numbers found) (λ missing. absurd (too_long missing)) (cases_Bool (list_any (eqb k) numbers))
  where
    too_long : list_any (eqb k) numbers ≡ false → ⊥
    too_long missing = let long : suc (length numbers) ≤ n = at_most n (k ∷ numbers) (IsDistinct-cons eqb k numbers (apart_of_missing k numbers missing) are.1) ((low, high), are.2) in let is = are.0 in omega arith

-- A list has the numbers from 1 to n, each once, if it has distinct numbers of them and all of n other distinct ones.
pub are_numbers : (n : ℕ) (numbers others : List ℕ) → IsDistinct eqb numbers → AllByRecursion (λ k. (0 < k) × (k ≤ n)) numbers → IsDistinct eqb others → length others ≡ n → ((k : ℕ) → IsIn k others → IsIn k numbers) → AreNumbersTo n numbers
are_numbers n numbers others distinct within apart long each =
    let most = at_most n numbers distinct within in
    let least = length-le_from_is_member nat_eq_equiv others numbers apart (λ q found. found_in q numbers (each q (in_found q others found))) in
    let same : length numbers ≡ n = omega arith in
    (same, distinct, within)
