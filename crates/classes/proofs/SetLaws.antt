-- Sets of numbers, 32 to an item of an array.
use Rattle.std.proofs.Common.{◌≡◌, ℕ, zero, suc, ◌*◌, ◌/◌, ◌%◌, ◌^◌, ◌<◌, Bool, true, false, cond, ◌&&◌, ◌||◌, List, [], ◌∷◌, ◌++◌, eqb, max, Option, Some, is_some, Result, Ok, Err, refl, sym, ap, ◌∙◌, ⊎_elim, arith, append_assoc, w32}
use Rattle.std.specs.Prelude.{IfOk, bit_or}
use Rattle.std.specs.Int.{bit_at}
use Rattle.std.specs.List.{list_any}
use Rattle.std.proofs.lemmas.Bool.{cases_eq, eq-eqb, ne_eqb}
use Rattle.std.proofs.lemmas.Bool.Decides.{nat_tests}
use Rattle.std.proofs.lemmas.List.{append-nil}
use Rattle.std.proofs.lemmas.List.Folds.{list_all-append, list_any-append}
use Rattle.std.proofs.lemmas.Nat.Bits.{bit_at-lt, bit_at-zero, bit_at_or, bit_at_set_other, bit_at_set_same}
use Rattle.classes.specs.Ancestors.{AreTrees, HasNumbersOf, are_known, has_number, is_in_set, root_at}
use Rattle.classes.specs.PersistentArrays.{HasZeros, IsTree, IsUnionOfTrees, item_at}
use Rattle.classes.proofs.UnionLaws.{item_on, zero_item, zero_tree}

-- ---- One more number

itself : (n number : ℕ) (b : Bool) → n ≡ number → true ≡ (eqb n number || b)
itself n number b same = let e : eqb n number ≡ true = grind (arith, nat_tests) in rw e refl

another : (n number : ℕ) (b : Bool) → (n ≡ number → ⊥) → b ≡ (eqb n number || b)
another n number b other = let e : eqb n number ≡ false = grind (arith, nat_tests) in rw e refl

same_number : (n number : ℕ) → n / 32 ≡ number / 32 → n % 32 ≡ number % 32 → n ≡ number
same_number n number items bits = omega arith

-- The bits of an item of the new array, from those of the old one.
module _ (old new : ℕ → ℕ) (number : ℕ) (n : ℕ)
    (put : new (n / 32) ≡ cond (eqb (n / 32) (number / 32)) (bit_or (old (number / 32)) (1 * 2 ^ (number % 32) % 4294967296)) (old (n / 32))) where
  here_is : n / 32 ≡ number / 32 → new (n / 32) ≡ bit_or (old (number / 32)) (1 * 2 ^ (number % 32) % 4294967296)
  here_is here = put ∙ ap (λ b. cond b (bit_or (old (number / 32)) (1 * 2 ^ (number % 32) % 4294967296)) (old (n / 32))) (eq-eqb (n / 32) (number / 32) here)

  elsewhere_is : (n / 32 ≡ number / 32 → ⊥) → new (n / 32) ≡ old (n / 32)
  elsewhere_is other = put ∙ ap (λ b. cond b (bit_or (old (number / 32)) (1 * 2 ^ (number % 32) % 4294967296)) (old (n / 32))) (ne_eqb (n / 32) (number / 32) other)

  pub one_number : eqb (bit_at (new (n / 32)) (n % 32)) 1 ≡ (eqb n number || eqb (bit_at (old (n / 32)) (n % 32)) 1)
  one_number =
      ⊎_elim
      (λ (here : n / 32 ≡ number / 32).
      ⊎_elim
      (λ (it : n % 32 ≡ number % 32).
      ap (λ w. eqb (bit_at w (n % 32)) 1) (here_is here) ∙ ap (λ k. eqb (bit_at (bit_or (old (number / 32)) (1 * 2 ^ (number % 32) % 4294967296)) k) 1) it
      ∙ ap (λ b. eqb b 1) (bit_at_set_same w32 (old (number / 32)) (number % 32) (omega arith))
      ∙ itself n number (eqb (bit_at (old (n / 32)) (n % 32)) 1) (same_number n number here it))
      (λ (other : n % 32 ≡ number % 32 → ⊥).
      ap (λ w. eqb (bit_at w (n % 32)) 1) (here_is here)
      ∙ ap (λ b. eqb b 1) (bit_at_set_other w32 (old (number / 32)) (number % 32) (omega arith) (n % 32) other)
      ∙ ap (λ k. eqb (bit_at (old k) (n % 32)) 1) (sym here)
      ∙ another n number (eqb (bit_at (old (n / 32)) (n % 32)) 1) (λ same. other (ap (λ k. k % 32) same)))
      (cases_eq (n % 32) (number % 32)))
      (λ (elsewhere : n / 32 ≡ number / 32 → ⊥).
      ap (λ w. eqb (bit_at w (n % 32)) 1) (elsewhere_is elsewhere)
      ∙ another n number (eqb (bit_at (old (n / 32)) (n % 32)) 1) (λ same. elsewhere (ap (λ k. k / 32) same)))
      (cases_eq (n / 32) (number / 32))

pub with_number : {E : Type 0} (r : Result ℕ E) (old new : List (List ℕ)) (levels root number item : ℕ) → item ≡ item_at old levels root (number / 32)
    → IfOk r (λ set. (i : ℕ) → i < 4 ^ levels → item_at new levels set i ≡ cond (eqb i (number / 32)) (bit_or item (1 * 2 ^ (number % 32) % 4294967296)) (item_at old levels root i))
    → IfOk r (λ set. (n : ℕ) → n / 32 < 4 ^ levels → has_number new levels set n ≡ (eqb n number || has_number old levels root n))
with_number (Err e) old new levels root number item was items = tt
with_number (Ok set) old new levels root number item was items = λ n within.
    one_number (item_at old levels root) (item_at new levels set) number n
    (items (n / 32) within ∙ ap (λ w. cond (eqb (n / 32) (number / 32)) (bit_or w (1 * 2 ^ (number % 32) % 4294967296)) (item_at old levels root (n / 32))) was)

-- ---- The numbers of two sets

greater_bit : (x y : ℕ) → x < 2 → y < 2 → eqb (max x y) 1 ≡ (eqb x 1 || eqb y 1)
greater_bit zero zero low_x low_y = refl
greater_bit zero (suc zero) low_x low_y = refl
greater_bit (suc zero) zero low_x low_y = refl
greater_bit (suc zero) (suc zero) low_x low_y = refl
greater_bit (suc (suc x)) y low_x low_y = absurd (omega (arith, low_x))
greater_bit zero (suc (suc y)) low_x low_y = absurd (omega (arith, low_y))
greater_bit (suc zero) (suc (suc y)) low_x low_y = absurd (omega (arith, low_y))

pub numbers_of_union : (old new : List (List ℕ)) (levels a b root n : ℕ) → IsUnionOfTrees old new levels a b root
    → has_number new levels root n ≡ (has_number old levels a n || has_number old levels b n)
numbers_of_union old new levels a b root n union =
    ap (λ w. eqb (bit_at w (n % 32)) 1) (union.items (n / 32))
    ∙ ap (λ b. eqb b 1) (bit_at_or (item_at old levels a (n / 32)) (item_at old levels b (n / 32)) (n % 32))
    ∙ greater_bit (bit_at (item_at old levels a (n / 32)) (n % 32)) (bit_at (item_at old levels b (n / 32)) (n % 32))
    (bit_at-lt (item_at old levels a (n / 32)) (n % 32)) (bit_at-lt (item_at old levels b (n / 32)) (n % 32))

-- ---- Set after set

-- The set of a root has what the sets of these classes have, which are in the old nodes.
pub record AreUnited (old nodes : List (List ℕ)) (levels : ℕ) (roots : List (Option ℕ)) (supers : List ℕ) (root : ℕ) : Type 0 where
  pub more : (more : List (List ℕ)) × (nodes ≡ old ++ more)
  pub tree : IsTree nodes levels root
  pub known : are_known roots supers ≡ true
  pub numbers : HasNumbersOf old levels roots supers (has_number nodes levels root)

module _ (old : List (List ℕ)) (levels : ℕ) (roots : List (Option ℕ)) where
  pub none_united : HasZeros old → AreUnited old old levels roots [] 0
  none_united zeros = record {
    more = ([], sym (append-nil old));
    tree = zero_tree old zeros levels;
    known = refl;
    numbers = record {
      each = λ n. ap (λ w. eqb (bit_at w (n % 32)) 1) (zero_item old zeros levels (n / 32)) ∙ ap (λ b. eqb b 1) (bit_at-zero (n % 32));
    };
  }

  module _ (nodes new more : List (List ℕ)) (supers : List ℕ) (root super other union : ℕ)
      (trees : AreTrees old levels roots) (before : AreUnited old nodes levels roots supers root) (there : root_at roots super ≡ Some other)
      (are : new ≡ nodes ++ more) (is : IsUnionOfTrees nodes new levels root other union) where
    other_numbers : (n : ℕ) → has_number nodes levels other n ≡ is_in_set old levels (root_at roots super) n
    other_numbers n =
        ap (λ w. eqb (bit_at w (n % 32)) 1) (item_on old nodes before.more.0 before.more.1 levels other (n / 32) (trees.each super other there))
        ∙ ap (λ o. is_in_set old levels o n) (sym there)

    or_last : (a b : Bool) → (a || b) ≡ (a || (b || false))
    or_last true b = refl
    or_last false true = refl
    or_last false false = refl

    pub one_united : AreUnited old new levels roots (supers ++ super ∷ []) union
    one_united = record {
      more = (before.more.0 ++ more, are ∙ ap (λ (ns : List (List ℕ)). ns ++ more) before.more.1 ∙ append_assoc old before.more.0 more);
      tree = is.tree;
      known =
          list_all-append (λ s. is_some (root_at roots s)) supers (super ∷ [])
          ∙ (λ i. before.known i && (is_some (there i) && true));
      numbers = record {
        each = λ n.
            numbers_of_union nodes new levels root other union n is
            ∙ (λ i. before.numbers.each n i || other_numbers n i)
            ∙ or_last (list_any (λ s. is_in_set old levels (root_at roots s) n) supers) (is_in_set old levels (root_at roots super) n)
            ∙ sym (list_any-append (λ s. is_in_set old levels (root_at roots s) n) supers (super ∷ []));
      };
    }
