-- The lines of numbered items, one after another.
use Rattle.std.proofs.Common.{◌≡◌, ℕ, zero, suc, ◌+◌, ◌<◌, ◌≤◌, List, [], ◌∷◌, ◌++◌, length, drop, get_or, flat_map, refl, sym, ap, ◌∙◌, Bool, false, Option, Some, None, inl, inr, arith, append-nil, append_assoc, add-one, add-zero, zero-add, subst}
use Rattle.std.proofs.lemmas.List.{drop_all}
use Rattle.std.specs.Prelude.{cond, nat_lt}
use Rattle.std.proofs.lemmas.Bool.{cases_Bool, false≢true, ltb-true}
use Rattle.std.proofs.lemmas.Bool.Decides.{nat_tests}
use Rattle.std.proofs.lemmas.Option.{cond_some}
use Rattle.std.specs.List.{enumerate_from, position, position_or_len}
use Rattle.std.specs.Prelude.{is_some}
use Rattle.jvms_program.specs.declared.program.Class.{Class}
use Rattle.jvms_program.specs.declared.program.Instruction.{Instruction}
use Rattle.needs.specs.declared.lack.Lack.{Lack}
use Rattle.needs.specs.Lacks.{lack_of}
use Rattle.needs.specs.Lines.{instruction_line, line_if}

no_place : (k n : ℕ) → cond (nat_lt k n) (Some k) None ≡ None → n ≤ k
no_place k n none = grind (arith, nat_tests)

module _ {X : Type 0} where
  next_rest : (xs : List X) (k : ℕ) → drop (k + 1) xs ≡ drop (suc k) xs
  next_rest xs k = rw add-one refl

  -- The lines of the remaining items are those of the first one and those of the others.
  first_of_rest : (f : ℕ × X → List ℕ) (xs : List X) (k n : ℕ) (d : X) → k < length xs →
      flat_map f (enumerate_from n (drop k xs))
      ≡ f (n, get_or xs k d) ++ flat_map f (enumerate_from (n + 1) (drop (suc k) xs))
  first_of_rest f [] k n d below = absurd (omega (arith, below))
  first_of_rest f (x ∷ xs) zero n d below = refl
  first_of_rest f (x ∷ xs) (suc k) n d below = first_of_rest f xs k n d (omega (arith, below))

  -- The lines of one more item, and those of the items after it.
  pub one_more : (f : ℕ × X → List ℕ) (xs : List X) (k : ℕ) (x : X) (before now all : List ℕ) →
      k < length xs → x ≡ get_or xs k x →
      now ≡ before ++ f (k, x) → before ++ flat_map f (enumerate_from k (drop k xs)) ≡ all →
      now ++ flat_map f (enumerate_from (k + 1) (drop (k + 1) xs)) ≡ all
  one_more f xs k x before now all below is put so_far =
      rw (next_rest xs k) (
      ap (λ b. b ++ flat_map f (enumerate_from (k + 1) (drop (suc k) xs))) put
      ∙ append_assoc before (f (k, x)) (flat_map f (enumerate_from (k + 1) (drop (suc k) xs)))
      ∙ ap (λ y. before ++ (f (k, y) ++ flat_map f (enumerate_from (k + 1) (drop (suc k) xs)))) is
      ∙ ap (λ l. before ++ l) (sym (first_of_rest f xs k k x below))
      ∙ so_far
      )

  -- Items without lines are passed over, up to the first that passes a test.
  passed_over : (f : ℕ × X → List ℕ) (p : X → Bool) → ((n : ℕ) (x : X) → p x ≡ false → f (n, x) ≡ []) →
      (xs : List X) (n : ℕ) →
      flat_map f (enumerate_from n xs) ≡ flat_map f (enumerate_from (n + position_or_len p xs) (drop (position_or_len p xs) xs))
  passed_over f p none [] n = refl
  passed_over f p none (x ∷ xs) n = elim (cases_Bool (p x)) [
    | inl here ↦ rw here (rw add-zero refl)
    | inr other ↦
        let next : 1 + position_or_len p xs ≡ suc (position_or_len p xs) = omega arith in
        let shifted : n + suc (position_or_len p xs) ≡ n + 1 + position_or_len p xs = omega arith in
        rw (other, none n x other, next, shifted) (passed_over f p none xs (n + 1))
  ]

  none_left : (xs : List X) (k n : ℕ) (f : ℕ × X → List ℕ) → length xs ≤ k → flat_map f (enumerate_from n (drop k xs)) ≡ []
  none_left xs k n f past = ap (λ (l : List X). flat_map f (enumerate_from n l)) (drop_all k xs past)

  -- No item has lines if none passes the test.
  pub none_at : (f : ℕ × X → List ℕ) (p : X → Bool) → ((n : ℕ) (x : X) → p x ≡ false → f (n, x) ≡ []) →
      (xs : List X) → position p xs ≡ None → flat_map f (enumerate_from 0 xs) ≡ []
  none_at f p none xs e =
      passed_over f p none xs 0
      ∙ none_left xs (position_or_len p xs) (0 + position_or_len p xs) f (no_place (position_or_len p xs) (length xs) e)

  -- The lines are those from the first item on that passes the test.
  pub first_at : (f : ℕ × X → List ℕ) (p : X → Bool) → ((n : ℕ) (x : X) → p x ≡ false → f (n, x) ≡ []) →
      (xs : List X) (k : ℕ) → position p xs ≡ Some k →
      (k < length xs) × (flat_map f (enumerate_from 0 xs) ≡ flat_map f (enumerate_from k (drop k xs)))
  first_at f p none xs k e =
      let found = cond_some (nat_lt (position_or_len p xs) (length xs)) (position_or_len p xs) k e in (
        subst (λ i. i < length xs) found.1 (ltb-true (position_or_len p xs) (length xs) found.0),
        passed_over f p none xs 0
            ∙ ap (λ i. flat_map f (enumerate_from i (drop (position_or_len p xs) xs))) (zero-add (position_or_len p xs))
            ∙ ap (λ i. flat_map f (enumerate_from i (drop i xs))) found.1,
      )

-- Three parts are appended one after another.
pub three_parts : (start one two three a b c : List ℕ) → one ≡ start ++ a → two ≡ one ++ b → three ≡ two ++ c → three ≡ start ++ (a ++ b ++ c)
three_parts start one two three a b c first second third =
    third
    ∙ ap (λ l. l ++ c) (second ∙ ap (λ l. l ++ b) first ∙ append_assoc start a b)
    ∙ append_assoc start (a ++ b) c

-- ---- Instructions that can run have no lines

no_line_by : (place : List ℕ) (i : Instruction) (o : Option Lack) → is_some o ≡ false → line_if place i o ≡ []
no_line_by place i None none = refl
no_line_by place i (Some lack) none = absurd (false≢true (sym none))

no_line : (program : List Class) (text_of : ℕ → List ℕ) (n : ℕ) (i : Instruction) → is_some (lack_of program i) ≡ false
    → instruction_line program text_of (n, i) ≡ []
no_line program text_of n i none = no_line_by (text_of n) i (lack_of program i) none

module _ (program : List Class) (text_of : ℕ → List ℕ) (instructions : List Instruction) (out : List ℕ) where
  -- No instruction lacks anything.
  pub no_lines : None ≡ position (λ i. is_some (lack_of program i)) instructions
      → out ≡ out ++ flat_map (instruction_line program text_of) (enumerate_from 0 instructions)
  no_lines none =
      sym (append-nil out)
      ∙ ap (λ l. out ++ l) (sym (none_at (instruction_line program text_of) (λ i. is_some (lack_of program i)) (no_line program text_of) instructions (sym none)))

  -- The first instruction that lacks something.
  pub from_first : (k : ℕ) → Some k ≡ position (λ i. is_some (lack_of program i)) instructions
      → (k < length instructions)
      × (flat_map (instruction_line program text_of) (enumerate_from 0 instructions)
      ≡ flat_map (instruction_line program text_of) (enumerate_from k (drop k instructions)))
  from_first k some = first_at (instruction_line program text_of) (λ i. is_some (lack_of program i)) (no_line program text_of) instructions k (sym some)
