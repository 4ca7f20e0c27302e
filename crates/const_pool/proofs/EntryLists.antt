-- The entries of a pool, one after another.
use Rattle.std.proofs.Common.{◌≡◌, ℕ, zero, suc, ◌-◌, ◌<◌, ◌≤◌, true, false, cond, ◌&&◌, nat_lt, List, [], ◌∷◌, ◌++◌, length, refl, ap, sym, ◌∙◌, arith, append-nil}
use Rattle.std.proofs.lemmas.Bool.Decides.{nat_tests}
use Rattle.std.specs.Prelude.{Result, Ok, Err}
use Rattle.jvms_file.specs.declared.class_file.Constant.{Constant}
use Rattle.jvms_file.specs.declared.class_file.Constant.TheVariants as constant
use Rattle.jvms_file.specs.declared.fault.ClassFault.{ClassFault}
use Rattle.jvms_file.specs.declared.fault.ReadError.{ReadError}
use Rattle.jvms_file.specs.declared.fault.ReadError.TheVariants as error
use Rattle.jvms_file.specs.Reading.{Fails}
use Rattle.jvms_file.specs.Results.{◌>>=◌}
use Rattle.jvms_file.specs.ConstantPool.{takes_two, constant_at, entries_at}
use Rattle.jvms_file.proofs.FrontLaws.{with_front, with_front-append}
use Rattle.const_pool.specs.Numbered.{with_unusable}

-- The result of reading a pool.
abbrev Read : Type 0
Read = Result (List Constant × List ℕ) ClassFault

-- The entries after one that was read, with that one at the front.
abbrev behind_entry : ClassFault → ℕ → Constant × List ℕ → Read
behind_entry cut left c = with_front (with_unusable c.0 left) (entries_at cut (left - length (with_unusable c.0 left)) c.1)

one_more : (a : Constant) (r : Read) → (r >>= λ cs. Ok (a ∷ cs.0, cs.1)) ≡ with_front (a ∷ []) r
one_more a (Ok x) = refl
one_more a (Err f) = refl

two_more : (a b : Constant) (r : Read) → (r >>= λ cs. Ok (a ∷ b ∷ cs.0, cs.1)) ≡ with_front (a ∷ b ∷ []) r
two_more a b (Ok x) = refl
two_more a b (Err f) = refl

is_more : (left : ℕ) → nat_lt 1 (suc (suc left)) ≡ true
is_more left = grind (arith, nat_tests)

minus_two : (left : ℕ) → suc (suc left) - 2 ≡ left
minus_two left = omega arith

minus_one : (left : ℕ) → suc (suc left) - 1 ≡ suc left
minus_one left = omega arith

-- The last entry, whether it takes two numbers or one.
last_entry : (cut : ClassFault) (r : Result (Constant × List ℕ) ClassFault) → (r >>= λ c. Ok (c.0 ∷ [], c.1)) ≡ (r >>= behind_entry cut 1)
unfolding entries_at
last_entry cut (Err f) = refl
last_entry cut (Ok c) =
    elim (takes_two c.0) as (λ two. Ok (c.0 ∷ [], c.1) ≡ with_front (cond (two && false) (c.0 ∷ constant.Unusable ∷ []) (c.0 ∷ [])) (entries_at cut (1 - length (cond (two && false) (c.0 ∷ constant.Unusable ∷ []) (c.0 ∷ []))) c.1)) [ true ↦ refl | false ↦ refl ]

-- An entry that isn't the last.
next_entry : (cut : ClassFault) (left : ℕ) (r : Result (Constant × List ℕ) ClassFault) → (r >>= λ c. cond (takes_two c.0) (entries_at cut left c.1 >>= λ cs. Ok (c.0 ∷ constant.Unusable ∷ cs.0, cs.1)) (entries_at cut (suc left) c.1 >>= λ cs. Ok (c.0 ∷ cs.0, cs.1))) ≡ (r >>= behind_entry cut (suc (suc left)))
next_entry cut left (Err f) = refl
next_entry cut left (Ok c) =
    elim (takes_two c.0) as (λ two. cond two (entries_at cut left c.1 >>= λ cs. Ok (c.0 ∷ constant.Unusable ∷ cs.0, cs.1)) (entries_at cut (suc left) c.1 >>= λ cs. Ok (c.0 ∷ cs.0, cs.1)) ≡ with_front (cond (two && nat_lt 1 (suc (suc left))) (c.0 ∷ constant.Unusable ∷ []) (c.0 ∷ [])) (entries_at cut (suc (suc left) - length (cond (two && nat_lt 1 (suc (suc left))) (c.0 ∷ constant.Unusable ∷ []) (c.0 ∷ []))) c.1)) [
      | true ↦ rw is_more (rw minus_two (two_more c.0 constant.Unusable (entries_at cut left c.1)))
      | false ↦ rw minus_one (one_more c.0 (entries_at cut (suc left) c.1))
    ]

-- A count of numbers that isn't 0 has the first entry, followed by the others.
pub entries_at-suc : (cut : ClassFault) (left : ℕ) (bytes : List ℕ) → 0 < left → entries_at cut left bytes ≡ (constant_at cut bytes >>= behind_entry cut left)
unfolding entries_at
entries_at-suc cut zero bytes some = absurd (omega arith)
entries_at-suc cut (suc zero) bytes some = last_entry cut (constant_at cut bytes)
entries_at-suc cut (suc (suc left)) bytes some = next_entry cut left (constant_at cut bytes)

-- One more entry moves from those that are left to those that were read.
pub more_entries : (front : List Constant) (cut : ClassFault) (left : ℕ) (bytes : List ℕ) (c : Constant) (rest : List ℕ) → 0 < left → constant_at cut bytes ≡ Ok (c, rest) → with_front (front ++ with_unusable c left) (entries_at cut (left - length (with_unusable c left)) rest) ≡ with_front front (entries_at cut left bytes)
more_entries front cut left bytes c rest some is =
    with_front-append front (with_unusable c left) (entries_at cut (left - length (with_unusable c left)) rest)
    ∙ ap (with_front front) (sym (entries_at-suc cut left bytes some ∙ ap (λ r. r >>= behind_entry cut left) is))

-- The fault of the next entry is the fault of all.
pub failed_entries : (front : List Constant) (cut : ClassFault) (left : ℕ) (bytes : List ℕ) (f : ClassFault) → 0 < left → constant_at cut bytes ≡ Err f → with_front front (entries_at cut left bytes) ≡ Err f
failed_entries front cut left bytes f some is =
    ap (with_front front) (entries_at-suc cut left bytes some ∙ ap (λ r. r >>= behind_entry cut left) is)

-- If none are left, the entries that were read are all.
pub no_more_entries : (front : List Constant) (cut : ClassFault) (left : ℕ) (rest : List ℕ) (all : Read) → left ≤ 0 → with_front front (entries_at cut left rest) ≡ all → all ≡ Ok (front, rest)
unfolding entries_at
no_more_entries front cut zero rest all none whole = sym whole ∙ ap (λ xs. Ok (xs, rest)) (append-nil front)
no_more_entries front cut (suc left) rest all none whole = absurd (omega arith)

-- The error of the next entry is the error of all.
pub failed_reading : (front : List Constant) (cut : ClassFault) (left : ℕ) (bytes : List ℕ) (all : Read) (e : ReadError) → 0 < left → with_front front (entries_at cut left bytes) ≡ all → Fails e (constant_at cut bytes) → Fails e all
failed_reading front cut left bytes all (error.Fault f) some whole is = sym whole ∙ failed_entries front cut left bytes f some is
failed_reading front cut left bytes all error.Memory some whole is = tt
