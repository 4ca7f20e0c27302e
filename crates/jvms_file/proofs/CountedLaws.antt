-- Reading consecutive things.
use Rattle.std.proofs.Common.{◌≡◌, ℕ, zero, suc, ◌-◌, ◌<◌, ◌≤◌, List, [], ◌∷◌, ◌++◌, refl, ap, sym, ◌∙◌, arith}
use Rattle.std.specs.Prelude.{Result, Ok}
use Rattle.jvms_file.specs.declared.fault.ClassFault.{ClassFault}
use Rattle.jvms_file.specs.declared.fault.ReadError.{ReadError}
use Rattle.jvms_file.specs.declared.fault.ReadError.TheVariants as error
use Rattle.jvms_file.specs.Reading.{Fails}
use Rattle.jvms_file.specs.Results.{◌>>=◌, part_list_onto}

-- A count of things that isn't 0 is the first thing, followed by the others.
pub part_list_onto-suc : {A : Type 0} (thing : List A → List ℕ → Result (A × List ℕ) ClassFault) (seen : List A) (left : ℕ) (bytes : List ℕ) → 0 < left → part_list_onto thing seen left bytes ≡ (thing seen bytes >>= λ x. part_list_onto thing (seen ++ x.0 ∷ []) (left - 1) x.1)
unfolding part_list_onto
part_list_onto-suc thing seen zero bytes some = absurd (omega arith)
part_list_onto-suc thing seen (suc left) bytes some = rw (minus_one left) refl
  where
    minus_one : (left : ℕ) → suc left - 1 ≡ left
    minus_one left = omega arith

-- A thing that was read joins those that were seen.
pub counted_more : {A : Type 0} (thing : List A → List ℕ → Result (A × List ℕ) ClassFault) (seen : List A) (left : ℕ) (bytes : List ℕ) (all : Result (List A × List ℕ) ClassFault) (x : A) (rest : List ℕ) → 0 < left → part_list_onto thing seen left bytes ≡ all → thing seen bytes ≡ Ok (x, rest) → part_list_onto thing (seen ++ x ∷ []) (left - 1) rest ≡ all
counted_more thing seen left bytes all x rest some whole is =
    sym (ap (λ r. r >>= λ y. part_list_onto thing (seen ++ y.0 ∷ []) (left - 1) y.1) is) ∙ sym (part_list_onto-suc thing seen left bytes some) ∙ whole

-- If none are left, those that were seen are all.
pub counted_all : {A : Type 0} (thing : List A → List ℕ → Result (A × List ℕ) ClassFault) (seen : List A) (left : ℕ) (rest : List ℕ) (all : Result (List A × List ℕ) ClassFault) → left ≤ 0 → part_list_onto thing seen left rest ≡ all → all ≡ Ok (seen, rest)
unfolding part_list_onto
counted_all thing seen zero rest all none whole = sym whole
counted_all thing seen (suc left) rest all none whole = absurd (omega arith)

-- The error of the next thing is the error of all.
pub counted_fails : {A : Type 0} (thing : List A → List ℕ → Result (A × List ℕ) ClassFault) (seen : List A) (left : ℕ) (bytes : List ℕ) (all : Result (List A × List ℕ) ClassFault) (e : ReadError) → 0 < left → part_list_onto thing seen left bytes ≡ all → Fails e (thing seen bytes) → Fails e all
counted_fails thing seen left bytes all (error.Fault f) some whole is =
    sym whole ∙ part_list_onto-suc thing seen left bytes some ∙ ap (λ r. r >>= λ y. part_list_onto thing (seen ++ y.0 ∷ []) (left - 1) y.1) is
counted_fails thing seen left bytes all error.Memory some whole is = tt
