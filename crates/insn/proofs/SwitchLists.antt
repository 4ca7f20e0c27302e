-- The targets and the cases of switches, one after another, as a loop reads them.
use Rattle.std.proofs.Common.{◌≡◌, ℕ, zero, suc, ◌-◌, ◌+◌, ◌≤◌, ◌<◌, Bool, List, [], ◌∷◌, ◌++◌, Option, Some, Result, Ok, Err, ℤ, refl, sym, ap, ◌∙◌, append_assoc, arith}
use Rattle.std.specs.Int.{w32}
use Rattle.std.proofs.lemmas.List.{append-nil}
use Rattle.jvms_file.specs.declared.fault.ClassFault.{ClassFault}
use Rattle.jvms_file.specs.declared.fault.ReadError.{ReadError}
use Rattle.jvms_file.specs.declared.fault.ReadError.TheVariants as error
use Rattle.jvms_file.specs.declared.insn.SwitchCase.{SwitchCase}
use Rattle.jvms_file.specs.Results.{◌>>=◌, want, part_list_onto, part_list}
use Rattle.jvms_file.specs.Reading.{Fails}
use Rattle.jvms_file.specs.Bytes.{u4_at, signed}
use Rattle.jvms_file.specs.Instructions.{targets_at, cases_at, target_of, is_above}
use Rattle.insn.specs.Operands.{target_at, case_at}

-- The items that were read before, followed by those of a reading.
abbrev pub with_front : {X : Type 0} → List X → Result (List X × List ℕ) ClassFault → Result (List X × List ℕ) ClassFault
with_front front read = read >>= λ x. Ok (front ++ x.0, x.1)

-- One item, followed by the others.
abbrev pub and_then : {X : Type 0} → Result (X × List ℕ) ClassFault → (X × List ℕ → Result (List X × List ℕ) ClassFault) → Result (List X × List ℕ) ClassFault
and_then one others = one >>= λ x. (others x >>= λ y. Ok (x.0 ∷ y.0, y.1))

regroup : {X : Type 0} (front : List X) (x : X) (read : Result (List X × List ℕ) ClassFault) → with_front front (read >>= λ y. Ok (x ∷ y.0, y.1)) ≡ with_front (front ++ x ∷ []) read
regroup {X} front x (Ok y) = ap (λ (xs : List X). Ok (xs, y.1)) (simp append_assoc)
regroup front x (Err f) = refl

more : {X : Type 0} (front : List X) (one : Result (X × List ℕ) ClassFault) (others : X × List ℕ → Result (List X × List ℕ) ClassFault) (x : X) (after : List ℕ) → one ≡ Ok (x, after) → with_front front (and_then one others) ≡ with_front (front ++ x ∷ []) (others (x, after))
more front one others x after h = rw h (regroup front x (others (x, after)))

stops : {X : Type 0} (e : ReadError) (front : List X) (one : Result (X × List ℕ) ClassFault) (others : X × List ℕ → Result (List X × List ℕ) ClassFault) (total : Result (List X × List ℕ) ClassFault) → Fails e one → with_front front (and_then one others) ≡ total → Fails e total
stops error.Memory front one others total h so_far = tt
stops (error.Fault f) front one others total h so_far = let e : with_front front (and_then one others) ≡ Err f = rw h refl in sym so_far ∙ e

-- ---- Targets.

targets_split : (cut : ClassFault) (pc left : ℕ) (bytes : List ℕ) → targets_at cut pc (suc left) bytes ≡ and_then (target_at cut pc bytes) (λ x. targets_at cut pc left x.1)
unfolding targets_at target_at
targets_split cut pc left bytes = split (u4_at cut bytes)
  where
    split : (r : Result (ℕ × List ℕ) ClassFault) → (r >>= λ o. (targets_at cut pc left o.1 >>= λ y. Ok (target_of pc (signed w32 o.0) ∷ y.0, y.1))) ≡ and_then (r >>= λ o. Ok (target_of pc (signed w32 o.0), o.1)) (λ x. targets_at cut pc left x.1)
    split (Ok o) = refl
    split (Err f) = refl

behind_first : (cut : ClassFault) (pc : ℕ) (front : List ℕ) (left : ℕ) (r : Result (ℕ × List ℕ) ClassFault)
    → ((front : List ℕ) (bytes : List ℕ) → part_list_onto (λ seen. target_at cut pc) front left bytes ≡ with_front front (targets_at cut pc left bytes))
    → (r >>= λ x. part_list_onto (λ seen. target_at cut pc) (front ++ x.0 ∷ []) left x.1) ≡ with_front front (and_then r (λ x. targets_at cut pc left x.1))
behind_first cut pc front left (Ok x) others = others (front ++ x.0 ∷ []) x.1 ∙ sym (regroup front x.0 (targets_at cut pc left x.1))
behind_first cut pc front left (Err f) others = refl

counted_behind : (cut : ClassFault) (pc count : ℕ) (front bytes : List ℕ) → part_list_onto (λ seen. target_at cut pc) front count bytes ≡ with_front front (targets_at cut pc count bytes)
unfolding part_list_onto targets_at
counted_behind cut pc zero front bytes = ap (λ (xs : List ℕ). Ok (xs, bytes)) (sym (append-nil front))
counted_behind cut pc (suc left) front bytes =
    behind_first cut pc front left (target_at cut pc bytes) (λ others rest. counted_behind cut pc left others rest)
    ∙ ap (with_front front) (sym (targets_split cut pc left bytes))

front_of_none : {X : Type 0} (r : Result (List X × List ℕ) ClassFault) → with_front [] r ≡ r
front_of_none (Ok x) = refl
front_of_none (Err f) = refl

-- As many targets as a count says, one after another.
pub counted_targets : (cut : ClassFault) (pc count : ℕ) (bytes : List ℕ) → part_list (target_at cut pc) count bytes ≡ targets_at cut pc count bytes
counted_targets cut pc count bytes = counted_behind cut pc count [] bytes ∙ front_of_none (targets_at cut pc count bytes)

-- ---- Cases.

abbrev case_of : ℕ → ℤ → ℕ → SwitchCase
case_of pc value offset = record { value = value; target = target_of pc (signed w32 offset) }

cases_tested : (cut : ClassFault) (pc left : ℕ) (value : ℤ) (offset : ℕ) (rest : List ℕ) (t : Result (Unit {0}) ClassFault) → (t >>= λ _. (cases_at cut pc left (Some value) rest >>= λ y. Ok (case_of pc value offset ∷ y.0, y.1))) ≡ and_then (t >>= λ _. Ok (case_of pc value offset, rest)) (λ x. cases_at cut pc left (Some x.0.value) x.1)
cases_tested cut pc left value offset rest (Ok u) = refl
cases_tested cut pc left value offset rest (Err f) = refl

cases_second : (cut : ClassFault) (pc left : ℕ) (test : Bool) (value : ℤ) (r : Result (ℕ × List ℕ) ClassFault) → (r >>= λ o. (want test cut >>= λ _. (cases_at cut pc left (Some value) o.1 >>= λ y. Ok (case_of pc value o.0 ∷ y.0, y.1)))) ≡ and_then (r >>= λ o. (want test cut >>= λ _. Ok (case_of pc value o.0, o.1))) (λ x. cases_at cut pc left (Some x.0.value) x.1)
cases_second cut pc left test value (Ok o) = cases_tested cut pc left value o.0 o.1 (want test cut)
cases_second cut pc left test value (Err f) = refl

cases_first : (cut : ClassFault) (pc left : ℕ) (last : Option ℤ) (r : Result (ℕ × List ℕ) ClassFault) → (r >>= λ v. (u4_at cut v.1 >>= λ o. (want (is_above last (signed w32 v.0)) cut >>= λ _. (cases_at cut pc left (Some (signed w32 v.0)) o.1 >>= λ y. Ok (case_of pc (signed w32 v.0) o.0 ∷ y.0, y.1))))) ≡ and_then (r >>= λ v. (u4_at cut v.1 >>= λ o. (want (is_above last (signed w32 v.0)) cut >>= λ _. Ok (case_of pc (signed w32 v.0) o.0, o.1)))) (λ x. cases_at cut pc left (Some x.0.value) x.1)
cases_first cut pc left last (Ok v) = cases_second cut pc left (is_above last (signed w32 v.0)) (signed w32 v.0) (u4_at cut v.1)
cases_first cut pc left last (Err f) = refl

cases_split : (cut : ClassFault) (pc left : ℕ) (last : Option ℤ) (bytes : List ℕ) → cases_at cut pc (suc left) last bytes ≡ and_then (case_at cut pc last bytes) (λ x. cases_at cut pc left (Some x.0.value) x.1)
unfolding cases_at case_at
cases_split cut pc left last bytes = cases_first cut pc left last (u4_at cut bytes)

pub cases_go_on : (cut : ClassFault) (pc : ℕ) (front : List SwitchCase) (count i : ℕ) (last : Option ℤ) (bytes : List ℕ) (x : SwitchCase) (after : List ℕ) (total : Result (List SwitchCase × List ℕ) ClassFault) → i < count → case_at cut pc last bytes ≡ Ok (x, after)
    → with_front front (cases_at cut pc (count - i) last bytes) ≡ total → with_front (front ++ x ∷ []) (cases_at cut pc (count - (i + 1)) (Some x.value) after) ≡ total
cases_go_on cut pc front count i last bytes x after total lt h so_far =
    let left = count - (i + 1) in
    let k : count - i ≡ suc left = omega arith in
    let one : with_front front (cases_at cut pc (count - i) last bytes) ≡ with_front (front ++ x ∷ []) (cases_at cut pc left (Some x.value) after) =
    rw (k, cases_split cut pc left last bytes) (more front (case_at cut pc last bytes) (λ y. cases_at cut pc left (Some y.0.value) y.1) x after h) in
    sym one ∙ so_far

pub cases_stop : (e : ReadError) (cut : ClassFault) (pc : ℕ) (front : List SwitchCase) (count i : ℕ) (last : Option ℤ) (bytes : List ℕ) (total : Result (List SwitchCase × List ℕ) ClassFault) → i < count → Fails e (case_at cut pc last bytes)
    → with_front front (cases_at cut pc (count - i) last bytes) ≡ total → Fails e total
cases_stop e cut pc front count i last bytes total lt h so_far =
    let left = count - (i + 1) in
    let k : count - i ≡ suc left = omega arith in
    let same : cases_at cut pc (count - i) last bytes ≡ and_then (case_at cut pc last bytes) (λ x. cases_at cut pc left (Some x.0.value) x.1) = ap (λ (n : ℕ). cases_at cut pc n last bytes) k ∙ cases_split cut pc left last bytes in
    stops e front (case_at cut pc last bytes) (λ x. cases_at cut pc left (Some x.0.value) x.1) total h (sym (ap (with_front front) same) ∙ so_far)

pub cases_done : (cut : ClassFault) (pc : ℕ) (front : List SwitchCase) (count i : ℕ) (last : Option ℤ) (bytes : List ℕ) (total : Result (List SwitchCase × List ℕ) ClassFault) → count ≤ i → with_front front (cases_at cut pc (count - i) last bytes) ≡ total → total ≡ Ok (front, bytes)
unfolding cases_at
cases_done cut pc front count i last bytes total le so_far =
    let k : count - i ≡ 0 = omega arith in
    let one : with_front front (cases_at cut pc (count - i) last bytes) ≡ Ok (front, bytes) = rw k (ap (λ (xs : List SwitchCase). Ok (xs, bytes)) (append-nil front)) in
    sym so_far ∙ one
