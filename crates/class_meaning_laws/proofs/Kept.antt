-- Proves what a part of a class means in each pool that keeps the entries of the pool that it was assembled with.
use Rattle.std.proofs.Common.{◌≡◌, ◌≤◌, List, [], ◌∷◌, ◌++◌, length, map, Result, Ok, Err, refl, sym, ap, ◌∙◌, subst, append_assoc, append-nil}
use Rattle.jvms_file.specs.declared.class_file.Constant.{Constant}
use Rattle.jvms_file.specs.Results.{◌>>=◌}
use Rattle.pool_entries.specs.declared.fault.EntryFault.{EntryFault}
use Rattle.pool_entries.specs.Kept.{IsKept}
use Rattle.pool_entries.proofs.Lookups.{IsKept-reflexive, IsKept-transitive}
use Rattle.assembly.specs.declared.fault.AsmFault.{AsmFault}
use Rattle.assembly.specs.Faults.{with_source_fault}
use Rattle.assembled_entry_laws.proofs.Steps.{same_Ok}
use Rattle.class_meaning_laws.proofs.Names.{same_lists}

-- A sequence whose first step adds entries has a value only if that step has one.
pub numbered_step : {A B : Type 0} {G : Type 0} (r : Result A EntryFault) (f : A → Result B AsmFault) (y : B) → (with_source_fault r >>= f) ≡ Ok y → ((x : A) → r ≡ Ok x → f x ≡ Ok y → G) → G
numbered_step (Ok x) f y e next = next x refl e
numbered_step (Err d) f y e next = absurd cc

-- A part means this in each pool that keeps the entries.
pub record Means {A B : Type 0} (means : List Constant → A → B) (pool : List Constant) (b : B) (r : A × List Constant) : Type 0 where
  pub kept : IsKept pool r.1
  pub few : length r.1 ≤ 65534
  pub is : (final : List Constant) → IsKept r.1 final → means final r.0 ≡ b

-- The parts after those before mean this in each pool that keeps the entries.
pub record AllMean {A B X : Type 0} (means : List Constant → A → B) (denoted : X → B) (seen : List A) (pool : List Constant) (xs : List X) (r : List A × List Constant) : Type 0 where
  pub own : List A
  pub parts : r.0 ≡ seen ++ own
  pub kept : IsKept pool r.1
  pub few : length r.1 ≤ 65534
  pub are : (final : List Constant) → IsKept r.1 final → map (means final) own ≡ map denoted xs

pub none_mean : {A B X E : Type 0} (means : List Constant → A → B) (denoted : X → B) (seen : List A) (pool : List Constant) (r : List A × List Constant) → length pool ≤ 65534
    → ◌≡◌ {A = Result (List A × List Constant) E} (Ok (seen, pool)) (Ok r) → AllMean means denoted seen pool [] r
none_mean means denoted seen pool r few gives =
    subst (AllMean means denoted seen pool []) (same_Ok (seen, pool) r gives)
    (record { own = []; parts = sym (append-nil seen); kept = IsKept-reflexive pool; few = few; are = λ final kept. refl })

pub one_more_means : {A B X : Type 0} (means : List Constant → A → B) (denoted : X → B) (seen : List A) (pool : List Constant) (x : X) (xs : List X) (one : A × List Constant) (r : List A × List Constant)
    → Means means pool (denoted x) one → AllMean means denoted (seen ++ one.0 ∷ []) one.1 xs r → AllMean means denoted seen pool (x ∷ xs) r
one_more_means means denoted seen pool x xs one r first rest = record {
  own = one.0 ∷ rest.own;
  parts = rest.parts ∙ append_assoc seen (one.0 ∷ []) rest.own;
  kept = IsKept-transitive pool one.1 r.1 first.kept rest.kept;
  few = rest.few;
  are = λ final kept. same_lists (means final one.0) (denoted x) (map (means final) rest.own) (map denoted xs) (first.is final (IsKept-transitive one.1 r.1 final rest.kept kept)) (rest.are final kept);
}

-- Without parts before, these are all.
pub all_mean : {A B X : Type 0} (means : List Constant → A → B) (denoted : X → B) (pool : List Constant) (xs : List X) (r : List A × List Constant)
    → AllMean means denoted [] pool xs r → (final : List Constant) → IsKept r.1 final → map (means final) r.0 ≡ map denoted xs
all_mean means denoted pool xs r all final kept = ap (map (means final)) all.parts ∙ all.are final kept
