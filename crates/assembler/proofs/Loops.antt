-- Proves that loops over a list that append the results of steps meet definitions that do so by recursion.
use Rattle.std.proofs.Common.{◌≡◌, ◌≤◌, ◌<◌, ℕ, ◌+◌, List, [], ◌∷◌, ◌++◌, length, drop, get_or, Result, Ok, Err, sym, ap, subst, ◌∙◌}
use Rattle.std.proofs.Math.ListN.{drop_of_length-le}
use Rattle.std.proofs.lemmas.List.{drop_more}
use Rattle.jvms_file.specs.declared.class_file.Constant.{Constant}
use Rattle.jvms_file.specs.Results.{◌>>=◌}
use Rattle.pool_entries.specs.declared.fault.EntryFault.{EntryFault}
use Rattle.pool_entries.specs.Entries.{Fails}
use Rattle.assembly.specs.declared.fault.AsmFault.{AsmFault}
use Rattle.assembly.specs.Faults.{Answers}
use Rattle.assembler.proofs.Failing.{fails_on, answers_on}

pub record IsLoop {X N E : Type 0} (onto : List N → List Constant → List X → Result (List N × List Constant) E) (step : List Constant → X → Result (N × List Constant) E) : Type 0 where
  pub ends : (seen : List N) (pool : List Constant) → onto seen pool [] ≡ Ok (seen, pool)
  pub steps : (seen : List N) (pool : List Constant) (x : X) (xs : List X) → onto seen pool (x ∷ xs) ≡ (step pool x >>= λ n. onto (seen ++ n.0 ∷ []) n.1 xs)

-- ---- The rest of a list

pub at_front : {X : Type 0} (xs : List X) (i : ℕ) (x : X) → i < length xs → x ≡ get_or xs i x → drop i xs ≡ x ∷ drop (i + 1) xs
at_front xs i x below is = drop_more xs i x below ∙ ap (λ y. y ∷ drop (i + 1) xs) (sym is)

pub none_left : {X : Type 0} (xs : List X) (i : ℕ) → length xs ≤ i → drop i xs ≡ []
none_left xs i past = drop_of_length-le xs past

-- ---- The iterations of a loop

pub goes_on : {X N E : Type 0} {onto : List N → List Constant → List X → Result (List N × List Constant) E} {step : List Constant → X → Result (N × List Constant) E}
    → IsLoop onto step → (seen : List N) (pool new : List Constant) (xs rest : List X) (x : X) (n : N) (left : List X) (whole : Result (List N × List Constant) E)
    → left ≡ x ∷ rest → step pool x ≡ Ok (n, new) → onto seen pool left ≡ whole → onto (seen ++ n ∷ []) new rest ≡ whole
goes_on {X} {N} {E} {onto} loop seen pool new xs rest x n left whole here is so_far =
    let next : (N × List Constant) → Result (List N × List Constant) E = λ m. onto (seen ++ m.0 ∷ []) m.1 rest in
    sym (ap (λ (r : Result (N × List Constant) E). r >>= next) is) ∙ sym (loop.steps seen pool x rest) ∙ sym (ap (onto seen pool) here) ∙ so_far

pub is_done : {X N E : Type 0} {onto : List N → List Constant → List X → Result (List N × List Constant) E} {step : List Constant → X → Result (N × List Constant) E}
    → IsLoop onto step → (seen : List N) (pool : List Constant) (left : List X) (whole : Result (List N × List Constant) E)
    → left ≡ [] → onto seen pool left ≡ whole → whole ≡ Ok (seen, pool)
is_done {X} {N} {E} {onto} loop seen pool left whole none so_far = sym so_far ∙ ap (onto seen pool) none ∙ loop.ends seen pool

-- The fault of a step is that of the loop.
pub entries_stop : {X N : Type 0} {onto : List N → List Constant → List X → Result (List N × List Constant) EntryFault} {step : List Constant → X → Result (N × List Constant) EntryFault}
    → IsLoop onto step → (e : EntryFault) (seen : List N) (pool : List Constant) (rest : List X) (x : X) (left : List X) (whole : Result (List N × List Constant) EntryFault)
    → left ≡ x ∷ rest → Fails e (step pool x) → onto seen pool left ≡ whole → Fails e whole
entries_stop {X} {N} {onto} {step} loop e seen pool rest x left whole here fails so_far =
    let next : (N × List Constant) → Result (List N × List Constant) EntryFault = λ m. onto (seen ++ m.0 ∷ []) m.1 rest in
    let path : (step pool x >>= next) ≡ whole = sym (loop.steps seen pool x rest) ∙ sym (ap (onto seen pool) here) ∙ so_far in
    subst (λ (r : Result (List N × List Constant) EntryFault). Fails e r) path (fails_on e (step pool x) next fails)

pub assembling_stops : {X N : Type 0} {onto : List N → List Constant → List X → Result (List N × List Constant) AsmFault} {step : List Constant → X → Result (N × List Constant) AsmFault}
    → IsLoop onto step → (e : AsmFault) (seen : List N) (pool : List Constant) (rest : List X) (x : X) (left : List X) (whole : Result (List N × List Constant) AsmFault)
    → left ≡ x ∷ rest → Answers (Err e) (step pool x) → onto seen pool left ≡ whole → Answers (Err e) whole
assembling_stops {X} {N} {onto} {step} loop e seen pool rest x left whole here fails so_far =
    let next : (N × List Constant) → Result (List N × List Constant) AsmFault = λ m. onto (seen ++ m.0 ∷ []) m.1 rest in
    let path : (step pool x >>= next) ≡ whole = sym (loop.steps seen pool x rest) ∙ sym (ap (onto seen pool) here) ∙ so_far in
    subst (λ (r : Result (List N × List Constant) AsmFault). Answers (Err e) r) path (answers_on e (step pool x) next fails)
