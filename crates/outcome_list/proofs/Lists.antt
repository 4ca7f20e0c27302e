-- Lists of outcomes by kinds and names: one more outcome, and several.
use Rattle.std.proofs.Common.{◌≡◌, ℕ, zero, suc, ◌+◌, ◌-◌, ◌≤◌, List, [], ◌∷◌, ◌++◌, length, replicate, refl, ap, sym, ◌∙◌, subst, arith, true, false, length-append}
use Rattle.std.specs.List.{sum_by}
use Rattle.std.proofs.lemmas.List.{append-nil, append_assoc, drop-append-le, length-drop, nil_from_length, replicate-append-replicate}
use Rattle.std.proofs.lemmas.List.Sums.{sum_by-append, sum_by-cons}
use Rattle.jvms_machine.specs.declared.machine.Outcome.{Outcome}
use Rattle.jvms_machine.specs.declared.machine.Outcome.TheVariants as outcome
use Rattle.jvms_machine.specs.declared.machine.BlockedOn.TheVariants as blocked_on
use Rattle.jvms_machine.specs.declared.machine.BadCause.TheVariants as bad_cause
use Rattle.outcome_list.specs.declared.kind.Kind.{Kind}
use Rattle.outcome_list.specs.declared.kind.Kind.TheVariants as kind
use Rattle.outcome_list.specs.Kinds.{kind_of}
use Rattle.outcome_list.specs.Names.{Names, no_names, append_names, names_in}
use Rattle.outcome_list.specs.Stored.{Fit, first, threads_of, references_of, classes_of, outcome_by, names_after, outcomes_by}

-- An outcome is determined by its kind and its names.
told_whole : (o : Outcome) → outcome_by (kind_of o) (names_in o) ≡ o
told_whole outcome.Ran = refl
told_whole outcome.Raised = refl
told_whole (outcome.Ended true) = refl
told_whole (outcome.Ended false) = refl
told_whole (outcome.Blocked (blocked_on.Monitor reference owner)) = refl
told_whole (outcome.Blocked (blocked_on.Initialisation class owner)) = refl
told_whole (outcome.Blocked (blocked_on.Join thread)) = refl
told_whole (outcome.Blocked (blocked_on.Wait reference)) = refl
told_whole outcome.NoThread = refl
told_whole (outcome.Bad bad_cause.FellOff) = refl
told_whole (outcome.Bad bad_cause.OutOfProfile) = refl
told_whole (outcome.Bad bad_cause.Depth) = refl
told_whole (outcome.Bad bad_cause.Kind) = refl
told_whole (outcome.Bad bad_cause.Local) = refl

-- The names in an outcome are as many as its kind has.
one_fits : (o : Outcome) → Fit (kind_of o ∷ []) (names_in o)
one_fits outcome.Ran = record { threads = refl; references = refl; classes = refl }
one_fits outcome.Raised = record { threads = refl; references = refl; classes = refl }
one_fits (outcome.Ended true) = record { threads = refl; references = refl; classes = refl }
one_fits (outcome.Ended false) = record { threads = refl; references = refl; classes = refl }
one_fits (outcome.Blocked (blocked_on.Monitor reference owner)) = record { threads = refl; references = refl; classes = refl }
one_fits (outcome.Blocked (blocked_on.Initialisation class owner)) = record { threads = refl; references = refl; classes = refl }
one_fits (outcome.Blocked (blocked_on.Join thread)) = record { threads = refl; references = refl; classes = refl }
one_fits (outcome.Blocked (blocked_on.Wait reference)) = record { threads = refl; references = refl; classes = refl }
one_fits outcome.NoThread = record { threads = refl; references = refl; classes = refl }
one_fits (outcome.Bad bad_cause.FellOff) = record { threads = refl; references = refl; classes = refl }
one_fits (outcome.Bad bad_cause.OutOfProfile) = record { threads = refl; references = refl; classes = refl }
one_fits (outcome.Bad bad_cause.Depth) = record { threads = refl; references = refl; classes = refl }
one_fits (outcome.Bad bad_cause.Kind) = record { threads = refl; references = refl; classes = refl }
one_fits (outcome.Bad bad_cause.Local) = record { threads = refl; references = refl; classes = refl }

-- The names fit after one more outcome.
pub more_fit : (kinds : List Kind) (names : Names) (o : Outcome) → Fit kinds names → Fit (kinds ++ kind_of o ∷ []) (append_names names (names_in o))
more_fit kinds names o fit =
    let own = one_fits o in
    record {
      threads = length-append names.threads (names_in o).threads ∙ ap (λ n. n + length (names_in o).threads) fit.threads ∙ ap (λ n. sum_by threads_of kinds + n) own.threads ∙ sym (sum_by-append threads_of kinds (kind_of o ∷ []));
      references = length-append names.references (names_in o).references ∙ ap (λ n. n + length (names_in o).references) fit.references ∙ ap (λ n. sum_by references_of kinds + n) own.references ∙ sym (sum_by-append references_of kinds (kind_of o ∷ []));
      classes = length-append names.classes (names_in o).classes ∙ ap (λ n. n + length (names_in o).classes) fit.classes ∙ ap (λ n. sum_by classes_of kinds + n) own.classes ∙ sym (sum_by-append classes_of kinds (kind_of o ∷ []));
    }

-- ---- The names of an outcome come first, also before others

first_before : (xs ys : List ℕ) → 1 ≤ length xs → first (xs ++ ys) ≡ first xs
first_before [] ys some = absurd (omega arith)
first_before (x ∷ xs) ys some = refl

-- There are enough names for an outcome of a kind.
record Enough (k : Kind) (names : Names) : Type 0 where
  pub threads : threads_of k ≤ length names.threads
  pub references : references_of k ≤ length names.references
  pub classes : classes_of k ≤ length names.classes

enough : (k : Kind) (kinds : List Kind) (names : Names) → Fit (k ∷ kinds) names → Enough k names
enough k kinds names fit =
    let t = fit.threads ∙ sum_by-cons threads_of k kinds in
    let r = fit.references ∙ sum_by-cons references_of k kinds in
    let c = fit.classes ∙ sum_by-cons classes_of k kinds in
    record { threads = omega arith; references = omega arith; classes = omega arith }

less : (whole first rest : ℕ) → whole ≡ first + rest → whole - first ≡ rest
less whole first rest is = omega arith

behind_fits : (k : Kind) (kinds : List Kind) (names : Names) → Fit (k ∷ kinds) names → Fit kinds (names_after k names)
behind_fits k kinds names fit =
    let t = fit.threads ∙ sum_by-cons threads_of k kinds in
    let r = fit.references ∙ sum_by-cons references_of k kinds in
    let c = fit.classes ∙ sum_by-cons classes_of k kinds in
    record {
      threads = length-drop (threads_of k) names.threads ∙ less _ _ _ t;
      references = length-drop (references_of k) names.references ∙ less _ _ _ r;
      classes = length-drop (classes_of k) names.classes ∙ less _ _ _ c;
    }

told_before : (k : Kind) (names others : Names) → Enough k names → outcome_by k (append_names names others) ≡ outcome_by k names
told_before kind.Ran names others is = refl
told_before kind.Raised names others is = refl
told_before kind.Last names others is = refl
told_before kind.Ended names others is = refl
told_before kind.NoThread names others is = refl
told_before kind.FellOff names others is = refl
told_before kind.OutOfProfile names others is = refl
told_before kind.Depth names others is = refl
told_before kind.WrongKind names others is = refl
told_before kind.Local names others is = refl
told_before kind.Monitor names others is =
    rw (first_before names.threads others.threads is.threads, first_before names.references others.references is.references) refl
told_before kind.Initialisation names others is =
    rw (first_before names.threads others.threads is.threads, first_before names.classes others.classes is.classes) refl
told_before kind.Join names others is = rw (first_before names.threads others.threads is.threads) refl
told_before kind.Wait names others is = rw (first_before names.references others.references is.references) refl

behind_before : (k : Kind) (names others : Names) → Enough k names → names_after k (append_names names others) ≡ append_names (names_after k names) others
behind_before k names others is =
    rw (drop-append-le (threads_of k) names.threads others.threads is.threads, drop-append-le (references_of k) names.references others.references is.references, drop-append-le (classes_of k) names.classes others.classes is.classes)
    refl

-- Without outcomes there are no names.
none_left : (names : Names) → Fit [] names → names ≡ no_names
none_left names fit =
    rw (nil_from_length names.threads fit.threads, nil_from_length names.references fit.references, nil_from_length names.classes fit.classes) refl

none_before : (names : Names) → append_names no_names names ≡ names
none_before names = refl

-- One more outcome after those of the list.
pub one_more : (kinds : List Kind) (names : Names) (o : Outcome) → Fit kinds names → outcomes_by (kinds ++ kind_of o ∷ []) (append_names names (names_in o)) ≡ outcomes_by kinds names ++ o ∷ []
one_more [] names o fit =
    ap (λ (n : Names). outcome_by (kind_of o) (append_names n (names_in o)) ∷ []) (none_left names fit) ∙ ap (λ x. x ∷ []) (told_whole o)
one_more (k ∷ kinds) names o fit =
    let is = enough k kinds names fit in
    ap (λ x. x ∷ outcomes_by (kinds ++ kind_of o ∷ []) (names_after k (append_names names (names_in o)))) (told_before k names (names_in o) is)
    ∙ ap (λ n. outcome_by k names ∷ outcomes_by (kinds ++ kind_of o ∷ []) n) (behind_before k names (names_in o) is)
    ∙ ap (λ l. outcome_by k names ∷ l) (one_more kinds (names_after k names) o (behind_fits k kinds names fit))

-- There are as many outcomes as kinds.
pub as_many : (kinds : List Kind) (names : Names) → length (outcomes_by kinds names) ≡ length kinds
as_many [] names = refl
as_many (k ∷ kinds) names = ap suc (as_many kinds (names_after k names))

-- ---- Turns that ran, which have no names

none_behind : (names : Names) → append_names names no_names ≡ names
none_behind names = rw (append-nil names.threads, append-nil names.references, append-nil names.classes) refl

one_ran : (kinds : List Kind) (names : Names) → Fit kinds names → Fit (kinds ++ kind.Ran ∷ []) names
one_ran kinds names fit = subst (Fit (kinds ++ kind.Ran ∷ [])) (none_behind names) (more_fit kinds names outcome.Ran fit)

pub ran_fit : (times : ℕ) (kinds : List Kind) (names : Names) → Fit kinds names → Fit (kinds ++ replicate times kind.Ran) names
ran_fit zero kinds names fit = subst (λ l. Fit l names) (sym (append-nil kinds)) fit
ran_fit (suc times) kinds names fit =
    subst (λ l. Fit l names) (append_assoc kinds (kind.Ran ∷ []) (replicate times kind.Ran))
    (ran_fit times (kinds ++ kind.Ran ∷ []) names (one_ran kinds names fit))

-- A number of outcomes `Ran` after those of the list.
pub ran_more : (times : ℕ) (kinds : List Kind) (names : Names) → Fit kinds names
    → outcomes_by (kinds ++ replicate times kind.Ran) names ≡ outcomes_by kinds names ++ replicate times outcome.Ran
ran_more zero kinds names fit = ap (λ l. outcomes_by l names) (append-nil kinds) ∙ sym (append-nil (outcomes_by kinds names))
ran_more (suc times) kinds names fit =
    ap (λ l. outcomes_by l names) (sym (append_assoc kinds (kind.Ran ∷ []) (replicate times kind.Ran)))
    ∙ ran_more times (kinds ++ kind.Ran ∷ []) names (one_ran kinds names fit)
    ∙ ap (λ l. l ++ replicate times outcome.Ran) (ap (outcomes_by (kinds ++ kind.Ran ∷ [])) (sym (none_behind names)) ∙ one_more kinds names outcome.Ran fit)
    ∙ append_assoc (outcomes_by kinds names) (outcome.Ran ∷ []) (replicate times outcome.Ran)

-- One more kind `Ran`.
pub once_more : (times : ℕ) (kinds : List Kind) → (kinds ++ replicate times kind.Ran) ++ kind.Ran ∷ [] ≡ kinds ++ replicate (times + 1) kind.Ran
once_more times kinds =
    append_assoc kinds (replicate times kind.Ran) (kind.Ran ∷ []) ∙ ap (λ l. kinds ++ l) (replicate-append-replicate times 1 kind.Ran)
