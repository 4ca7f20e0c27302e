-- Lists of outcomes, by their kinds and all their names.
use Rattle.std.specs.Prelude.{◌≡◌, ℕ, List, [], ◌∷◌, length, drop, true, false}
use Rattle.std.specs.List.{sum_by}
use Rattle.jvms_machine.specs.declared.machine.Outcome.{Outcome}
use Rattle.jvms_machine.specs.declared.machine.Outcome.TheVariants as outcome
use Rattle.jvms_machine.specs.declared.machine.BlockedOn.TheVariants as blocked_on
use Rattle.jvms_machine.specs.declared.machine.BadCause.TheVariants as bad_cause
use Rattle.outcome_list.specs.declared.kind.Kind.{Kind}
use Rattle.outcome_list.specs.declared.kind.Kind.TheVariants as kind
use Rattle.outcome_list.specs.Names.{Names}

-- Return the numbers of threads, references and classes that an outcome of a kind names.
abbrev pub threads_of : Kind → ℕ
threads_of kind.Monitor = 1
threads_of kind.Initialisation = 1
threads_of kind.Join = 1
threads_of _ = 0

abbrev pub references_of : Kind → ℕ
references_of kind.Monitor = 1
references_of kind.Wait = 1
references_of _ = 0

abbrev pub classes_of : Kind → ℕ
classes_of kind.Initialisation = 1
classes_of _ = 0

-- The names fit the kinds: there are exactly as many as outcomes of these kinds have.
pub record Fit (kinds : List Kind) (names : Names) : Type 0 where
  pub threads : length names.threads ≡ sum_by threads_of kinds
  pub references : length names.references ≡ sum_by references_of kinds
  pub classes : length names.classes ≡ sum_by classes_of kinds

-- Returns the first name, which exists if the names fit.
abbrev pub first : List ℕ → ℕ
first [] = 0
first (name ∷ names) = name

-- Returns the outcome of a kind with the first of these names.
abbrev pub outcome_by : Kind → Names → Outcome
outcome_by kind.Ran names = outcome.Ran
outcome_by kind.Raised names = outcome.Raised
outcome_by kind.Last names = outcome.Ended true
outcome_by kind.Ended names = outcome.Ended false
outcome_by kind.NoThread names = outcome.NoThread
outcome_by kind.FellOff names = outcome.Bad bad_cause.FellOff
outcome_by kind.OutOfProfile names = outcome.Bad bad_cause.OutOfProfile
outcome_by kind.Depth names = outcome.Bad bad_cause.Depth
outcome_by kind.WrongKind names = outcome.Bad bad_cause.Kind
outcome_by kind.Local names = outcome.Bad bad_cause.Local
outcome_by kind.Monitor names = outcome.Blocked (blocked_on.Monitor (first names.references) (first names.threads))
outcome_by kind.Initialisation names = outcome.Blocked (blocked_on.Initialisation (first names.classes) (first names.threads))
outcome_by kind.Join names = outcome.Blocked (blocked_on.Join (first names.threads))
outcome_by kind.Wait names = outcome.Blocked (blocked_on.Wait (first names.references))

-- Returns the names without those of an outcome of a kind.
abbrev pub names_after : Kind → Names → Names
names_after k names =
    record {
      threads = drop (threads_of k) names.threads;
      references = drop (references_of k) names.references;
      classes = drop (classes_of k) names.classes;
    }

-- Returns the outcomes of these kinds, each with the next of the names.
abbrev pub outcomes_by : List Kind → Names → List Outcome
outcomes_by [] names = []
outcomes_by (k ∷ kinds) names = outcome_by k names ∷ outcomes_by kinds (names_after k names)
