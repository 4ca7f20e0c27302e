-- The names in outcomes: threads, references and classes, each in the order of the outcomes.
use Rattle.std.specs.Prelude.{ℕ, List, [], ◌∷◌, ◌++◌}
use Rattle.jvms_machine.specs.declared.machine.Outcome.{Outcome}
use Rattle.jvms_machine.specs.declared.machine.Outcome.TheVariants as outcome
use Rattle.jvms_machine.specs.declared.machine.BlockedOn.{BlockedOn}
use Rattle.jvms_machine.specs.declared.machine.BlockedOn.TheVariants as blocked_on

pub record Names : Type 0 where
  pub threads : List ℕ
  pub references : List ℕ
  pub classes : List ℕ

abbrev pub no_names : Names
no_names = record { threads = []; references = []; classes = [] }

-- Appends other names to names.
abbrev pub append_names : Names → Names → Names
append_names names others =
    record {
      threads = names.threads ++ others.threads;
      references = names.references ++ others.references;
      classes = names.classes ++ others.classes;
    }

-- Returns the names in what a blocked thread waits for: an owner or a thread, and maybe a reference or a class. A wait
-- for a notification has a reference alone.
abbrev pub names_of : BlockedOn → Names
names_of (blocked_on.Monitor reference owner) = record { threads = owner ∷ []; references = reference ∷ []; classes = [] }
names_of (blocked_on.Initialisation class owner) = record { threads = owner ∷ []; references = []; classes = class ∷ [] }
names_of (blocked_on.Join thread) = record { threads = thread ∷ []; references = []; classes = [] }
names_of (blocked_on.Wait reference) = record { threads = []; references = reference ∷ []; classes = [] }

-- Returns the names in an outcome. Only a Blocked outcome has any.
abbrev pub names_in : Outcome → Names
names_in (outcome.Blocked on) = names_of on
names_in outcome.Ran = no_names
names_in outcome.Raised = no_names
names_in (outcome.Ended last) = no_names
names_in outcome.NoThread = no_names
names_in (outcome.Bad cause) = no_names
