-- A machine on its way keeps its program, limits and start.
use Rattle.std.proofs.Common.{List, Option, ap, sym, ℕ, ◌++◌, ◌∙◌, ◌≡◌}
use Rattle.departures.specs.Departures.{default_of}
use Rattle.departures.specs.Jobs.{children_here}
use Rattle.departures.specs.declared.departure.Departure.{Departure}
use Rattle.explore_jobs.specs.Children.{stays_in, turns_in}
use Rattle.campaign_jobs.specs.machine.Machine.{Machine, transition_of, with_state}
use Rattle.velodrome.specs.Specification.{Specification}

pub default_in : (m now : Machine) (last : ℕ) {found : Option ℕ} → now ≡ with_state m now.state
    → found ≡ default_of (turns_in now) now.state last → found ≡ default_of (turns_in m) now.state last
default_in m now last same is = is ∙ ap (λ x. default_of (turns_in x) now.state last) same

pub here_in : (within : Specification) (m now : Machine) (added before : List (List Departure)) (ds left : List Departure) (k last t : ℕ) → now ≡ with_state m now.state
    → added ≡ before ++ children_here (turns_in now) (stays_in within now) ds k now.state last t left
    → added ≡ before ++ children_here (turns_in m) (stays_in within m) ds k now.state last t left
here_in within m now added before ds left k last t same is =
    is ∙ ap (λ x. before ++ children_here (turns_in x) (stays_in within x) ds k now.state last t left) same

pub taken_state : (m now : Machine) (t : ℕ) (next : Machine) → now ≡ with_state m now.state → next ≡ with_state now (transition_of now t).state
    → next.state ≡ (turns_in m).after now.state t
taken_state m now t next same taken = ap (λ (x : Machine). x.state) taken ∙ ap (λ x. (turns_in x).after now.state t) same

pub taken_machine : (m now : Machine) (t : ℕ) (next : Machine) → now ≡ with_state m now.state → next ≡ with_state now (transition_of now t).state → next ≡ with_state m next.state
taken_machine m now t next same taken =
    taken
    ∙ (ap (λ x. with_state x (transition_of now t).state) same
    ∙ ap (λ (x : Machine). with_state m x.state) (sym taken))
