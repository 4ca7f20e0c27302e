-- The departures so far, and the name of the choices that are left, are the name of all.
use Rattle.std.proofs.Common.{◌++◌, ◌-◌, ◌≡◌}
use Rattle.departures.specs.Departures.{name_of}
use Rattle.explore_jobs.specs.Children.{turns_in}
use Rattle.machine.specs.Machine.{with_state}
use Rattle.runs.specs.Choices.{choices_from}
use Rattle.shrinking.proofs.naming.departures_of.Given as goal

abbrev pub invariant-loop-position : goal.invariant-loop-position
invariant-loop-position l =
    let m = l.initial.machine in
    record {
      machine : l.machine ≡ with_state m l.machine.state;
      named : l.departures.items ++ name_of (turns_in m) l.position l.machine.state l.last (choices_from (l.most - l.position) l.chooser l.machine)
          ≡ name_of (turns_in m) 0 m.state 0 (choices_from l.most l.initial.chooser m);
    }
