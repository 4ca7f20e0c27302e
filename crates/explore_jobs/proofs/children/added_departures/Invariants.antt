use Rattle.std.proofs.Common.{◌++◌, ◌-◌, ◌≡◌}
use Rattle.departures.specs.Departures.{choices_of}
use Rattle.departures.specs.Jobs.{children_in, children_of}
use Rattle.explore_jobs.specs.Children.{stays_in, turns_in, with_each}
use Rattle.campaign_jobs.specs.machine.Machine.{with_state}
use Rattle.explore_jobs.proofs.children.added_departures.Given as goal

abbrev pub invariant-loop-position : goal.invariant-loop-position
invariant-loop-position l =
    let m = l.initial.machine in
    let ds = l.departures in
    let ahead = choices_of (turns_in m) (l.most - l.position) l.position l.machine.state l.last l.left in
    record {
      machine : l.machine ≡ with_state m l.machine.state;
      children : with_each ds l.added.items ++ children_in (turns_in m) (stays_in l.within m) ds l.position l.machine.state l.last ahead l.left
          ≡ children_of (turns_in m) (stays_in l.within m) l.most m.state 0 ds;
    }
