use Rattle.std.proofs.Common.{Bool, List, ℕ, length, ◌≡◌, ◌++◌, ◌-◌}
use Rattle.departures.specs.Jobs.{others_in}
use Rattle.departures.specs.declared.departure.Departure.{Departure}
use Rattle.explore_jobs.specs.Children.{turns_in, with_each}
use Rattle.jvms_machine.specs.State.{State}
use Rattle.explore_jobs.proofs.children.push_others.Given as goal

abbrev pub invariant-loop-thread : goal.invariant-loop-thread
invariant-loop-thread l =
    let m = l.machine in
    (stays : State → ℕ → Bool) (ds : List Departure)
    → with_each ds l.added.items ++ others_in (turns_in m) stays ds l.place.position m.state l.place.choice l.thread (length m.state.threads - l.thread)
    ≡ with_each ds l.initial.added.items ++ others_in (turns_in m) stays ds l.place.position m.state l.place.choice 0 (length m.state.threads)
