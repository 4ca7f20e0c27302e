-- What an exploration covers: all runs that end and have few departures.
use Rattle.std.specs.Prelude.{◌≡◌, ℕ, ◌≤◌, List, []}
use Rattle.departures.specs.Departures.{departures}
use Rattle.departures.specs.Jobs.{AreGoodTo}
use Rattle.departures.specs.Turns.{IsRun, IsStuck}
use Rattle.jvms_machine.specs.Run.{run_from}
use Rattle.jvms_machine.specs.Start.{Start}
use Rattle.jvms_machine.specs.State.{State}
use Rattle.jvms_machine.specs.Status.{status_of}
use Rattle.jvms_machine.specs.declared.machine.Limits.{Limits}
use Rattle.jvms_machine.specs.declared.machine.Status.TheVariants as status
use Rattle.jvms_program.specs.declared.program.Class.{Class}
use Rattle.local_laws.specs.Local.{is_local}
use Rattle.local_turns.specs.Turns.{turns_of}
use Rattle.runs.specs.Endings.{uncaught_threads}
use Rattle.velodrome.specs.Cycles.{AreAtomic}
use Rattle.velodrome.specs.Specification.{Specification}
use Rattle.velodrome.specs.Transactions.{TraceState, trace_state_of}

module _ (program : List Class) (limits : Limits) (start : Start) where
  -- A run ended well: all threads have ended, none by an exception, and its events have no cycle.
  pub record IsGoodEnd (s : State) (trace : TraceState) : Type 0 where
    pub finished : status_of program limits start s ≡ status.Finished
    pub caught : uncaught_threads s ≡ []
    pub atomic : AreAtomic trace.events

  -- The run of these choices from a state ended well.
  abbrev pub EndsWell : Specification → State → List ℕ → Type 0
  EndsWell lines s choices =
      let run = run_from program limits start s choices in IsGoodEnd run.state (trace_state_of lines run.items)

  -- Each of these choices is of an enabled thread, no thread is enabled after them, and at most this number of them are
  -- departures.
  pub record IsWholeRun (s : State) (most : ℕ) (choices : List ℕ) : Type 0 where
    pub run : IsRun (turns_of program limits start) s choices
    pub ends : IsStuck (turns_of program limits start) (run_from program limits start s choices).state
    pub few : departures (turns_of program limits start) s 0 choices ≤ most

  -- The runs of all jobs up to a level ended well, within this number of turns.
  abbrev pub JobsEndWell : Specification → ℕ → State → ℕ → Type 0
  JobsEndWell lines turns s most =
      AreGoodTo (turns_of program limits start) (is_local program limits start) turns s 0 most (EndsWell lines s)
