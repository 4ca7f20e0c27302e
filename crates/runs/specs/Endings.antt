-- The ending of a run: its turns, result, output, status and uncaught exceptions.
use Rattle.std.specs.Prelude.{ℕ, suc, List, [], ◌∷◌, ◌++◌, length, Option, Some, None}
use Rattle.jvms_machine.specs.State.{Object, State, Thread}
use Rattle.jvms_machine.specs.Status.{status_of}
use Rattle.machine.specs.Machine.{Machine, with_state}
use Rattle.machine.specs.Runs.{run_of}
use Rattle.machine.specs.Views.{uncaught_in}
use Rattle.schedule.specs.Choosers.{Chooser}
use Rattle.runs.specs.declared.ending.Ending.{Ending}
use Rattle.runs.specs.Choices.{choices_from}

-- Returns a list of a thread with its exception's class, or an empty list if there is no class.
abbrev pub uncaught_of : ℕ → Option (List ℕ) → List (ℕ × List ℕ)
uncaught_of t None = []
uncaught_of t (Some class) = (t, class) ∷ []

-- Returns the threads of a list that ended with an exception, each with the exception's class. The first thread of
-- the list has this number.
abbrev pub uncaught_from : List Object → ℕ → List Thread → List (ℕ × List ℕ)
uncaught_from heap t [] = []
uncaught_from heap t (x ∷ xs) = uncaught_of t (uncaught_in heap x.ended x.pending) ++ uncaught_from heap (suc t) xs

-- Returns the threads of a state that ended with an exception, in rising order, each with the exception's class.
abbrev pub uncaught_threads : State → List (ℕ × List ℕ)
uncaught_threads s = uncaught_from s.heap 0 s.threads

-- Returns the ending of a run that took this number of turns and left this machine.
abbrev pub ending_in : ℕ → Machine → Ending
ending_in turns m =
    record {
      turns = turns;
      result = m.state.result;
      output = m.state.output;
      status = status_of m.program m.limits m.start m.state;
      uncaught = uncaught_threads m.state;
    }

-- Returns the ending of the run by a chooser's choices, after at most this number of turns.
abbrev pub ending_of : ℕ → Chooser → Machine → Ending
ending_of most chooser m =
    let choices = choices_from most chooser m in
    ending_in (length choices) (with_state m (run_of m choices).state)
