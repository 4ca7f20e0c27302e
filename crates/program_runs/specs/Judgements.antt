-- The judgement on a trace by the lines of a specification (Velodrome, sections 3 and 4).
use Rattle.std.specs.Prelude.{◌≡◌, List, [], ◌∷◌, ◌++◌, length, None, Result, Ok, Err, IsTrue}
use Rattle.jvms_program.specs.Program.{IsProgram}
use Rattle.jvms_machine.specs.declared.trace.Item.{Item}
use Rattle.jvms_machine.specs.Limits.{are_limits}
use Rattle.jvms_machine.specs.Start.{IsStart}
use Rattle.runs.specs.machine.Machine.{Machine}
use Rattle.runs.specs.machine.Started.{opened_machine}
use Rattle.velodrome.specs.Specification.{Specification}
use Rattle.velodrome.specs.Transactions.{trace_state_of}
use Rattle.velodrome.specs.Verdicts.{IsVerdict}
use Rattle.atom_graph.specs.Checking.{Fed, fault_of}
use Rattle.program_runs.specs.declared.feeding.Judgement.{Judgement}
use Rattle.program_runs.specs.Shown.{Shown}

-- The judgement is the verdict on the trace's transactions, and the numbers of its events and transactions.
pub record IsJudgementBy (lines : Specification) (items : List Item) (j : Judgement) : Type 0 where
  pub verdict : IsVerdict (trace_state_of lines items) j.verdict
  pub events : j.counts.events ≡ length (trace_state_of lines items).events
  pub transactions : j.counts.transactions ≡ (trace_state_of lines items).transactions

-- There is a run, and this is the judgement on its items.
abbrev pub IsJudgementIn : {E : Type 0} → Specification → Result Shown E → Judgement → Type 0
IsJudgementIn lines (Ok shown) j = IsJudgementBy lines shown.items j
IsJudgementIn lines (Err why) j = ⊥

-- Returns what a checker was fed, with more items appended.
abbrev pub with_items : List Item → Fed → Fed
with_items more fed = record { lines = fed.lines; items = fed.items ++ more }

-- There is a run, and a checker of these lines was fed its items.
abbrev pub IsFedWith : {E : Type 0} → Result Shown E → Specification → Fed → Type 0
IsFedWith (Ok shown) lines fed = fed ≡ record { lines = lines; items = shown.items }
IsFedWith (Err why) lines fed = ⊥

-- A checker takes each of these items after those before it.
abbrev pub MayFollow : Fed → List Item → Type 0
MayFollow fed items =
    (before after : List Item) (i : Item) → items ≡ before ++ i ∷ after → fault_of (with_items before fed) i ≡ None

-- A checker that wasn't fed takes each of these items after those before it.
abbrev pub MayBeFed : Specification → List Item → Type 0
MayBeFed lines items = MayFollow (record { lines = lines; items = [] }) items

-- A machine before its first turn.
pub record IsOpened (m : Machine) : Type 0 where
  pub classes : IsProgram m.program
  pub limits : IsTrue (are_limits m.limits)
  pub start : IsStart m.start
  pub state : m ≡ opened_machine m.program m.limits m.start
