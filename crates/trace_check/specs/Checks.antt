-- Defines the verdict on a trace's text (own): that of its items, or the first fault.
use Rattle.std.specs.Prelude.{◌≡◌, ℕ, ◌+◌, Bool, true, false, cond, List, [], ◌∷◌, ◌++◌, length, Option, Some, None, Err}
use Rattle.std.specs.Io.KnownBytes.{Appends}
use Rattle.jvms_machine.specs.declared.trace.Item.{Item}
use Rattle.velodrome.specs.declared.verdict.Verdict.{Verdict}
use Rattle.velodrome.specs.declared.verdict.Verdict.TheVariants as verdict
use Rattle.velodrome.specs.Rearrangements.{IsSerial}
use Rattle.velodrome.specs.Specification.{Specification}
use Rattle.velodrome.specs.Transactions.{TraceState}
use Rattle.velodrome.specs.Verdicts.{IsVerdict}
use Rattle.trace.specs.Bytes.{AppendsBeginning}
use Rattle.trace_text.specs.declared.fault.TraceFault.TheVariants as trace_fault
use Rattle.trace_text.specs.Traces.{IsRead, IsTextOf}
use Rattle.atom_graph.specs.declared.counts.Counts.{Counts}
use Rattle.atom_graph.specs.declared.fault.FeedFault.{FeedFault}
use Rattle.atom_graph.specs.declared.fault.FeedFault.TheVariants as feed
use Rattle.atom_graph.specs.Checking.{Fed, fault_of, state_of_fed, with_item}
use Rattle.report.specs.CycleTexts.{explanation}
use Rattle.report.specs.SerialTexts.{serial_text}
use Rattle.report.specs.VerdictTexts.{verdict_text}
use Rattle.trace_check.specs.declared.details.Details.{Details}
use Rattle.trace_check.specs.declared.fault.CheckFault.{CheckFault}
use Rattle.trace_check.specs.declared.fault.CheckFault.TheVariants as check

-- ---- Feeding

abbrev pub fed_nothing : Specification → Fed
fed_nothing lines = record { lines = lines; items = [] }

-- Returns the refused item of this line, or else the first refused one after it.
abbrev pub refused_or : ℕ → Option FeedFault → Option (ℕ × FeedFault) → Option (ℕ × FeedFault)
refused_or line None behind = behind
refused_or line (Some why) behind = Some (line, why)

-- Returns the first of these items that is refused, with its line. Each item takes a line, from this one on.
abbrev pub first_refused : Fed → ℕ → List Item → Option (ℕ × FeedFault)
first_refused fed line [] = None
first_refused fed line (i ∷ items) = refused_or line (fault_of fed i) (first_refused (with_item i fed) (line + 1) items)

-- Decides whether memory ran out.
abbrev pub is_memory : CheckFault → Bool
is_memory (check.Trace trace_fault.Memory) = true
is_memory check.ItemMemory = true
is_memory check.Memory = true
is_memory _ = false

abbrev pub refusal_of : ℕ → FeedFault → CheckFault
refusal_of line feed.Unmatched = check.Unmatched line
refusal_of line feed.TooMany = check.TooMany
refusal_of line feed.Memory = check.ItemMemory

-- The fault is that of the refused item, unless memory ran out.
abbrev pub IsRefused : Option (ℕ × FeedFault) → CheckFault → Type 0
IsRefused refused check.Memory = Unit {0}
IsRefused refused check.ItemMemory = Unit {0}
IsRefused refused fault = (line : ℕ) × (why : FeedFault) × (refused ≡ Some (line, why)) × (fault ≡ refusal_of line why)

-- ---- Verdicts

abbrev pub counts_of : TraceState → Counts
counts_of w = record { events = length w.events; transactions = w.transactions }

-- The text has the events in a serial order, one a line.
abbrev pub AreSerialLines : TraceState → List Item → List ℕ → Type 0
AreSerialLines w items part = (numbers : List ℕ) × IsSerial w.events numbers × (part ≡ serial_text items numbers)

-- The text follows the line of an atomic trace: the events in a serial order, if they are requested.
abbrev pub IsSerialPart : Fed → Bool → List ℕ → Type 0
IsSerialPart fed false part = part ≡ []
IsSerialPart fed true part = AreSerialLines (state_of_fed fed) fed.items part

-- Returns what follows the line of a cycle: the lines that explain it, if they are requested. The turns of a trace are
-- unknown.
abbrev pub explained_part : Fed → Bool → Verdict → List ℕ
explained_part fed explains v =
    cond explains (explanation (record { lines = fed.lines; items = fed.items; turns = [] }) v) []

abbrev pub IsPart : Fed → Details → Verdict → List ℕ → Type 0
IsPart fed details (verdict.Atomic order) part = IsSerialPart fed details.serial part
IsPart fed details (verdict.Cycle first_at transactions pairs) part =
    part ≡ explained_part fed details.explains (verdict.Cycle first_at transactions pairs)

abbrev pub IsSaid : Fed → Details → Verdict → List ℕ → Type 0
IsSaid fed details v said =
    (part : List ℕ) × IsPart fed details v part × (said ≡ verdict_text v (counts_of (state_of_fed fed)) ++ part)

-- The text has items that are all accepted, the verdict is theirs, and this is its text.
pub record IsChecked (lines : Specification) (text : List ℕ) (details : Details) (v : Verdict) (said : List ℕ) : Type 0 where
  pub items : List Item
  pub spelled : IsTextOf text items
  pub taken : first_refused (fed_nothing lines) 1 items ≡ None
  pub judged : IsVerdict (state_of_fed (record { lines = lines; items = items })) v
  pub text_is : IsSaid (record { lines = lines; items = items }) details v said

-- The text of the verdict was written, and nothing else.
abbrev pub Wrote : Specification → List ℕ → Details → Option (List ℕ) → Option (List ℕ) → Verdict → Type 0
Wrote lines text details old new v = (said : List ℕ) × IsChecked lines text details v said × Appends old new said

-- A prefix of the text of the verdict was written.
abbrev pub WroteBeginning : Specification → List ℕ → Details → Option (List ℕ) → Option (List ℕ) → Type 0
WroteBeginning lines text details old new =
    (v : Verdict) × (said : List ℕ) × IsChecked lines text details v said × AppendsBeginning old new said

-- ---- Faults

-- The text has items, and the first one that is refused has this fault.
abbrev pub IsRefusedIn : Specification → List ℕ → CheckFault → Type 0
IsRefusedIn lines text fault =
    (items : List Item) × IsTextOf text items × IsRefused (first_refused (fed_nothing lines) 1 items) fault

-- The fault is the first one in the text: lines that are no items come before refused items. If memory ran out or the
-- writer failed, the text may have none.
abbrev pub IsFault : Specification → List ℕ → CheckFault → Type 0
IsFault lines text (check.Trace why) = IsRead text (Err why)
IsFault lines text (check.Unmatched line) = IsRefusedIn lines text (check.Unmatched line)
IsFault lines text check.TooMany = IsRefusedIn lines text check.TooMany
IsFault lines text check.ItemMemory = Unit {0}
IsFault lines text check.Memory = Unit {0}
IsFault lines text check.Output = Unit {0}

-- ---- Checkers

-- The text has items, and the checker was fed all of them.
pub record IsFedText (lines : Specification) (text : List ℕ) (fed : Fed) : Type 0 where
  pub items : List Item
  pub spelled : IsTextOf text items
  pub taken : first_refused (fed_nothing lines) 1 items ≡ None
  pub fed_is : fed ≡ record { lines = lines; items = items }
