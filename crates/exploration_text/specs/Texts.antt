-- Defines the text of an exploration's answer (own): a line for each level, and a last one.
use Rattle.std.specs.Prelude.{ℕ, ◌==◌, Bool, true, false, List, [], ◌∷◌, ◌++◌, codes, length, Option, None, Some}
use Rattle.std.specs.Fmt.{decimal}
use Rattle.std.specs.List.{flat_map}
use Rattle.atom_spec.specs.Lines.{pattern_text}
use Rattle.campaign_text.specs.TableTexts.{result_text}
use Rattle.departures.specs.declared.departure.Departure.{Departure}
use Rattle.escapes.specs.Escapes.{name_text}
use Rattle.exploration_parts.specs.declared.part.Part.{Part}
use Rattle.exploring.specs.declared.explore_jobs.Plan.{Plan}
use Rattle.exploring.specs.declared.answer.Answer.{Answer}
use Rattle.exploring.specs.declared.answer.FailingRun.{FailingRun}
use Rattle.exploring.specs.declared.answer.LevelRuns.{LevelRuns}
use Rattle.exploring.specs.declared.level.Level.{Level}
use Rattle.velodrome.specs.Specification.{Specification}
use Rattle.velodrome.specs.declared.specification.SpecificationLine.{SpecificationLine}

-- Returns the words ` cycle C uncaught U deadlocked D stalled S running N`.
abbrev pub failures_text : Level → List ℕ
failures_text level =
    codes " cycle " ++ decimal level.cycle ++ codes " uncaught " ++ decimal level.uncaught ++ codes " deadlocked "
    ++ decimal level.deadlocked ++ codes " stalled " ++ decimal level.stalled ++ codes " running " ++ decimal level.running

-- Returns the words `departures D runs R`, and how many runs failed in each way.
abbrev pub counts_text : Level → List ℕ
counts_text level =
    codes "departures " ++ decimal level.departures ++ codes " runs " ++ decimal level.runs ++ failures_text level

-- Returns ` of M` for a level of this number of runs, unless all were made.
abbrev pub rest_text : Bool → ℕ → List ℕ
rest_text true jobs = []
rest_text false jobs = codes " of " ++ decimal jobs

-- Returns the line of a level.
abbrev pub level_line : LevelRuns → List ℕ
level_line runs = counts_text runs.level ++ rest_text (runs.level.runs == runs.jobs) runs.jobs ++ codes "\n"

abbrev pub departure_text : Departure → List ℕ
departure_text d = decimal d.position ++ codes "=" ++ decimal d.thread

abbrev pub next_departure_text : Departure → List ℕ
next_departure_text d = codes "," ++ departure_text d

-- Returns departures, parted by commas.
abbrev pub departures_text : List Departure → List ℕ
departures_text [] = []
departures_text (d ∷ ds) = departure_text d ++ flat_map next_departure_text ds

-- Returns the schedule with these departures, as `--sched` reads it.
abbrev pub schedule_text : List Departure → List ℕ
schedule_text departures = codes "stay:" ++ departures_text departures

-- Returns ` uncaught T C` for the first thread that ended by an exception, if one did.
abbrev pub uncaught_text : List (ℕ × List ℕ) → List ℕ
uncaught_text [] = []
uncaught_text (u ∷ rest) = codes " uncaught " ++ decimal u.0 ++ codes " " ++ name_text u.1

-- Returns the words of a run that fails: its schedule and the words of its result.
abbrev pub failing_words : FailingRun → List ℕ
failing_words run =
    codes "failing " ++ schedule_text run.departures.items ++ codes " " ++ result_text run.fate.result ++ uncaught_text run.ending.uncaught

-- Returns the line of a run that fails.
abbrev pub failing_line : FailingRun → List ℕ
failing_line run = failing_words run ++ codes "\n"

abbrev pub next_pattern_text : SpecificationLine → List ℕ
next_pattern_text line = codes " " ++ pattern_text line.pattern

-- Returns ` within` and these patterns, unless there are none.
abbrev pub patterns_text : Bool → List ℕ → List ℕ
patterns_text true patterns = []
patterns_text false patterns = codes " within" ++ patterns

-- Returns ` within P P` for the patterns of lines, in their order, and nothing if there is no line.
abbrev pub within_text : Specification → List ℕ
within_text within = patterns_text (length within == 0) (flat_map next_pattern_text within)

-- Returns the words of an exploration that covers all up to this number of departures, or all in the methods of patterns.
abbrev pub covered_words : ℕ → Specification → List ℕ
covered_words most within = codes "covered " ++ decimal most ++ within_text within

-- Returns the words of what an exploration up to this number of departures found.
abbrev pub found_words : ℕ → Specification → Bool → Option FailingRun → List ℕ
found_words most within covered (Some run) = failing_words run
found_words most within true None = covered_words most within
found_words most within false None = codes "stopped"

-- Returns ` part I/N`, or nothing for an exploration of all schedules.
abbrev pub part_text : Option Part → List ℕ
part_text None = []
part_text (Some part) = codes " part " ++ decimal part.index ++ codes "/" ++ decimal part.count

-- Returns the text of the answer of an exploration under a plan, up to this number of departures: a line for each level, and a
-- last one of what was found. It names the patterns of the methods in which threads were left, and the part.
abbrev pub answer_text : ℕ → Plan → Answer → List ℕ
answer_text most plan answer =
    flat_map level_line answer.levels.items ++ found_words most plan.within answer.is_covered answer.failing ++ part_text plan.part ++ codes "\n"
