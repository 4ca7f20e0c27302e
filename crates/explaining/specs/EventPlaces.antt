-- Defines where the events of a cycle are in the program (own).
use Rattle.std.specs.Prelude.{ℕ, ◌+◌, Bool, ◌==◌, ◌||◌, cond, List, [], ◌∷◌, ◌++◌, codes, take, Option, Some, None}
use Rattle.std.specs.Fmt.{decimal}
use Rattle.std.specs.List.{list_any}
use Rattle.jvms_file.specs.declared.class_file.ClassFile.{ClassFile}
use Rattle.jvms_program.specs.declared.number.MethodNumber.{MethodNumber}
use Rattle.jvms_program.specs.declared.program.Class.{Class}
use Rattle.report.specs.CycleTexts.{most_explained}
use Rattle.velodrome.specs.declared.verdict.ConflictingPair.{ConflictingPair}
use Rattle.velodrome.specs.declared.verdict.Verdict.{Verdict}
use Rattle.velodrome.specs.declared.verdict.Verdict.TheVariants as verdict
use Rattle.explaining.specs.declared.event_turns.EventTurn.{EventTurn}
use Rattle.explaining.specs.Places.{at_part}

-- Returns the conflicting events that are explained. An atomic run has none.
abbrev pub pairs_of : Verdict → List ConflictingPair
pairs_of (verdict.Atomic order) = []
pairs_of (verdict.Cycle first_at transactions pairs) = take most_explained pairs

-- Decides whether event n is in one of these pairs.
abbrev pub is_in_pairs : List ConflictingPair → ℕ → Bool
is_in_pairs pairs n = list_any (λ p. p.earlier == n || p.later == n) pairs

-- Returns the line `event N at C.m.D @i (F.java:12)`, if its thread was in a call.
abbrev pub event_place : List Class → ℕ → List ClassFile → ℕ → Option (MethodNumber × ℕ) → List ℕ
event_place program first files n None = []
event_place program first files n (Some at) =
    codes "event " ++ decimal n ++ at_part program first files at.0 at.1 ++ codes "\n"

-- Returns the lines of the events that are in the pairs. The first event has number n.
abbrev pub event_places : List Class → ℕ → List ClassFile → List ConflictingPair → ℕ → List EventTurn → List ℕ
event_places program first files pairs n [] = []
event_places program first files pairs n (e ∷ events) =
    cond (is_in_pairs pairs n) (event_place program first files n e.place) []
    ++ event_places program first files pairs (n + 1) events
