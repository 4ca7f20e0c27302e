-- Defines serial rearrangements of a trace (Velodrome, section 3): each transaction is in one piece, and conflicting
-- events keep their order.
use Rattle.std.specs.Prelude.{◌≡◌, ◌≢◌, ℕ, Bool, true, false, ◌&&◌, if◌then◌else◌, List, [], ◌∷◌, ◌++◌, length, map, Option, Some, None, OnSome}
use Rattle.std.specs.List.{AllByRecursion}
use Rattle.jvms_machine.specs.declared.trace.Variable.{Variable}
use Rattle.jvms_machine.specs.declared.trace.Item.{Item}
use Rattle.jvms_machine.specs.declared.trace.Item.TheVariants as item
use Rattle.velodrome.specs.Conflicts.{is_write, on_one_variable, variable_of}
use Rattle.velodrome.specs.Cycles.{IsBefore, IsIn}
use Rattle.velodrome.specs.Orders.{AreNumbersTo}
use Rattle.velodrome.specs.Transactions.{Event}

-- No event follows one that it conflicts with and precedes in the trace.
abbrev pub KeepsConflicts : List Event → Type 0
KeepsConflicts [] = Unit {0}
KeepsConflicts (e ∷ events) = AllByRecursion (λ f. IsBefore f e → ⊥) events × KeepsConflicts events

-- After an event of another transaction, no event of the earlier transaction follows.
abbrev pub AreInOnePiece : List Event → Type 0
AreInOnePiece [] = Unit {0}
AreInOnePiece (e ∷ []) = Unit {0}
AreInOnePiece (e ∷ f ∷ events) =
    (f.transaction ≢ e.transaction → AllByRecursion (λ g. g.transaction ≢ e.transaction) events) × AreInOnePiece (f ∷ events)

-- Returns the number of the last write of a variable among events, or `before` if they have no write of it.
abbrev pub last_write : Option Variable → Option ℕ → List Event → Option ℕ
last_write v before [] = before
last_write v before (e ∷ events) =
    last_write v (if is_write e.item && on_one_variable (variable_of e.item) v then Some e.number else before) events

abbrev pub is_read : Item → Bool
is_read (item.Read t v) = true
is_read _ = false

-- Each read has the same last write before it as in the trace, or none in both.
abbrev pub ReadsTheSame : List Event → List Event → Type 0
ReadsTheSame events serial =
    (before after front back : List Event) (e : Event) → is_read e.item ≡ true → events ≡ before ++ e ∷ after → serial ≡ front ++ e ∷ back →
    last_write (variable_of e.item) None before ≡ last_write (variable_of e.item) None front

-- The numbers are those of a serial rearrangement. It has each event of the trace once, keeps the order of each
-- conflicting pair, and has each transaction in one piece.
abbrev pub IsRearrangement : List Event → List ℕ → Type 0
IsRearrangement events numbers =
    AreNumbersTo (length events) numbers
    × (serial : List Event)
    × (map (λ e. e.number) serial ≡ numbers) × AllByRecursion (λ e. IsIn e events) serial
    × KeepsConflicts serial × AreInOnePiece serial

-- The numbers are those of a serial rearrangement in which each read has the same last write as in the trace.
abbrev pub IsSerial : List Event → List ℕ → Type 0
IsSerial events numbers =
    (serial : List Event)
    × (map (λ e. e.number) serial ≡ numbers) × AllByRecursion (λ e. IsIn e events) serial
    × AreNumbersTo (length events) numbers
    × KeepsConflicts serial × AreInOnePiece serial × ReadsTheSame events serial
