-- Defines how the judgements of the parts of a line are combined: their values, or the fault of the least number.
use Rattle.std.specs.Prelude.{ℕ, Bool, nat_le, if◌then◌else◌, Result, Ok, Err}
use Rattle.jasmin.specs.declared.statement.Flaw.{Flaw}
use Rattle.jasmin.specs.declared.statement.Flaw.TheVariants as flaw

-- Returns the number of a fault.
abbrev pub number : Flaw → ℕ
number flaw.Lexeme = 1
number flaw.UnknownDirective = 2
number flaw.UnknownInstruction = 3
number flaw.OutOfPlace = 4
number flaw.Number = 5
number flaw.Operand = 6
number flaw.Name = 7
number flaw.Descriptor = 8
number flaw.Flags = 9
number flaw.Repeated = 10
number flaw.Missing = 11

abbrev pub lesser : Flaw → Flaw → Flaw
lesser f g = if nat_le (number f) (number g) then f else g

-- The judgement of a part of a line: its value, or its fault.
abbrev pub Judged : Type 0 → Type 0
Judged A = Result A Flaw

-- Returns the values of two judgements, or the fault of the lesser number.
abbrev pub both : {A B : Type 0} → Judged A → Judged B → Judged (A × B)
both (Ok a) (Ok b) = Ok (a, b)
both (Ok a) (Err g) = Err g
both (Err f) (Ok b) = Err f
both (Err f) (Err g) = Err (lesser f g)

-- Applies a function to the value of a judgement.
abbrev pub map_ok : {A B : Type 0} → (A → B) → Judged A → Judged B
map_ok make (Ok a) = Ok (make a)
map_ok make (Err f) = Err f

-- Returns the value of the first judgement, or the fault of the lesser number of both.
abbrev pub unless : {A : Type 0} → Judged A → Judged (Unit {0}) → Judged A
unless a b = map_ok (λ p. p.0) (both a b)

-- Returns no value if the test holds, or else the fault.
abbrev pub judge_test : Bool → Flaw → Judged (Unit {0})
judge_test test f = if test then Ok tt else Err f
