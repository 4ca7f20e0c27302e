-- Defines scripts as lines of commands, and how far one was executed.
use Rattle.std.specs.Prelude.{◌≡◌, ◌≢◌, ℕ, List, [], ◌∷◌, ◌++◌, take, Option, false, ◌==◌}
use Rattle.std.specs.Io.KnownBytes.{Appends, Consumes, IsAtEnd}
use Rattle.std.specs.List.{AllByRecursion, flat_map, list_any}
use Rattle.debugger_commands.specs.Sessions.{Session}
use Rattle.debugger.specs.Sessions.{Debugger}
use Rattle.debugger_script.specs.Answers.{AreAnswers, IsAnswer}

-- ---- Lines

-- Returns a line with the LF that ends it.
abbrev pub with_lf : List ℕ → List ℕ
with_lf line = line ++ 10 ∷ []

-- None of the bytes is an LF.
abbrev pub HasNoEnd : List ℕ → Type 0
HasNoEnd bytes = list_any (λ b. b == 10) bytes ≡ false

-- The bytes are lines that each end with LF, and a rest without one.
pub record AreLines (bytes : List ℕ) (lines : List (List ℕ)) (rest : List ℕ) : Type 0 where
  pub bytes_are : bytes ≡ flat_map with_lf lines ++ rest
  pub lines_end : AllByRecursion HasNoEnd lines
  pub rest_is_open : HasNoEnd rest

-- Returns the lines with the rest as the last one, if it isn't empty. The last line may lack its LF.
abbrev pub with_rest : List (List ℕ) → List ℕ → List (List ℕ)
with_rest lines [] = lines
with_rest lines (b ∷ rest) = lines ++ (b ∷ rest) ∷ []

-- ---- How far a script was executed. A reader or a writer may know its bytes.

-- The whole script was executed: the answers to all lines that were read were written.
pub record HasRun (left left_after written written_after : Option (List ℕ)) (old new : Debugger) : Type 0 where
  pub bytes : List ℕ
  pub lines : List (List ℕ)
  pub rest : List ℕ
  pub text : List ℕ
  pub setting : new.setting ≡ old.setting
  pub read : Consumes left left_after bytes
  pub end : IsAtEnd left_after
  pub lines_are : AreLines bytes lines rest
  pub answers : AreAnswers old.setting old.session (with_rest lines rest) text new.session
  pub shown : Appends written written_after text

-- A read failed: the answers to all whole lines before were written.
pub record HasStopped (left left_after written written_after : Option (List ℕ)) (old new : Debugger) : Type 0 where
  pub bytes : List ℕ
  pub lines : List (List ℕ)
  pub rest : List ℕ
  pub text : List ℕ
  pub setting : new.setting ≡ old.setting
  pub read : Consumes left left_after bytes
  pub lines_are : AreLines bytes lines rest
  pub answers : AreAnswers old.setting old.session lines text new.session
  pub shown : Appends written written_after text

-- A line is whole if an LF follows it, or if the input ends and the line isn't empty.
abbrev pub IsWhole : List ℕ → List ℕ → Option (List ℕ) → Type 0
IsWhole line [] left_after = IsAtEnd left_after × (line ≢ [])
IsWhole line (b ∷ more) left_after = b ≡ 10

-- The effect of a line whose answer was not wholly written.
pub data IsPartial (can : Type 0) (whole : Type 0) (d : Debugger) (next : Session) (line shown : List ℕ) (new : Session) : Type 0 where
  -- if that is possible, its command was not executed
  refused : can → new ≡ next → shown ≡ [] → IsPartial can whole d next line shown new
  -- its command was executed, and the first n bytes of the answer were written
  begun : whole → (text : List ℕ) (n : ℕ) → IsAnswer d.setting next line text new → shown ≡ take n text → IsPartial can whole d next line shown new

-- A line was not wholly answered. The answers to all lines before it were written. A prefix of its own may have been
-- written, if its command was executed.
pub record IsCutShort (can : Type 0) (left left_after written written_after : Option (List ℕ)) (old new : Debugger) : Type 0 where
  pub bytes : List ℕ
  pub more : List ℕ
  pub lines : List (List ℕ)
  pub line : List ℕ
  pub text : List ℕ
  pub shown : List ℕ
  pub next : Session
  pub setting : new.setting ≡ old.setting
  pub read : Consumes left left_after (bytes ++ more)
  pub lines_are : AreLines bytes lines line
  pub answers : AreAnswers old.setting old.session lines text next
  pub partial : IsPartial can (IsWhole line more left_after) old next line shown new.session
  pub written_is : Appends written written_after (text ++ shown)

-- Memory ran out for a line or for its answer. The line's command may not have been executed.
abbrev pub HasRunOut : Option (List ℕ) → Option (List ℕ) → Option (List ℕ) → Option (List ℕ) → Debugger → Debugger → Type 0
HasRunOut left left_after written written_after old new = IsCutShort (Unit {0}) left left_after written written_after old new

-- A write failed. The line's command was executed.
abbrev pub HasFailed : Option (List ℕ) → Option (List ℕ) → Option (List ℕ) → Option (List ℕ) → Debugger → Debugger → Type 0
HasFailed left left_after written written_after old new = IsCutShort ⊥ left left_after written written_after old new
