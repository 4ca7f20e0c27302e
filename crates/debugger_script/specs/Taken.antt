-- Defines how far the bytes of a script were processed.
use Rattle.std.specs.Prelude.{◌≡◌, ℕ, List, [], ◌∷◌, ◌++◌, Option}
use Rattle.std.specs.Io.KnownBytes.{Appends, Consumes}
use Rattle.debugger_commands.specs.Sessions.{Session}
use Rattle.debugger.specs.Sessions.{Debugger}
use Rattle.debugger_script.specs.Answers.{AreAnswers, IsAnswer}
use Rattle.debugger_script.specs.declared.fault.ScriptFault.{ScriptFault}
use Rattle.debugger_script.specs.declared.fault.ScriptFault.TheVariants as fault
use Rattle.debugger_script.specs.Scripts.{AreLines, IsPartial}

-- ---- Faults

-- The fault allows that the command of its line was not executed.
abbrev pub MayBeRefused : ScriptFault → Type 0
MayBeRefused fault.Write = ⊥
MayBeRefused _ = Unit {0}

-- The bytes begin with an LF.
abbrev pub EndsNow : List ℕ → Type 0
EndsNow [] = ⊥
EndsNow (b ∷ more) = b ≡ 10

-- ---- One line

-- A line was answered, and its answer was written.
pub record HasAnswered (line : List ℕ) (written written_after : Option (List ℕ)) (old new : Debugger) : Type 0 where
  pub text : List ℕ
  pub setting : new.setting ≡ old.setting
  pub answer : IsAnswer old.setting old.session line text new.session
  pub shown : Appends written written_after text

-- A line was not wholly answered.
pub record IsLineCut (can : Type 0) (line : List ℕ) (written written_after : Option (List ℕ)) (old new : Debugger) : Type 0 where
  pub shown : List ℕ
  pub setting : new.setting ≡ old.setting
  pub partial : IsPartial can (Unit {0}) old old.session line shown new.session
  pub written_is : Appends written written_after shown

-- ---- Bytes that follow the beginning of a line

-- The answers to the lines that the bytes end were written, and the rest begins the next line.
pub record HasTaken (begun bytes rest : List ℕ) (written written_after : Option (List ℕ)) (old new : Debugger) : Type 0 where
  pub lines : List (List ℕ)
  pub text : List ℕ
  pub setting : new.setting ≡ old.setting
  pub lines_are : AreLines (begun ++ bytes) lines rest
  pub answers : AreAnswers old.setting old.session lines text new.session
  pub shown : Appends written written_after text

-- A line was not wholly answered. The answers to all lines before it were written.
pub record IsCutWithin (can : Type 0) (begun bytes : List ℕ) (written written_after : Option (List ℕ)) (old new : Debugger) : Type 0 where
  pub taken : List ℕ
  pub more : List ℕ
  pub lines : List (List ℕ)
  pub line : List ℕ
  pub text : List ℕ
  pub shown : List ℕ
  pub next : Session
  pub setting : new.setting ≡ old.setting
  pub bytes_are : bytes ≡ taken ++ more
  pub lines_are : AreLines (begun ++ taken) lines line
  pub answers : AreAnswers old.setting old.session lines text next
  pub partial : IsPartial can (EndsNow more) old next line shown new.session
  pub written_is : Appends written written_after (text ++ shown)

-- ---- Bytes that are read

-- All bytes that were read were processed.
pub record IsUnderWay (left left_after : Option (List ℕ)) (rest : List ℕ) (written written_after : Option (List ℕ)) (old new : Debugger) : Type 0 where
  pub bytes : List ℕ
  pub read : Consumes left left_after bytes
  pub taken : HasTaken [] bytes rest written written_after old new
