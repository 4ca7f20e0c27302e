-- Defines the parts of lines that are read by functions of their own.
use Rattle.std.specs.Prelude.{◌≡◌, ℕ, List, codes}
use Rattle.jvms_machine.specs.declared.trace.Item.{Item}
use Rattle.jvms_machine.specs.declared.trace.Item.TheVariants as item
use Rattle.jvms_machine.specs.declared.trace.Variable.{Variable}
use Rattle.jvms_machine.specs.declared.trace.Variable.TheVariants as variable
use Rattle.trace_text.specs.declared.word.Word.{Word}
use Rattle.trace_text.specs.declared.word.Word.TheVariants as word
use Rattle.jvms_machine.specs.Events.{thread_of}
use Rattle.trace_text.specs.Items.{IsItem, IsVariable}

abbrev pub word_text : Word → List ℕ
word_text word.Read = codes "rd"
word_text word.Write = codes "wr"
word_text word.Acquire = codes "acq"
word_text word.Release = codes "rel"
word_text word.Fork = codes "fork"
word_text word.Join = codes "join"
word_text word.Enter = codes "enter"
word_text word.Exit = codes "exit"

abbrev pub IsWord : Word → Type 0
IsWord w = Unit {0}

abbrev pub kind_of : Item → Word
kind_of (item.Read t v) = word.Read
kind_of (item.Write t v) = word.Write
kind_of (item.Acquire t r) = word.Acquire
kind_of (item.Release t r) = word.Release
kind_of (item.Fork t u) = word.Fork
kind_of (item.Join t u) = word.Join
kind_of (item.Enter t m) = word.Enter
kind_of (item.Exit t m) = word.Exit

-- The item has this word and this thread, and a text may have it.
pub record IsItemOf (w : Word) (t : ℕ) (i : Item) : Type 0 where
  pub kind : kind_of i ≡ w
  pub thread : thread_of i ≡ t
  pub item : IsItem i

-- Returns the number of dots in the text of a variable.
abbrev pub dots_of : Variable → ℕ
dots_of (variable.Instance r f) = 3
dots_of (variable.Static f) = 2
dots_of (variable.Element r i) = 0

-- A text may have this variable, and the variable's text has this number of dots.
pub record IsVariableWith (dots : ℕ) (v : Variable) : Type 0 where
  pub has : dots_of v ≡ dots
  pub variable : IsVariable v
