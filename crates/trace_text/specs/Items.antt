-- Defines the lines of items.
use Rattle.std.specs.Prelude.{ℕ, ◌<◌, ◌^◌, List, [], ◌∷◌, ◌++◌, codes}
use Rattle.std.specs.Fmt.{decimal}
use Rattle.jvms_machine.specs.declared.trace.Item.{Item}
use Rattle.jvms_machine.specs.declared.trace.Item.TheVariants as item
use Rattle.jvms_machine.specs.declared.trace.Variable.{Variable}
use Rattle.jvms_machine.specs.declared.trace.Variable.TheVariants as variable
use Rattle.jvms_machine.specs.Events.{thread_of}
use Rattle.escapes.specs.Keys.{IsFieldKey, IsMethodKey, field_text, method_text}

-- Returns the text of a variable: `R.C.x.D` for an instance field, `C.x.D` for a static one, and `R[i]` for an element.
abbrev pub variable_text : Variable → List ℕ
variable_text (variable.Instance r f) = decimal r ++ 46 ∷ field_text f
variable_text (variable.Static f) = field_text f
variable_text (variable.Element r i) = decimal r ++ 91 ∷ decimal i ++ 93 ∷ []

-- Returns the word of an item.
abbrev pub word_of : Item → List ℕ
word_of (item.Read t v) = codes "rd"
word_of (item.Write t v) = codes "wr"
word_of (item.Acquire t r) = codes "acq"
word_of (item.Release t r) = codes "rel"
word_of (item.Fork t u) = codes "fork"
word_of (item.Join t u) = codes "join"
word_of (item.Enter t m) = codes "enter"
word_of (item.Exit t m) = codes "exit"

-- Returns the text of what an item touches: a variable, an object, a thread or a method.
abbrev pub touched_text : Item → List ℕ
touched_text (item.Read t v) = variable_text v
touched_text (item.Write t v) = variable_text v
touched_text (item.Acquire t r) = decimal r
touched_text (item.Release t r) = decimal r
touched_text (item.Fork t u) = decimal u
touched_text (item.Join t u) = decimal u
touched_text (item.Enter t m) = method_text m
touched_text (item.Exit t m) = method_text m

-- Returns the text of an item: its word, its thread and what it touches, separated by one space.
abbrev pub item_text : Item → List ℕ
item_text i = word_of i ++ 32 ∷ decimal (thread_of i) ++ 32 ∷ touched_text i

-- Numbers of a text are below 4,294,967,296.
abbrev pub IsNumber : ℕ → Type 0
IsNumber n = n < 2 ^ 32

-- A text may have this variable.
abbrev pub IsVariable : Variable → Type 0
IsVariable (variable.Instance r f) = IsNumber r × IsFieldKey f
IsVariable (variable.Static f) = IsFieldKey f
IsVariable (variable.Element r i) = IsNumber r × IsNumber i

abbrev pub IsTouched : Item → Type 0
IsTouched (item.Read t v) = IsVariable v
IsTouched (item.Write t v) = IsVariable v
IsTouched (item.Acquire t r) = IsNumber r
IsTouched (item.Release t r) = IsNumber r
IsTouched (item.Fork t u) = IsNumber u
IsTouched (item.Join t u) = IsNumber u
IsTouched (item.Enter t m) = IsMethodKey m
IsTouched (item.Exit t m) = IsMethodKey m

-- A text may have this item: its names and descriptors are well formed (JVMS 4.2, 4.3), and its numbers have 32 bits.
abbrev pub IsItem : Item → Type 0
IsItem i = IsNumber (thread_of i) × IsTouched i
