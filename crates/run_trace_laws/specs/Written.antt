-- Defines which names and numbers the items of a run have.
use Rattle.std.specs.Prelude.{ℕ, List}
use Rattle.jvms_file.specs.declared.class_file.ClassFile.{ClassFile}
use Rattle.jvms_file.specs.Spelling.{Spells}
use Rattle.jvms_machine.specs.declared.trace.Item.{Item}
use Rattle.jvms_machine.specs.declared.trace.Item.TheVariants as item
use Rattle.jvms_machine.specs.declared.trace.Variable.{Variable}
use Rattle.jvms_machine.specs.declared.trace.Variable.TheVariants as variable
use Rattle.escapes.specs.Keys.{IsFieldKey, IsMethodKey}
use Rattle.jvms_machine.specs.Events.{thread_of}
use Rattle.trace_text.specs.Items.{IsNumber}

-- Some bytes spell the class file (JVMS 4.1).
abbrev pub IsSpelled : ClassFile → Type 0
IsSpelled c = (bytes : List ℕ) × Spells bytes c

-- The names and the descriptor of a variable's field are well formed (JVMS 4.2, 4.3).
abbrev pub IsNamedVariable : Variable → Type 0
IsNamedVariable (variable.Instance r f) = IsFieldKey f
IsNamedVariable (variable.Static f) = IsFieldKey f
IsNamedVariable (variable.Element r i) = Unit {0}

-- The names and the descriptor of an item's field or method are well formed.
abbrev pub IsNamed : Item → Type 0
IsNamed (item.Read t v) = IsNamedVariable v
IsNamed (item.Write t v) = IsNamedVariable v
IsNamed (item.Enter t m) = IsMethodKey m
IsNamed (item.Exit t m) = IsMethodKey m
IsNamed _ = Unit {0}

abbrev pub VariableHasNumbers : Variable → Type 0
VariableHasNumbers (variable.Instance r f) = IsNumber r
VariableHasNumbers (variable.Static f) = Unit {0}
VariableHasNumbers (variable.Element r i) = IsNumber r × IsNumber i

abbrev pub TouchesNumbers : Item → Type 0
TouchesNumbers (item.Read t v) = VariableHasNumbers v
TouchesNumbers (item.Write t v) = VariableHasNumbers v
TouchesNumbers (item.Acquire t r) = IsNumber r
TouchesNumbers (item.Release t r) = IsNumber r
TouchesNumbers (item.Fork t u) = IsNumber u
TouchesNumbers (item.Join t u) = IsNumber u
TouchesNumbers _ = Unit {0}

-- The thread of an item, and the objects, indices and threads that it refers to, are numbers of 32 bits. Those of an
-- item in memory always are.
abbrev pub HasNumbers : Item → Type 0
HasNumbers i = IsNumber (thread_of i) × TouchesNumbers i
