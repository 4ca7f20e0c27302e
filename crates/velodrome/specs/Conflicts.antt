-- Defines when two events of a trace conflict (Velodrome, section 3). The cases of forks and joins are our own.
use Rattle.std.specs.Prelude.{ℕ, Bool, true, false, ◌==◌, ◌&&◌, ◌||◌, Option, Some, None}
use Rattle.jvms_program.specs.Slots.{same_key}
use Rattle.jvms_machine.specs.declared.trace.Item.{Item}
use Rattle.jvms_machine.specs.declared.trace.Item.TheVariants as item
use Rattle.jvms_machine.specs.declared.trace.Variable.{Variable}
use Rattle.jvms_machine.specs.declared.trace.Variable.TheVariants as variable
use Rattle.jvms_machine.specs.Events.{thread_of}

-- Returns the object whose monitor an event enters or leaves.
abbrev pub monitor_of : Item → Option ℕ
monitor_of (item.Acquire t r) = Some r
monitor_of (item.Release t r) = Some r
monitor_of _ = None

-- Returns the variable that an event reads or writes.
abbrev pub variable_of : Item → Option Variable
variable_of (item.Read t v) = Some v
variable_of (item.Write t v) = Some v
variable_of _ = None

abbrev pub is_write : Item → Bool
is_write (item.Write t v) = true
is_write _ = false

-- Returns the thread that an event starts, or whose end it waited for.
abbrev pub started_or_joined : Item → Option ℕ
started_or_joined (item.Fork t u) = Some u
started_or_joined (item.Join t u) = Some u
started_or_joined _ = None

abbrev pub same_number : Option ℕ → Option ℕ → Bool
same_number (Some a) (Some b) = a == b
same_number _ _ = false

abbrev pub same_variable : Variable → Variable → Bool
same_variable (variable.Instance r k) (variable.Instance q l) = r == q && same_key k l
same_variable (variable.Static k) (variable.Static l) = same_key k l
same_variable (variable.Element r i) (variable.Element q j) = r == q && i == j
same_variable _ _ = false

abbrev pub on_one_variable : Option Variable → Option Variable → Bool
on_one_variable (Some v) (Some w) = same_variable v w
on_one_variable _ _ = false

-- Decides whether two events conflict, which they do in four cases. They belong to one thread. They use one monitor.
-- They use one variable, and one of them writes it. One forks or joins the thread of the other.
unfoldable pub conflict : Item → Item → Bool
conflict a b =
    thread_of a == thread_of b
    || same_number (monitor_of a) (monitor_of b)
    || (on_one_variable (variable_of a) (variable_of b) && (is_write a || is_write b))
    || same_number (started_or_joined a) (Some (thread_of b))
    || same_number (Some (thread_of a)) (started_or_joined b)
