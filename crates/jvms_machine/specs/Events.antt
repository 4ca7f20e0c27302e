-- The events of a turn by the states before and after it: those of monitors that change between free and held, and of
-- new threads.
use Rattle.std.specs.Prelude.{ℕ, ◌-◌, Bool, true, false, List, length, map, is_none}
use Rattle.std.specs.List.{filter, range_with_len}
use Rattle.jvms_machine.specs.declared.trace.Item.{Item}
use Rattle.jvms_machine.specs.declared.trace.Item.TheVariants as item
use Rattle.jvms_machine.specs.declared.state.Hold.{Hold}
use Rattle.jvms_machine.specs.State.{State, monitor_at}

-- Returns the thread that an item belongs to.
abbrev pub thread_of : Item → ℕ
thread_of (item.Read t v) = t
thread_of (item.Write t v) = t
thread_of (item.Acquire t r) = t
thread_of (item.Release t r) = t
thread_of (item.Fork t u) = t
thread_of (item.Join t u) = t
thread_of (item.Enter t m) = t
thread_of (item.Exit t m) = t

abbrev pub is_acquire : Item → Bool
is_acquire (item.Acquire t r) = true
is_acquire _ = false

abbrev pub is_release : Item → Bool
is_release (item.Release t r) = true
is_release _ = false

abbrev pub is_fork : Item → Bool
is_fork (item.Fork t u) = true
is_fork _ = false

-- Returns the references of the monitors that are free before and held after.
abbrev pub newly_held : List (ℕ × Hold) → List (ℕ × Hold) → List ℕ
newly_held before after = filter (λ r. is_none (monitor_at before r)) (map (λ m. m.0) after)

-- Return the events of monitors: thread t acquires each newly held one, and releases each that is held before and free
-- after.
abbrev pub acquires_between : ℕ → State → State → List Item
acquires_between t before after = map (λ r. item.Acquire t r) (newly_held before.monitors after.monitors)

abbrev pub releases_between : ℕ → State → State → List Item
releases_between t before after = map (λ r. item.Release t r) (newly_held after.monitors before.monitors)

-- Returns the events of new threads: thread t forks each thread that exists after and not before. Their numbers follow
-- those before.
abbrev pub forks_between : ℕ → State → State → List Item
forks_between t before after =
    map (λ u. item.Fork t u) (range_with_len (length before.threads) (length after.threads - length before.threads))
