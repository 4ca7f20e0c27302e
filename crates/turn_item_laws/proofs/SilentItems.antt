-- Items that are neither joins nor reads nor writes.
use Rattle.std.proofs.Common.{List, None, Option, Some, [], refl, ℕ, ◌++◌, ◌≡◌}
use Rattle.std.proofs.lemmas.Bool.{cond_both}
use Rattle.std.specs.List.{filter}
use Rattle.jvms_program.specs.BuiltIn.{is_built_in}
use Rattle.jvms_program.specs.declared.key.MethodKey.{MethodKey}
use Rattle.jvms_machine.specs.Actions.{acquire_items, lock_items, mark, release_items, unlock_items}
use Rattle.jvms_machine.specs.declared.action.Lock.{Lock}
use Rattle.jvms_machine.specs.declared.action.Lock.TheVariants as lock
use Rattle.jvms_machine.specs.declared.action.MonitorUse.{MonitorUse}
use Rattle.jvms_machine.specs.declared.trace.Item.{Item}
use Rattle.jvms_machine.specs.declared.trace.Item.TheVariants as item
use Rattle.turn_item_laws.specs.Accesses.{is_access}
use Rattle.turn_item_laws.specs.Joins.{is_join}

-- No item is a join, a read or a write.
pub record AreSilent (items : List Item) : Type 0 where
  pub joins : filter is_join items ≡ []
  pub accesses : filter is_access items ≡ []

pub none_is_silent : AreSilent []
none_is_silent = record { joins = refl; accesses = refl }

-- ---- Marks and monitors

pub acquires_are_silent : (t : ℕ) (monitor : MonitorUse) → AreSilent (acquire_items t monitor)
acquires_are_silent t monitor = cond_both monitor.outermost _ _ AreSilent (λ _. record { joins = refl; accesses = refl }) (λ _. none_is_silent)

pub releases_are_silent : (t : ℕ) (monitor : MonitorUse) → AreSilent (release_items t monitor)
releases_are_silent t monitor = cond_both monitor.outermost _ _ AreSilent (λ _. record { joins = refl; accesses = refl }) (λ _. none_is_silent)

pub lock_is_silent : (t : ℕ) (locked : Lock) → AreSilent (lock_items t locked)
lock_is_silent t lock.Nothing = none_is_silent
lock_is_silent t (lock.Monitor monitor) = acquires_are_silent t monitor
lock_is_silent t (lock.NewClass class r) = record { joins = refl; accesses = refl }

pub entry_is_silent : (t : ℕ) (o : Option MethodKey) (items : List Item) → AreSilent items → AreSilent (mark (λ key. item.Enter t key) o ++ items)
entry_is_silent t None items silent = silent
entry_is_silent t (Some key) items silent =
    cond_both (is_built_in key.class) _ _ (λ ms. AreSilent (ms ++ items)) (λ _. silent) (λ _. record { joins = silent.joins; accesses = silent.accesses })

pub exit_is_silent : (t : ℕ) (o : Option MethodKey) → AreSilent (mark (λ key. item.Exit t key) o)
exit_is_silent t None = none_is_silent
exit_is_silent t (Some key) = cond_both (is_built_in key.class) _ _ AreSilent (λ _. none_is_silent) (λ _. record { joins = refl; accesses = refl })

pub left_is_silent : (t : ℕ) (unlock : Option MonitorUse) (items : List Item) → AreSilent items → AreSilent (unlock_items t unlock ++ items)
left_is_silent t None items silent = silent
left_is_silent t (Some monitor) items silent =
    cond_both monitor.outermost _ _ (λ rs. AreSilent (rs ++ items)) (λ _. record { joins = silent.joins; accesses = silent.accesses }) (λ _. silent)
