-- Actions that keep what other threads wait for: the owners of monitors, the initialisations of classes, and which
-- threads have been started and have ended.
use Rattle.std.specs.Prelude.{Bool, true, false, not, ◌&&◌, Option, Some, None}
use Rattle.jvms_machine.specs.declared.action.Action.{Action}
use Rattle.jvms_machine.specs.declared.action.Action.TheVariants as action
use Rattle.jvms_machine.specs.declared.action.Decision.{Decision}
use Rattle.jvms_machine.specs.declared.action.Decision.TheVariants as decision
use Rattle.jvms_machine.specs.declared.action.Effect.{Effect}
use Rattle.jvms_machine.specs.declared.action.Effect.TheVariants as effect
use Rattle.jvms_machine.specs.declared.action.Lock.{Lock}
use Rattle.jvms_machine.specs.declared.action.Lock.TheVariants as lock
use Rattle.jvms_machine.specs.declared.action.MonitorUse.{MonitorUse}

-- Decides whether a use of a monitor is an entry by the thread that already holds it, or a leave after which the thread
-- still holds it.
abbrev pub is_inner : MonitorUse → Bool
is_inner monitor = not monitor.outermost

-- Decides whether an effect is quiet. A notification is: the notified thread can't take the monitor yet, which the
-- notifier holds.
abbrev pub is_quiet_effect : {T : Type 0} → Effect T → Bool
is_quiet_effect effect.Nothing = true
is_quiet_effect (effect.GetField r n) = true
is_quiet_effect (effect.PutField r n v) = true
is_quiet_effect (effect.GetStatic n) = true
is_quiet_effect (effect.PutStatic n v) = true
is_quiet_effect (effect.LoadElement r i) = true
is_quiet_effect (effect.StoreElement r i v) = true
is_quiet_effect (effect.Creates what) = true
is_quiet_effect (effect.Prints what ends_line) = true
is_quiet_effect (effect.Locks monitor) = is_inner monitor
is_quiet_effect (effect.Unlocks monitor) = is_inner monitor
is_quiet_effect (effect.Starts r u) = false
is_quiet_effect (effect.Joins u) = true
is_quiet_effect (effect.Notifies r all) = true

abbrev pub is_quiet_lock : Lock → Bool
is_quiet_lock lock.Nothing = true
is_quiet_lock (lock.Monitor monitor) = is_inner monitor
is_quiet_lock (lock.NewClass class r) = false

abbrev pub is_quiet_unlock : Option MonitorUse → Bool
is_quiet_unlock None = true
is_quiet_unlock (Some monitor) = is_inner monitor

-- Decides whether an action enters no free monitor and frees none, begins and ends no initialisation, and starts and
-- ends no thread.
abbrev pub is_quiet : {C : Type 0} → {T : Type 0} → Action C T → Bool
is_quiet (action.Goes act) = true
is_quiet (action.Reaches what act) = is_quiet_effect what
is_quiet (action.Begins class) = false
is_quiet (action.Finishes class) = false
is_quiet (action.Enters method code locked) = is_quiet_lock locked
is_quiet (action.Ends method result unlock) = false
is_quiet (action.Calls method code takes locked) = is_quiet_lock locked
is_quiet (action.Returns method result unlock) = is_quiet_unlock unlock
is_quiet (action.Initialises method code) = true
is_quiet (action.Throws r) = true
is_quiet (action.Catches r target) = true
is_quiet (action.Unwinds method last unlock) = not last && is_quiet_unlock unlock
is_quiet (action.FailsToUnlock method e last) = not last
is_quiet (action.FailsInitialisation class e last) = false
is_quiet (action.Waits w) = false
is_quiet (action.Retakes w) = false
is_quiet (action.Raises e) = true
is_quiet (action.Fails e) = false

-- Decides whether a turn of this decision is quiet. A turn that isn't taken changes nothing.
abbrev pub is_quiet_decision : {C : Type 0} → {T : Type 0} → Decision C T → Bool
is_quiet_decision (decision.Stays o) = true
is_quiet_decision (decision.Applies act) = is_quiet act

-- ---- Actions that take, and actions that give

-- Decides whether an effect frees no monitor, and ends no initialisation and no thread. It may enter a monitor, take
-- one again after a wait, begin an initialisation or start a thread.
abbrev pub is_taking_effect : {T : Type 0} → Effect T → Bool
is_taking_effect effect.Nothing = true
is_taking_effect (effect.GetField r n) = true
is_taking_effect (effect.PutField r n v) = true
is_taking_effect (effect.GetStatic n) = true
is_taking_effect (effect.PutStatic n v) = true
is_taking_effect (effect.LoadElement r i) = true
is_taking_effect (effect.StoreElement r i v) = true
is_taking_effect (effect.Creates what) = true
is_taking_effect (effect.Prints what ends_line) = true
is_taking_effect (effect.Locks monitor) = true
is_taking_effect (effect.Unlocks monitor) = is_inner monitor
is_taking_effect (effect.Starts r u) = true
is_taking_effect (effect.Joins u) = true
is_taking_effect (effect.Notifies r all) = true

abbrev pub is_taking : {C : Type 0} → {T : Type 0} → Action C T → Bool
is_taking (action.Goes act) = true
is_taking (action.Reaches what act) = is_taking_effect what
is_taking (action.Begins class) = true
is_taking (action.Finishes class) = false
is_taking (action.Enters method code locked) = true
is_taking (action.Ends method result unlock) = false
is_taking (action.Calls method code takes locked) = true
is_taking (action.Returns method result unlock) = is_quiet_unlock unlock
is_taking (action.Initialises method code) = true
is_taking (action.Throws r) = true
is_taking (action.Catches r target) = true
is_taking (action.Unwinds method last unlock) = not last && is_quiet_unlock unlock
is_taking (action.FailsToUnlock method e last) = not last
is_taking (action.FailsInitialisation class e last) = false
is_taking (action.Waits w) = false
is_taking (action.Retakes w) = true
is_taking (action.Raises e) = true
is_taking (action.Fails e) = false

abbrev pub is_taking_decision : {C : Type 0} → {T : Type 0} → Decision C T → Bool
is_taking_decision (decision.Stays o) = true
is_taking_decision (decision.Applies act) = is_taking act

-- Decides whether an effect enters no free monitor, begins and ends no initialisation, and starts no thread. It may
-- free a monitor, also by a wait, or end its thread.
abbrev pub is_giving_effect : {T : Type 0} → Effect T → Bool
is_giving_effect effect.Nothing = true
is_giving_effect (effect.GetField r n) = true
is_giving_effect (effect.PutField r n v) = true
is_giving_effect (effect.GetStatic n) = true
is_giving_effect (effect.PutStatic n v) = true
is_giving_effect (effect.LoadElement r i) = true
is_giving_effect (effect.StoreElement r i v) = true
is_giving_effect (effect.Creates what) = true
is_giving_effect (effect.Prints what ends_line) = true
is_giving_effect (effect.Locks monitor) = is_inner monitor
is_giving_effect (effect.Unlocks monitor) = true
is_giving_effect (effect.Starts r u) = false
is_giving_effect (effect.Joins u) = true
is_giving_effect (effect.Notifies r all) = true

abbrev pub is_giving : {C : Type 0} → {T : Type 0} → Action C T → Bool
is_giving (action.Goes act) = true
is_giving (action.Reaches what act) = is_giving_effect what
is_giving (action.Begins class) = false
is_giving (action.Finishes class) = false
is_giving (action.Enters method code locked) = is_quiet_lock locked
is_giving (action.Ends method result unlock) = true
is_giving (action.Calls method code takes locked) = is_quiet_lock locked
is_giving (action.Returns method result unlock) = true
is_giving (action.Initialises method code) = true
is_giving (action.Throws r) = true
is_giving (action.Catches r target) = true
is_giving (action.Unwinds method last unlock) = true
is_giving (action.FailsToUnlock method e last) = true
is_giving (action.FailsInitialisation class e last) = false
is_giving (action.Waits w) = true
is_giving (action.Retakes w) = false
is_giving (action.Raises e) = true
is_giving (action.Fails e) = true

abbrev pub is_giving_decision : {C : Type 0} → {T : Type 0} → Decision C T → Bool
is_giving_decision (decision.Stays o) = true
is_giving_decision (decision.Applies act) = is_giving act
