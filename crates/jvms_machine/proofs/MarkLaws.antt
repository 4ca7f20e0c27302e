-- The marks of a turn that changes one thread's calls by at most one.
use Rattle.std.proofs.Common.{◌≡◌, ℕ, ◌-◌, ◌==◌, List, [], ◌∷◌, ◌++◌, length, Option, None, Some, slice_get, flat_map, take, refl, sym, ap, ◌∙◌, arith}
use Rattle.std.specs.List.{filter}
use Rattle.std.proofs.lemmas.Bool.{cond_both}
use Rattle.std.proofs.lemmas.List.{append-nil}
use Rattle.std.proofs.lemmas.List.Elements.{filter-append}
use Rattle.jvms_machine.specs.declared.value.Value.{Value}
use Rattle.jvms_machine.specs.declared.state.StackFrame.TheVariants as stack_frame
use Rattle.jvms_machine.specs.declared.action.FrameAction.{FrameAction}
use Rattle.jvms_machine.specs.declared.action.MonitorUse.{MonitorUse}
use Rattle.jvms_machine.specs.declared.action.Lock.{Lock}
use Rattle.jvms_machine.specs.declared.action.Lock.TheVariants as lock
use Rattle.jvms_program.specs.declared.number.MethodNumber.{MethodNumber}
use Rattle.jvms_program.specs.declared.program.Class.{Class}
use Rattle.jvms_program.specs.declared.key.MethodKey.{MethodKey}
use Rattle.jvms_program.specs.BuiltIn.{is_built_in}
use Rattle.jvms_program.specs.Program.{key_of}
use Rattle.jvms_machine.specs.declared.trace.Item.TheVariants as item
use Rattle.jvms_machine.specs.State.{State, Thread, Frame}
use Rattle.jvms_machine.specs.Actions.{mark, enter_items, exit_items, acquire_items, release_items, lock_items, unlock_items, changed_to, stack_after_action, stack_without_operands, stack_after_return, with_result}
use Rattle.jvms_machine.specs.Marks.{is_mark, calls, calls_in, calls_of, marks_between}
use Rattle.jvms_machine.proofs.ListLaws.{get_set_same}

-- ---- Marks

-- If no call is pushed or popped, there are no marks.
pub unmarked : (program : List Class) (t : ℕ) (before : List MethodNumber) → [] ≡ marks_between program t before before
unmarked program t before =
    let none : length before - length before ≡ 0 = omega arith in
    sym (ap (λ n. flat_map (exit_items program t) (take n before) ++ flat_map (enter_items program t) (take n before)) none)

pub unmarked_by : (program : List Class) (t : ℕ) (before after : List MethodNumber) → after ≡ before → [] ≡ marks_between program t before after
unmarked_by program t before after same = unmarked program t before ∙ sym (ap (marks_between program t before) same)

-- Entries and exits of methods are marks.
enters_are_marks : (t : ℕ) (o : Option MethodKey) → filter is_mark (mark (λ key. item.Enter t key) o) ≡ mark (λ key. item.Enter t key) o
enters_are_marks t None = refl
enters_are_marks t (Some key) = cond_both (is_built_in key.class) _ _ (λ items. filter is_mark items ≡ items) (λ _. refl) (λ _. refl)

exits_are_marks : (t : ℕ) (o : Option MethodKey) → filter is_mark (mark (λ key. item.Exit t key) o) ≡ mark (λ key. item.Exit t key) o
exits_are_marks t None = refl
exits_are_marks t (Some key) = cond_both (is_built_in key.class) _ _ (λ items. filter is_mark items ≡ items) (λ _. refl) (λ _. refl)

-- Entries and exits of monitors are no marks.
pub acquire_is_no_mark : (t : ℕ) (monitor : MonitorUse) → filter is_mark (acquire_items t monitor) ≡ []
acquire_is_no_mark t monitor = cond_both monitor.outermost _ _ (λ items. filter is_mark items ≡ []) (λ _. refl) (λ _. refl)

pub release_is_no_mark : (t : ℕ) (monitor : MonitorUse) → filter is_mark (release_items t monitor) ≡ []
release_is_no_mark t monitor = cond_both monitor.outermost _ _ (λ items. filter is_mark items ≡ []) (λ _. refl) (λ _. refl)

lock_is_no_mark : (t : ℕ) (locked : Lock) → filter is_mark (lock_items t locked) ≡ []
lock_is_no_mark t lock.Nothing = refl
lock_is_no_mark t (lock.Monitor monitor) = acquire_is_no_mark t monitor
lock_is_no_mark t (lock.NewClass class r) = refl

unlock_is_no_mark : (t : ℕ) (unlock : Option MonitorUse) → filter is_mark (unlock_items t unlock) ≡ []
unlock_is_no_mark t None = refl
unlock_is_no_mark t (Some monitor) = release_is_no_mark t monitor

-- A pushed call has only its own mark, and so has a popped one.
pub marked_with_lock : (program : List Class) (t : ℕ) (m : MethodNumber) (locked : Lock) → filter is_mark (enter_items program t m ++ lock_items t locked) ≡ filter is_mark (enter_items program t m)
marked_with_lock program t m locked =
    filter-append is_mark (enter_items program t m) (lock_items t locked)
    ∙ ap (λ items. filter is_mark (enter_items program t m) ++ items) (lock_is_no_mark t locked) ∙ append-nil (filter is_mark (enter_items program t m))

pub marked_with_unlock : (program : List Class) (t : ℕ) (m : MethodNumber) (unlock : Option MonitorUse) → filter is_mark (unlock_items t unlock ++ exit_items program t m) ≡ filter is_mark (exit_items program t m)
marked_with_unlock program t m unlock =
    filter-append is_mark (unlock_items t unlock) (exit_items program t m) ∙ ap (λ items. items ++ filter is_mark (exit_items program t m)) (unlock_is_no_mark t unlock)

-- A pushed call.
pub entered_mark : (program : List Class) (t : ℕ) (before after : List MethodNumber) (m : MethodNumber) → after ≡ m ∷ before → filter is_mark (enter_items program t m) ≡ marks_between program t before after
entered_mark program t before after m one =
    let none : length before - length (m ∷ before) ≡ 0 = omega arith in
    let more : length (m ∷ before) - length before ≡ 1 = omega arith in
    enters_are_marks t (key_of program m) ∙ sym (ap (marks_between program t before) one
    ∙ ap (λ n. flat_map (exit_items program t) (take n before) ++ flat_map (enter_items program t) (take (length (m ∷ before) - length before) (m ∷ before))) none
    ∙ ap (λ n. flat_map (enter_items program t) (take n (m ∷ before))) more
    ∙ append-nil (enter_items program t m))

-- A popped call.
pub left_mark : (program : List Class) (t : ℕ) (before after : List MethodNumber) (m : MethodNumber) → before ≡ m ∷ after → filter is_mark (exit_items program t m) ≡ marks_between program t before after
left_mark program t before after m one =
    let none : length after - length (m ∷ after) ≡ 0 = omega arith in
    let more : length (m ∷ after) - length after ≡ 1 = omega arith in
    exits_are_marks t (key_of program m) ∙ sym (ap (λ b. marks_between program t b after) one
    ∙ ap (λ n. flat_map (exit_items program t) (take (length (m ∷ after) - length after) (m ∷ after)) ++ flat_map (enter_items program t) (take n after)) none
    ∙ append-nil (flat_map (exit_items program t) (take (length (m ∷ after) - length after) (m ∷ after)))
    ∙ ap (λ n. flat_map (exit_items program t) (take n (m ∷ after))) more
    ∙ append-nil (exit_items program t m))

-- ---- Calls

-- The calls of a changed thread.
pub changed_calls : (threads : List Thread) (t : ℕ) (thread : Thread) (change : Thread → Thread) → slice_get threads t ≡ Some thread → calls_in (slice_get (changed_to threads t change (slice_get threads t)) t) ≡ calls (change thread).frames
changed_calls threads t thread change given =
    ap calls_in (ap (λ o. slice_get (changed_to threads t change o) t) given ∙ get_set_same threads t thread (change thread) given)

-- A call that continues is one of the same method.
pub gone_on_calls : (act : FrameAction) (frames : List Frame) → calls (stack_after_action act frames) ≡ calls frames
gone_on_calls act [] = refl
gone_on_calls act (stack_frame.Call f ∷ below) = refl
gone_on_calls act (stack_frame.Initialisation class called ∷ below) = refl

-- A caller that passes operands is one of the same method.
pub given_calls : (takes : ℕ) (frames : List Frame) → calls (stack_without_operands takes frames) ≡ calls frames
given_calls takes [] = refl
given_calls takes (stack_frame.Call f ∷ below) = refl
given_calls takes (stack_frame.Initialisation class called ∷ below) = refl

pub returned_calls : (result : Option Value) (frames : List Frame) → calls (stack_after_return result frames) ≡ calls frames
returned_calls result [] = refl
returned_calls result (stack_frame.Call f ∷ below) = refl
returned_calls result (stack_frame.Initialisation class called ∷ below) = refl

-- The result of the run belongs to no thread.
pub result_calls : (s : State) (t : ℕ) (result : Option Value) → calls_of (with_result s t result) t ≡ calls_of s t
result_calls s t result = cond_both (t == 0) (record s { result = result }) s (λ (r : State). calls_of r t ≡ calls_of s t) (λ _. refl) (λ _. refl)
