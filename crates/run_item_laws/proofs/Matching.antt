-- Matching along a trace: each exit is of the innermost open method. The marks of a thread between its calls before and
-- after a turn match.
use Rattle.std.proofs.Common.{◌≡◌, ℕ, ◌-◌, ◌==◌, ◌&&◌, Bool, true, false, if◌then◌else◌, eqb, List, [], ◌∷◌, ◌++◌, length, take, drop, fold, flat_map, Option, Some, None, inl, inr, refl, sym, ap, ◌∙◌, subst, arith, length-append}
use Rattle.std.specs.List.{filter}
use Rattle.std.proofs.lemmas.Bool.{and_from, cond_both, eq-eqb, eqb-true, ne_eqb}
use Rattle.std.proofs.lemmas.List.{append-nil}
use Rattle.std.proofs.Math.Seq.{take-append_seam}
use Rattle.jvms_file.specs.Names.{same_text}
use Rattle.jvms_program.specs.declared.key.MethodKey.{MethodKey}
use Rattle.jvms_program.specs.declared.number.MethodNumber.{MethodNumber}
use Rattle.jvms_program.specs.declared.program.Class.{Class}
use Rattle.jvms_program.specs.BuiltIn.{is_built_in}
use Rattle.jvms_program.specs.Program.{key_of}
use Rattle.jvms_machine.specs.declared.trace.Item.{Item}
use Rattle.jvms_machine.specs.declared.trace.Item.TheVariants as item
use Rattle.jvms_machine.specs.Actions.{enter_items, exit_items, mark}
use Rattle.jvms_machine.specs.Marks.{is_mark, marks_between}
use Rattle.jvms_machine.specs.Events.{thread_of}
use Rattle.velodrome.specs.Specification.{Specification}
use Rattle.velodrome.specs.Transactions.{ThreadState, TraceState, with_entry, with_exit, with_event, is_innermost, is_matched, next_transaction, same_method, state_after_item, with_thread_state}
use Rattle.run_item_laws.proofs.CallChanges.{IsCallsChange}

-- Each of the items is matched at its position, from this trace state on.
abbrev pub AllMatched : Specification → TraceState → List Item → Type 0
AllMatched lines w [] = Unit {0}
AllMatched lines w (i ∷ items) = (is_matched w i ≡ true) × AllMatched lines (state_after_item lines w i) items

pub matched_at : (lines : Specification) (w : TraceState) (before after : List Item) (i : Item) → AllMatched lines w (before ++ i ∷ after) → is_matched (fold (state_after_item lines) w before) i ≡ true
matched_at lines w [] after i all = all.0
matched_at lines w (b ∷ before) after i all = matched_at lines (state_after_item lines w b) before after i all.1

-- ---- Items of one thread

-- The marks are of thread t and matched, and lead from the first open methods to the second.
abbrev pub AreMatchedTo : ℕ → List MethodKey → List Item → List MethodKey → Type 0
AreMatchedTo t methods [] after = methods ≡ after
AreMatchedTo t methods (item.Enter u m ∷ items) after = (u ≡ t) × AreMatchedTo t (m ∷ methods) items after
AreMatchedTo t methods (item.Exit u m ∷ items) after = (u ≡ t) × (is_innermost m methods ≡ true) × AreMatchedTo t (drop 1 methods) items after
AreMatchedTo t methods (i ∷ items) after = AreMatchedTo t methods items after

-- Events change no open methods.
pub matched_by_marks : (t : ℕ) (methods : List MethodKey) (items : List Item) (after : List MethodKey) → AreMatchedTo t methods (filter is_mark items) after → AreMatchedTo t methods items after
matched_by_marks t methods [] after are = are
matched_by_marks t methods (item.Read u v ∷ items) after are = matched_by_marks t methods items after are
matched_by_marks t methods (item.Write u v ∷ items) after are = matched_by_marks t methods items after are
matched_by_marks t methods (item.Acquire u r ∷ items) after are = matched_by_marks t methods items after are
matched_by_marks t methods (item.Release u r ∷ items) after are = matched_by_marks t methods items after are
matched_by_marks t methods (item.Fork u v ∷ items) after are = matched_by_marks t methods items after are
matched_by_marks t methods (item.Join u v ∷ items) after are = matched_by_marks t methods items after are
matched_by_marks t methods (item.Enter u m ∷ items) after are = (are.0, matched_by_marks t (m ∷ methods) items after are.1)
matched_by_marks t methods (item.Exit u m ∷ items) after are = (are.0, are.1, matched_by_marks t (drop 1 methods) items after are.2)

-- ---- The open methods of calls

-- Opens the method of a call, unless it is of a built-in class.
abbrev pub open_with : Option MethodKey → List MethodKey → List MethodKey
open_with None methods = methods
open_with (Some key) methods = if is_built_in key.class then methods else key ∷ methods

abbrev pub open_keys : List Class → List MethodNumber → List MethodKey
open_keys program [] = []
open_keys program (m ∷ ms) = open_with (key_of program m) (open_keys program ms)

same_as_itself : (text : List ℕ) → same_text text text ≡ true
same_as_itself [] = refl
same_as_itself (u ∷ us) = and_from (eqb u u) (same_text us us) (eq-eqb u u refl) (same_as_itself us)

method_is_itself : (m : MethodKey) → same_method m m ≡ true
method_is_itself m =
    and_from (same_text m.class m.class && same_text m.name m.name) (same_text m.descriptor m.descriptor)
    (and_from (same_text m.class m.class) (same_text m.name m.name) (same_as_itself m.class) (same_as_itself m.name)) (same_as_itself m.descriptor)

-- A new call matches.
entry_matches : (t : ℕ) (o : Option MethodKey) (methods : List MethodKey) → AreMatchedTo t methods (mark (λ key. item.Enter t key) o) (open_with o methods)
entry_matches t None methods = refl
entry_matches t (Some key) methods = of (is_built_in key.class)
  where
    of : (b : Bool) → AreMatchedTo t methods (if b then [] else item.Enter t key ∷ []) (if b then methods else key ∷ methods)
    of true = refl
    of false = (refl, refl)

-- A call that ends matches, before others.
exit_matches : (t : ℕ) (o : Option MethodKey) (methods : List MethodKey) (items : List Item) (after : List MethodKey) → AreMatchedTo t methods items after → AreMatchedTo t (open_with o methods) (mark (λ key. item.Exit t key) o ++ items) after
exit_matches t None methods items after are = are
exit_matches t (Some key) methods items after are = of (is_built_in key.class)
  where
    of : (b : Bool) → AreMatchedTo t (if b then methods else key ∷ methods) ((if b then [] else item.Exit t key ∷ []) ++ items) after
    of true = are
    of false = (refl, method_is_itself key, are)

exits_match : (program : List Class) (t : ℕ) (gone after : List MethodNumber) → AreMatchedTo t (open_keys program (gone ++ after)) (flat_map (exit_items program t) gone) (open_keys program after)
exits_match program t [] after = refl
exits_match program t (m ∷ gone) after =
    exit_matches t (key_of program m) (open_keys program (gone ++ after)) (flat_map (exit_items program t) gone) (open_keys program after) (exits_match program t gone after)

exits_between : (program : List Class) (t : ℕ) (gone after : List MethodNumber) → marks_between program t (gone ++ after) after ≡ flat_map (exit_items program t) gone
exits_between program t gone after =
    let longer = length-append gone after in
    let gone_are : length (gone ++ after) - length after ≡ length gone = omega arith in
    let none : length after - length (gone ++ after) ≡ 0 = omega arith in
    ap (λ n. flat_map (exit_items program t) (take n (gone ++ after)) ++ flat_map (enter_items program t) (take (length after - length (gone ++ after)) after)) gone_are
    ∙ ap (λ n. flat_map (exit_items program t) (take (length gone) (gone ++ after)) ++ flat_map (enter_items program t) (take n after)) none
    ∙ append-nil (flat_map (exit_items program t) (take (length gone) (gone ++ after)))
    ∙ ap (flat_map (exit_items program t)) (take-append_seam gone after)

entry_between : (program : List Class) (t : ℕ) (before : List MethodNumber) (m : MethodNumber) → marks_between program t before (m ∷ before) ≡ enter_items program t m
entry_between program t before m =
    let none : length before - length (m ∷ before) ≡ 0 = omega arith in
    let more : length (m ∷ before) - length before ≡ 1 = omega arith in
    ap (λ n. flat_map (exit_items program t) (take n before) ++ flat_map (enter_items program t) (take (length (m ∷ before) - length before) (m ∷ before))) none
    ∙ ap (λ n. flat_map (enter_items program t) (take n (m ∷ before))) more
    ∙ append-nil (enter_items program t m)

-- The marks between calls lead from the open methods of the earlier calls to those of the later ones.
pub marks_match : (program : List Class) (t : ℕ) (before after : List MethodNumber) → IsCallsChange before after → AreMatchedTo t (open_keys program before) (marks_between program t before after) (open_keys program after)
marks_match program t before after (inl gone) =
    subst (λ (ms : List MethodNumber). AreMatchedTo t (open_keys program ms) (marks_between program t ms after) (open_keys program after)) (sym gone.1)
    (subst (λ (items : List Item). AreMatchedTo t (open_keys program (gone.0 ++ after)) items (open_keys program after)) (sym (exits_between program t gone.0 after)) (exits_match program t gone.0 after))
marks_match program t before after (inr one) =
    subst (λ (ms : List MethodNumber). AreMatchedTo t (open_keys program before) (marks_between program t before ms) (open_keys program ms)) (sym one.1)
    (subst (λ (items : List Item). AreMatchedTo t (open_keys program before) items (open_keys program (one.0 ∷ before))) (sym (entry_between program t before one.0)) (entry_matches t (key_of program one.0) (open_keys program before)))

-- ---- Items of one thread along a trace

state_own : (t u : ℕ) (thread : ThreadState) (w : TraceState) → u ≡ t → (with_thread_state u thread w).threads t ≡ thread
state_own t u thread w same = ap (λ (b : Bool). if b then thread else w.threads t) (eq-eqb t u (sym same))

state_other : (t u v : ℕ) (thread : ThreadState) (w : TraceState) → u ≡ t → (v ≡ t → ⊥) → (with_thread_state u thread w).threads v ≡ w.threads v
state_other t u v thread w same other = ap (λ (b : Bool). if b then thread else w.threads v) (ne_eqb v u (λ is. other (is ∙ same)))

-- An event opens no method and closes none.
happened_keeps : (lines : Specification) (i : Item) (n : ℕ) (w : TraceState) (u : ℕ) → ((with_event lines i (w.threads (thread_of i)) n w).threads u).methods ≡ (w.threads u).methods
happened_keeps lines i n w u =
    cond_both (u == thread_of i) _ (w.threads u) (λ (c : ThreadState). c.methods ≡ (w.threads u).methods)
    (λ is. ap (λ (v : ℕ). (w.threads v).methods) (sym (eqb-true u (thread_of i) is))) (λ _. refl)

module _ (lines : Specification) (t : ℕ) (rest : List Item) where
  -- The rest is matched after items that lead to these methods and leave other threads unchanged.
  abbrev pub IsMatchedAfter : TraceState → List MethodKey → Type 0
  IsMatchedAfter w after = (x : TraceState) → (x.threads t).methods ≡ after → ((u : ℕ) → (u ≡ t → ⊥) → (x.threads u).methods ≡ (w.threads u).methods) → AllMatched lines x rest

  later : (w x : TraceState) (after : List MethodKey) → ((u : ℕ) → (u ≡ t → ⊥) → (x.threads u).methods ≡ (w.threads u).methods) → IsMatchedAfter w after → IsMatchedAfter x after
  later w x after same next = λ y own others. next y own (λ u other. others u other ∙ same u other)

  abbrev KeepsOpen : TraceState → TraceState → Type 0
  KeepsOpen w x = (u : ℕ) → (x.threads u).methods ≡ (w.threads u).methods

  still_matched : (w x : TraceState) (items : List Item) (after : List MethodKey) → KeepsOpen w x → AreMatchedTo t (w.threads t).methods items after → AreMatchedTo t (x.threads t).methods items after
  still_matched w x items after same are = subst (λ (ms : List MethodKey). AreMatchedTo t ms items after) (sym (same t)) are

  event_keeps : (i : Item) (w : TraceState) → KeepsOpen w (with_event lines i (w.threads (thread_of i)) (next_transaction (w.threads (thread_of i)).transaction w.transactions) w)
  event_keeps i w = happened_keeps lines i (next_transaction (w.threads (thread_of i)).transaction w.transactions) w

  -- Matched items of thread t may precede the rest.
  pub matched_on : (items : List Item) (w : TraceState) (after : List MethodKey) → AreMatchedTo t (w.threads t).methods items after → IsMatchedAfter w after → AllMatched lines w (items ++ rest)
  unfolding state_after_item
  matched_on [] w after are next = next w are (λ u other. refl)
  matched_on (item.Read u v ∷ items) w after are next =
      let x = state_after_item lines w (item.Read u v) in
      let same = event_keeps (item.Read u v) w in
      (refl, matched_on items x after (still_matched w x items after same are) (later w x after (λ v _. same v) next))
  matched_on (item.Write u v ∷ items) w after are next =
      let x = state_after_item lines w (item.Write u v) in
      let same = event_keeps (item.Write u v) w in
      (refl, matched_on items x after (still_matched w x items after same are) (later w x after (λ v _. same v) next))
  matched_on (item.Acquire u r ∷ items) w after are next =
      let x = state_after_item lines w (item.Acquire u r) in
      let same = event_keeps (item.Acquire u r) w in
      (refl, matched_on items x after (still_matched w x items after same are) (later w x after (λ v _. same v) next))
  matched_on (item.Release u r ∷ items) w after are next =
      let x = state_after_item lines w (item.Release u r) in
      let same = event_keeps (item.Release u r) w in
      (refl, matched_on items x after (still_matched w x items after same are) (later w x after (λ v _. same v) next))
  matched_on (item.Fork u v ∷ items) w after are next =
      let x = state_after_item lines w (item.Fork u v) in
      let same = event_keeps (item.Fork u v) w in
      (refl, matched_on items x after (still_matched w x items after same are) (later w x after (λ v _. same v) next))
  matched_on (item.Join u v ∷ items) w after are next =
      let x = state_after_item lines w (item.Join u v) in
      let same = event_keeps (item.Join u v) w in
      (refl, matched_on items x after (still_matched w x items after same are) (later w x after (λ v _. same v) next))
  matched_on (item.Enter u m ∷ items) w after are next =
      let x = state_after_item lines w (item.Enter u m) in
      let own = ap (λ (c : ThreadState). c.methods) (state_own t u (with_entry m (w.threads u)) w are.0) ∙ ap (λ (v : ℕ). m ∷ (w.threads v).methods) are.0 in (
        refl,
        matched_on items x after (subst (λ (ms : List MethodKey). AreMatchedTo t ms items after) (sym own) are.1)
            (later w x after (λ v other. ap (λ (c : ThreadState). c.methods) (state_other t u v (with_entry m (w.threads u)) w are.0 other)) next),
      )
  matched_on (item.Exit u m ∷ items) w after are next =
      let x = state_after_item lines w (item.Exit u m) in
      let own = ap (λ (c : ThreadState). c.methods) (state_own t u (with_exit lines (w.threads u)) w are.0) ∙ ap (λ (v : ℕ). drop 1 (w.threads v).methods) are.0 in (
        ap (λ (v : ℕ). is_innermost m (w.threads v).methods) are.0 ∙ are.1,
        matched_on items x after (subst (λ (ms : List MethodKey). AreMatchedTo t ms items after) (sym own) are.2)
            (later w x after (λ v other. ap (λ (c : ThreadState). c.methods) (state_other t u v (with_exit lines (w.threads u)) w are.0 other)) next),
      )
