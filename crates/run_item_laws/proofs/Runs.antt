-- Each item of a run is matched at its position. Between turns the open methods of each thread are those of its calls.
use Rattle.std.proofs.Common.{◌≡◌, ℕ, zero, suc, List, [], ◌∷◌, None, slice_get, IsTrue, ⊎_elim, refl, sym, ap, ◌∙◌, subst}
use Rattle.std.proofs.lemmas.Bool.Decides.{eqb_tells}
use Rattle.jvms_program.specs.declared.key.MethodKey.{MethodKey}
use Rattle.jvms_program.specs.declared.program.Class.{Class}
use Rattle.jvms_program.specs.Program.{IsProgram}
use Rattle.jvms_machine.specs.declared.machine.Limits.{Limits}
use Rattle.jvms_machine.specs.declared.trace.Item.{Item}
use Rattle.jvms_machine.specs.Limits.{are_limits}
use Rattle.jvms_machine.specs.Marks.{calls_in, calls_of}
use Rattle.jvms_machine.specs.Opening.{opening}
use Rattle.jvms_machine.specs.Run.{run_from}
use Rattle.jvms_machine.specs.Start.{IsStart, Start}
use Rattle.jvms_machine.specs.State.{Sound, State, new_thread}
use Rattle.jvms_machine.specs.Turn.{turn}
use Rattle.jvms_machine.proofs.OpeningSoundness.{opening_is_sound}
use Rattle.jvms_machine.proofs.TurnSoundness.{turn_keeps, turn_marks}
use Rattle.velodrome.specs.Specification.{Specification}
use Rattle.velodrome.specs.Transactions.{TraceState, opening_trace_state, trace_state_of}
use Rattle.run_item_laws.specs.Feeding.{AreMatched}
use Rattle.run_item_laws.proofs.CallChanges.{turn_changes_calls}
use Rattle.run_item_laws.proofs.Matching.{AllMatched, AreMatchedTo, marks_match, matched_at, matched_by_marks, matched_on, open_keys}

-- The open methods of each thread are those of its calls.
abbrev pub AreOpen : List Class → State → TraceState → Type 0
AreOpen program s w = (u : ℕ) → (w.threads u).methods ≡ open_keys program (calls_of s u)

opening_calls : (u : ℕ) → calls_in (slice_get (new_thread None ∷ []) u) ≡ []
opening_calls zero = refl
opening_calls (suc u) = refl

opening_is_open : (program : List Class) → AreOpen program (opening program) opening_trace_state
unfolding opening
opening_is_open program u = sym (ap (open_keys program) (opening_calls u))

module _ (lines : Specification) (program : List Class) (limits : Limits) (start : Start) (is : IsProgram program) (are : IsTrue (are_limits limits)) (starts : IsStart start) where
  -- The items of a turn lead from the open methods of its thread's calls to those after it.
  turn_matches : (s : State) (t : ℕ) → Sound program limits s → AreMatchedTo t (open_keys program (calls_of s t)) (turn program limits start s t).items (open_keys program (calls_of (turn program limits start s t).state t))
  turn_matches s t sound =
      let row = turn program limits start s t in
      matched_by_marks t (open_keys program (calls_of s t)) row.items (open_keys program (calls_of row.state t))
      (subst (λ (items : List Item). AreMatchedTo t (open_keys program (calls_of s t)) items (open_keys program (calls_of row.state t))) (sym (turn_marks program limits start s t are starts sound))
      (marks_match program t (calls_of s t) (calls_of row.state t) (turn_changes_calls program limits start s t).own))

  open_after : (s : State) (t : ℕ) (w x : TraceState) → AreOpen program s w → (x.threads t).methods ≡ open_keys program (calls_of (turn program limits start s t).state t) → ((u : ℕ) → (u ≡ t → ⊥) → (x.threads u).methods ≡ (w.threads u).methods) → AreOpen program (turn program limits start s t).state x
  open_after s t w x agree own others u =
      ⊎_elim
      (λ same. subst (λ (v : ℕ). (x.threads v).methods ≡ open_keys program (calls_of (turn program limits start s t).state v)) (sym same.1) own)
      (λ other. others u other.1 ∙ agree u ∙ sym (ap (open_keys program) ((turn_changes_calls program limits start s t).others u other.1)))
      (eqb_tells u t)

  pub run_is_matched : (choices : List ℕ) (s : State) (w : TraceState) → Sound program limits s → AreOpen program s w → AllMatched lines w (run_from program limits start s choices).items
  unfolding run_from
  run_is_matched [] s w sound agree = tt
  run_is_matched (t ∷ ts) s w sound agree =
      let row = turn program limits start s t in
      matched_on lines t (run_from program limits start row.state ts).items row.items w (open_keys program (calls_of row.state t))
      (subst (λ (ms : List MethodKey). AreMatchedTo t ms row.items (open_keys program (calls_of row.state t))) (sym (agree t)) (turn_matches s t sound))
      (λ x own others. run_is_matched ts row.state x (turn_keeps program limits start s t is are starts sound) (open_after s t w x agree own others))

  -- Each item of a run from the opening state is matched.
  pub items_are_matched : (choices : List ℕ) → AreMatched lines (run_from program limits start (opening program) choices).items
  unfolding trace_state_of
  items_are_matched choices before after i parts =
      matched_at lines opening_trace_state before after i
      (subst (AllMatched lines opening_trace_state) parts (run_is_matched choices (opening program) opening_trace_state (opening_is_sound program limits are) (opening_is_open program)))
