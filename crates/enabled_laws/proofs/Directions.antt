-- A turn that only takes enables no other thread, and one that only gives disables none.
use Rattle.enabled_laws.proofs.GivingTurns.{Forward, action_gives, forward}
use Rattle.enabled_laws.proofs.Heaps.{AreSized}
use Rattle.enabled_laws.proofs.QuietTurns.{IsKnown, action_known, decided_lives, decided_makes, decided_state, action_keeps_waits, quiet_by, untaken_same}
use Rattle.enabled_laws.proofs.Statics.{action_statics, begins_none}
use Rattle.enabled_laws.proofs.TakingTurns.{Backward, action_takes, backward}
use Rattle.enabled_laws.proofs.Turned.{Turned, turned_rel}
use Rattle.enabled_laws.specs.Quiet.{is_giving, is_giving_decision, is_quiet, is_taking_decision}
use Rattle.jvms_machine.specs.Decisions.{TurnAction, TurnDecision}
use Rattle.jvms_machine.specs.Limits.{are_limits}
use Rattle.jvms_machine.specs.Start.{IsStart, Start}
use Rattle.jvms_machine.specs.State.{Sound, State, Thread}
use Rattle.jvms_machine.specs.Status.{is_bad, is_enabled}
use Rattle.jvms_machine.specs.Turn.{decide, turn}
use Rattle.jvms_machine.specs.declared.machine.Limits.{Limits}
use Rattle.jvms_machine.specs.declared.machine.Outcome.{Outcome}
use Rattle.jvms_program.specs.Program.{IsProgram}
use Rattle.jvms_program.specs.declared.program.Class.{Class}
use Rattle.std.proofs.Common.{IsTrue, List, Some, false, inl, inr, refl, slice_get, subst, sym, true, ℕ, ⊎_elim, ◌∙◌, ◌≡◌}
use Rattle.std.proofs.lemmas.Bool.{cases_Bool, false≢true}
use Rattle.jvms_machine.specs.declared.action.Action.TheVariants as action
use Rattle.jvms_machine.specs.declared.action.Decision.TheVariants as decision
use Rattle.jvms_machine.specs.declared.machine.Outcome.TheVariants as outcome

-- ---- The laws of both

giving_begins_none : (act : TurnAction) → is_giving act ≡ true → begins_none act ≡ true
giving_begins_none (action.Begins class) gives = absurd (false≢true gives)
giving_begins_none _ gives = refl

-- An enabled turn isn't Bad.
pub enabled_is_fit : (o : Outcome) → is_enabled o ≡ true → is_bad o ≡ false
enabled_is_fit (outcome.Bad why) on = absurd (false≢true on)
enabled_is_fit _ on = refl

takes_by : (program : List Class) (limits : Limits) (start : Start) (s : State) (t u : ℕ) (thread : Thread) (d : TurnDecision) → IsKnown program limits start s → (u ≡ t → ⊥) → slice_get s.threads u ≡ Some thread → is_bad (turn program limits start s u).outcome ≡ false → decide program limits start s t ≡ d → is_taking_decision d ≡ true → Backward (is_enabled (turn program limits start s u).outcome) (is_enabled (turn program limits start (turn program limits start s t).state u).outcome) × (is_enabled (turn program limits start s u).outcome ≡ false → is_bad (turn program limits start (turn program limits start s t).state u).outcome ≡ false)
takes_by program limits start s t u thread (decision.Stays o) known other there fit is takes =
    let same = untaken_same program limits start s t u o is fit in
    (λ on. sym same.0 ∙ on, λ off. same.1)
takes_by program limits start s t u thread (decision.Applies act) known other there fit is takes =
    ⊎_elim
    (λ (quiet : is_quiet act ≡ true). let same = quiet_by program limits start s t u (decision.Applies act) known other is quiet fit in (λ on. sym same.0 ∙ on, λ off. same.1))
    (λ (loud : is_quiet act ≡ false).
    let own = decided_makes program limits start s t act is in
    let turned = turned_rel Backward backward program limits start s t u thread known other there
    (subst (λ (r : State). Turned Backward backward t s r) (sym (decided_state program limits start s t (decision.Applies act) is)) (action_takes program start s t own.0 own.1 act takes loud))
    (λ key. inr (λ b _. refl))
    (action_keeps_waits program limits start s t u act known other is)
    fit in
    (turned.0, λ off. turned.1 (λ on _. false≢true (sym off ∙ on))))
    (cases_Bool (is_quiet act))

gives_by : (program : List Class) (limits : Limits) (start : Start) (s : State) (t u : ℕ) (thread : Thread) (d : TurnDecision) → IsKnown program limits start s → (u ≡ t → ⊥) → slice_get s.threads u ≡ Some thread → is_bad (turn program limits start s u).outcome ≡ false → decide program limits start s t ≡ d → is_giving_decision d ≡ true → Forward (is_enabled (turn program limits start s u).outcome) (is_enabled (turn program limits start (turn program limits start s t).state u).outcome) × (is_bad (turn program limits start (turn program limits start s t).state u).outcome ≡ false)
gives_by program limits start s t u thread (decision.Stays o) known other there fit is gives =
    let same = untaken_same program limits start s t u o is fit in
    (λ on. same.0 ∙ on, same.1)
gives_by program limits start s t u thread (decision.Applies act) known other there fit is gives =
    ⊎_elim
    (λ (quiet : is_quiet act ≡ true). let same = quiet_by program limits start s t u (decision.Applies act) known other is quiet fit in (λ on. same.0 ∙ on, same.1))
    (λ (loud : is_quiet act ≡ false).
    let own = decided_makes program limits start s t act is in
    let made = sym (decided_state program limits start s t (decision.Applies act) is) in
    let statics : AreSized s.statics (turn program limits start s t).state.statics = subst (λ (r : State). AreSized s.statics r.statics) made (action_statics program start s t act (giving_begins_none act gives) (action_known program limits start s t act known is)) in
    let turned = turned_rel Forward forward program limits start s t u thread known other there
    (subst (λ (r : State). Turned Forward forward t s r) made
    (action_gives program limits start s t own.0 own.1 (decided_lives program limits start s t act is own.0 own.1) known.sound act gives loud))
    (λ key. inl (statics key))
    (action_keeps_waits program limits start s t u act known other is)
    fit in
    (turned.0, turned.1 (λ on free. false≢true (free false refl))))
    (cases_Bool (is_quiet act))

pub taking_disables : (program : List Class) (limits : Limits) (start : Start) (s : State) (t u : ℕ) (thread : Thread) → IsProgram program → IsTrue (are_limits limits) → IsStart start → Sound program limits s → (u ≡ t → ⊥) → slice_get s.threads u ≡ Some thread → is_bad (turn program limits start s u).outcome ≡ false → is_taking_decision (decide program limits start s t) ≡ true → Backward (is_enabled (turn program limits start s u).outcome) (is_enabled (turn program limits start (turn program limits start s t).state u).outcome) × (is_enabled (turn program limits start s u).outcome ≡ false → is_bad (turn program limits start (turn program limits start s t).state u).outcome ≡ false)
taking_disables program limits start s t u thread is are starts sound other there fit =
    takes_by program limits start s t u thread (decide program limits start s t) (record { classes = is; within = are; starts = starts; sound = sound }) other there fit refl

pub giving_enables : (program : List Class) (limits : Limits) (start : Start) (s : State) (t u : ℕ) (thread : Thread) → IsProgram program → IsTrue (are_limits limits) → IsStart start → Sound program limits s → (u ≡ t → ⊥) → slice_get s.threads u ≡ Some thread → is_bad (turn program limits start s u).outcome ≡ false → is_giving_decision (decide program limits start s t) ≡ true → Forward (is_enabled (turn program limits start s u).outcome) (is_enabled (turn program limits start (turn program limits start s t).state u).outcome) × (is_bad (turn program limits start (turn program limits start s t).state u).outcome ≡ false)
giving_enables program limits start s t u thread is are starts sound other there fit =
    gives_by program limits start s t u thread (decide program limits start s t) (record { classes = is; within = are; starts = starts; sound = sound }) other there fit refl
