-- No effect changes the thread whose call continues.
use Rattle.std.proofs.Common.{◌≡◌, ℕ, zero, suc, List, [], ◌∷◌, Option, Some, slice_get, slice_index_or, slice_set, ap, sym, ◌∙◌, subst}
use Rattle.std.proofs.lemmas.Option.{none-some, same_Some}
use Rattle.std.specs.Prelude.{IfSome}
use Rattle.jvms_machine.specs.State.{State, Thread}
use Rattle.jvms_machine.specs.Actions.{after_effect, applied_to, changed_to, thread_after_action, operands_of}
use Rattle.jvms_machine.proofs.EffectSoundness.{affected_thread}
use Rattle.machine_parts.specs.Decided.{effect_value}
use Rattle.machine_parts.specs.Machine.{Machine, with_state}
use Rattle.machine_parts.specs.machine_thread.Tops.{HasNext}
use Rattle.exec_ref.proofs.effects.reach.Goals as goal

index_is : (threads : List Thread) (t : ℕ) (thread other : Thread) → slice_get threads t ≡ Some thread → slice_index_or threads t other ≡ thread
index_is [] t thread other is = absurd (none-some thread is)
index_is (x ∷ threads) zero thread other is = same_Some x thread is
index_is (x ∷ threads) (suc t) thread other is = index_is threads t thread other is

-- The thread that the code finds is the one from before the effect.
found : (c : goal.After-index_mut) → c.index_mut.result.now ≡ c.requires.ready.0
found c =
    let m = c.args.parts.now in
    let operands = operands_of (slice_get m.state.threads c.args.t) in
    let threads = ap (λ (x : Machine). x.state.threads) (c.parts.view_is ∙ c.in_ok-affect.ensures.state) in
    let there : slice_get c.parts.inside.threads.items c.args.t ≡ Some c.requires.ready.0 =
    ap (λ ts. slice_get ts c.args.t) threads ∙ affected_thread m.program m.state c.args.t operands (effect_value c.args.effect) c.args.t c.requires.ready.0 c.requires.ready.1 in
    c.index_mut.ensures.value ∙ index_is c.parts.inside.threads.items c.args.t c.requires.ready.0 c.index_mut.result.now there

of_thread : (P : Thread → Type 0) (o : Option Thread) (thread : Thread) → o ≡ Some thread → IfSome o P → P thread
of_thread P o thread is holds = subst (λ x. IfSome x P) is holds

pub apply-requires-clause-room : goal.apply-requires-clause-room
apply-requires-clause-room c = rw (found c) c.requires.ready.2

pub apply-requires-clause-next : goal.apply-requires-clause-next
apply-requires-clause-next c =
    rw (found c) (of_thread (λ (x : Thread). HasNext x.frames) (slice_get c.args.parts.now.state.threads c.args.t) c.requires.ready.0 c.requires.ready.1 c.requires.next)

pub returns-clause-state : goal.returns-clause-state
unfolding applied_to
returns-clause-state c =
    let m = c.args.parts.now in
    let t = c.args.t in
    let operands = operands_of (slice_get m.state.threads t) in
    let s : State = after_effect m.program m.state t operands (effect_value c.args.effect) in
    let view = c.parts.view_is ∙ c.in_ok-affect.ensures.state in
    let at : slice_get s.threads t ≡ Some c.requires.ready.0 =
    affected_thread m.program m.state t operands (effect_value c.args.effect) t c.requires.ready.0 c.requires.ready.1 in
    let there : slice_get c.parts.inside.threads.items t ≡ Some c.requires.ready.0 = ap (λ (x : Machine). slice_get x.state.threads t) view ∙ at in
    let same : c.index_mut.result.now ≡ c.requires.ready.0 =
    c.index_mut.ensures.value ∙ index_is c.parts.inside.threads.items t c.requires.ready.0 c.index_mut.result.now there in
    ap (λ (x : Machine). with_state x (record x.state { threads = slice_set x.state.threads t c.apply.new.self })) view
    ∙ ap (λ (x : Thread). with_state m (record s { threads = slice_set s.threads t x })) (c.apply.ensures ∙ ap (thread_after_action c.args.act) same)
    ∙ sym (ap (λ (o : Option Thread). with_state m (record s { threads = changed_to s.threads t (thread_after_action c.args.act) o })) at)
