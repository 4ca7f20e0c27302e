-- How an item changes the open methods of a thread.
use Rattle.std.proofs.Common.{◌≡◌, ◌≢◌, ℕ, Bool, true, false, cond, ◌==◌, List, ◌∷◌, drop, refl, sym, ap, subst, ◌∙◌, true≢false}
use Rattle.std.proofs.lemmas.Bool.{eq-eqb, eqb-true}
use Rattle.jvms_program.specs.declared.key.MethodKey.{MethodKey}
use Rattle.jvms_machine.specs.declared.trace.Item.{Item}
use Rattle.jvms_machine.specs.declared.trace.Item.TheVariants as item
use Rattle.jvms_machine.specs.Events.{thread_of}
use Rattle.velodrome.specs.Specification.{Specification}
use Rattle.velodrome.specs.Transactions.{ThreadState, TraceState, is_event, state_after_item}

-- ---- The state of one thread

apart : (u t : ℕ) (b : Bool) → (t == u) ≡ b → u ≢ t → b ≡ false
apart u t true is differs = absurd (differs (sym (eqb-true t u is)))
apart u t false is differs = refl

own_state : (u t : ℕ) (thread : ThreadState) (threads : ℕ → ThreadState) → u ≡ t → cond (t == u) thread (threads t) ≡ thread
own_state u t thread threads same = ap (λ b. cond b thread (threads t)) (eq-eqb t u (sym same))

other_state : (u t : ℕ) (thread : ThreadState) (threads : ℕ → ThreadState) → u ≢ t → cond (t == u) thread (threads t) ≡ threads t
other_state u t thread threads differs = ap (λ b. cond b thread (threads t)) (apart u t (t == u) refl differs)

-- ---- Items

-- An item of another thread changes nothing.
pub left_alone : (lines : Specification) (w : TraceState) (i : Item) (t : ℕ) → thread_of i ≢ t → ((state_after_item lines w i).threads t).methods ≡ (w.threads t).methods
unfolding state_after_item
left_alone lines w (item.Enter u m) t differs = ap (λ c. c.methods) (other_state u t _ w.threads differs)
left_alone lines w (item.Exit u m) t differs = ap (λ c. c.methods) (other_state u t _ w.threads differs)
left_alone lines w (item.Read u v) t differs = ap (λ c. c.methods) (other_state u t _ w.threads differs)
left_alone lines w (item.Write u v) t differs = ap (λ c. c.methods) (other_state u t _ w.threads differs)
left_alone lines w (item.Acquire u v) t differs = ap (λ c. c.methods) (other_state u t _ w.threads differs)
left_alone lines w (item.Release u v) t differs = ap (λ c. c.methods) (other_state u t _ w.threads differs)
left_alone lines w (item.Fork u v) t differs = ap (λ c. c.methods) (other_state u t _ w.threads differs)
left_alone lines w (item.Join u v) t differs = ap (λ c. c.methods) (other_state u t _ w.threads differs)

enters : (lines : Specification) (w : TraceState) (u t : ℕ) (m : MethodKey) → u ≡ t → ((state_after_item lines w (item.Enter u m)).threads t).methods ≡ m ∷ (w.threads t).methods
unfolding state_after_item
enters lines w u t m same =
    ap (λ c. c.methods) (own_state u t _ w.threads same) ∙ ap (λ v. m ∷ (w.threads v).methods) same

exits : (lines : Specification) (w : TraceState) (u t : ℕ) (m : MethodKey) → u ≡ t → ((state_after_item lines w (item.Exit u m)).threads t).methods ≡ drop 1 (w.threads t).methods
unfolding state_after_item
exits lines w u t m same =
    ap (λ c. c.methods) (own_state u t _ w.threads same) ∙ ap (λ v. drop 1 (w.threads v).methods) same

-- The entry of a method, which is then the innermost.
pub entered : (lines : Specification) (w : TraceState) (i : Item) (u t : ℕ) (m : MethodKey) → i ≡ item.Enter u m → thread_of i ≡ t → ((state_after_item lines w i).threads t).methods ≡ m ∷ (w.threads t).methods
entered lines w i u t m is same =
    let P : Item → Type 0 = λ j. thread_of j ≡ t → ((state_after_item lines w j).threads t).methods ≡ m ∷ (w.threads t).methods in
    subst P (sym is) (enters lines w u t m) same

-- The exit of the innermost method.
pub exited : (lines : Specification) (w : TraceState) (i : Item) (u t : ℕ) (m : MethodKey) → i ≡ item.Exit u m → thread_of i ≡ t → ((state_after_item lines w i).threads t).methods ≡ drop 1 (w.threads t).methods
exited lines w i u t m is same =
    let P : Item → Type 0 = λ j. thread_of j ≡ t → ((state_after_item lines w j).threads t).methods ≡ drop 1 (w.threads t).methods in
    subst P (sym is) (exits lines w u t m) same

-- An event leaves the open methods unchanged.
pub happened : (lines : Specification) (w : TraceState) (i : Item) (t : ℕ) → is_event i ≡ true → thread_of i ≡ t → ((state_after_item lines w i).threads t).methods ≡ (w.threads t).methods
unfolding state_after_item
happened lines w (item.Enter u m) t event same = absurd (true≢false (sym event))
happened lines w (item.Exit u m) t event same = absurd (true≢false (sym event))
happened lines w (item.Read u v) t event same = ap (λ c. c.methods) (own_state u t _ w.threads same) ∙ ap (λ v. (w.threads v).methods) same
happened lines w (item.Write u v) t event same = ap (λ c. c.methods) (own_state u t _ w.threads same) ∙ ap (λ v. (w.threads v).methods) same
happened lines w (item.Acquire u v) t event same = ap (λ c. c.methods) (own_state u t _ w.threads same) ∙ ap (λ v. (w.threads v).methods) same
happened lines w (item.Release u v) t event same = ap (λ c. c.methods) (own_state u t _ w.threads same) ∙ ap (λ v. (w.threads v).methods) same
happened lines w (item.Fork u v) t event same = ap (λ c. c.methods) (own_state u t _ w.threads same) ∙ ap (λ v. (w.threads v).methods) same
happened lines w (item.Join u v) t event same = ap (λ c. c.methods) (own_state u t _ w.threads same) ∙ ap (λ v. (w.threads v).methods) same
