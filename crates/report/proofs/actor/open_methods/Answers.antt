use Rattle.std.proofs.Common.{◌≡◌, ℕ, ◌+◌, ◌<◌, ◌∷◌, List, [], drop, get_or, length, map, reverse, refl, sym, ap, ◌∙◌}
use Rattle.std.proofs.lemmas.List.{drop_all, drop_more}
use Rattle.std.specs.List.{fold}
use Rattle.jvms_machine.specs.declared.trace.Item.{Item}
use Rattle.velodrome.specs.Specification.{Specification}
use Rattle.velodrome.specs.Transactions.{TraceState, opening_trace_state, trace_state_of, state_after_item}
use Rattle.report.specs.Marks.{methods_after}
use Rattle.report.proofs.actor.open_methods.Goals as goal

at_front : {X : Type 0} (xs : List X) (i : ℕ) (x : X) → i < length xs → x ≡ get_or xs i x → drop i xs ≡ x ∷ drop (i + 1) xs
at_front xs i x below is = drop_more xs i x below ∙ ap (λ y. y ∷ drop (i + 1) xs) (sym is)

-- The remaining items continue from the trace state after their first one.
one_on : (lines : Specification) (w end : TraceState) (left rest : List Item) (i : Item) → left ≡ i ∷ rest → fold (state_after_item lines) w left ≡ end
    → fold (state_after_item lines) (state_after_item lines w i) rest ≡ end
one_on lines w end left rest i is leads = sym (ap (fold (state_after_item lines) w) is) ∙ leads

-- Nothing is left.
at_end : (lines : Specification) (w end : TraceState) (left : List Item) → left ≡ [] → fold (state_after_item lines) w left ≡ end → w ≡ end
at_end lines w end left is leads = sym (ap (fold (state_after_item lines) w) is) ∙ leads

pub loop-item-init : goal.loop-item-init
unfolding trace_state_of
loop-item-init c =
    λ lines. (opening_trace_state, ap (λ ms. reverse (map (λ m. m.now) ms)) c.new-methods.ensures.items, refl)

pub loop-item-preserved : goal.loop-item-preserved
loop-item-preserved c =
    λ lines. let so_far = c.loop-item.invariant lines in
    let w = so_far.0 in
    let rest = drop (c.loop-item.item-index + 1) c.args.items.now in
    let here : drop c.loop-item.item-index c.args.items.now ≡ c.get.result.now ∷ rest = at_front c.args.items.now c.loop-item.item-index c.item-item.result c.loop-item-test.true c.item-item.is ∙ ap (λ (i : Item). i ∷ rest) (sym c.get.ensures) in (
      state_after_item lines w c.get.result.now,
      c.in_ok-apply.ensures ∙ ap (methods_after c.mark_of.result) so_far.1 ∙ sym (c.mark_of.ensures lines w),
      one_on lines w _ _ _ c.get.result.now here so_far.2,
    )

pub returns : goal.returns
returns c =
    λ lines. let so_far = c.loop-item.invariant lines in
    let none = drop_all c.loop-item.item-index c.args.items.now c.loop-item-test.false in
    let same : so_far.0 ≡ trace_state_of lines c.args.items.now = at_end lines so_far.0 _ _ none so_far.2 in
    so_far.1 ∙ ap (λ (w : TraceState). (w.threads c.args.thread).methods) same
