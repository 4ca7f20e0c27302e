-- Each iteration appends an item to those before it.
use Rattle.std.proofs.Common.{◌≡◌, ◌+◌, ◌∷◌, [], ◌++◌, take, sym, ap, ◌∙◌, is_some, arith}
use Rattle.jasmin.specs.declared.source.CodeItem.TheVariants as item
use Rattle.source_labels.proofs.Steps.{at_place, with_operation, with_label, once_more, once_with_operation, repeated_at, no_value}
use Rattle.source_labels.proofs.labels.Labels.of.Goals as goal
use Rattle.source_labels.proofs.labels.Labels.of.Goals.{in-Label+in_ok-insert-in-Label+else-is_some, in-Operation}

pub returns-then-is_some-clause-repeated : goal.returns-then-is_some-clause-repeated
returns-then-is_some-clause-repeated c =
    let code = c.args.code.now in
    let i = c.loop-item.item-index in
    let name = c.as_slice.result in
    let here : take (i + 1) code ≡ take i code ++ item.Label name.now ∷ [] =
    at_place code i c.item-item.result (item.Label name.now) (omega arith) c.item-item.is (c.in-Label.is ∙ ap item.Label (sym c.as_slice.ensures)) in
    repeated_at code i name.now here (sym (c.if-is_some.ensures ∙ ap is_some (c.in_ok-insert-in-Label.ensures.old ∙ c.loop-item.invariant.kept.placed name)))

pub loop-item-preserved : goal.loop-item-preserved
loop-item-preserved c =
    let code = c.args.code.now in
    let i = c.loop-item.item-index in
    let before = take i code in
    elim c.match-item.branch [
      | in-Label+in_ok-insert-in-Label+else-is_some w ↦
          let name = w.as_slice.result in
          let here : take (i + 1) code ≡ before ++ item.Label name.now ∷ [] =
          at_place code i c.item-item.result (item.Label name.now) (omega arith) c.item-item.is (w.in-Label.is ∙ ap item.Label (sym w.as_slice.ensures)) in
          let none = no_value _ w.if-is_some.ensures ∙ w.in_ok-insert-in-Label.ensures.old in
          rw (here, w.places-is, w.operations-is) record {
            kept = with_label before name c.loop-item.places w.insert.new.self c.loop-item.operations none w.in_ok-insert-in-Label.ensures.updates.0 c.loop-item.invariant.kept;
            once = once_more before name.now (sym (none ∙ c.loop-item.invariant.kept.placed name)) c.loop-item.invariant.once;
            few = omega arith;
          }
      | in-Operation w ↦
          let here : take (i + 1) code ≡ before ++ item.Operation w.in-Operation.field-0 ∷ [] = at_place code i c.item-item.result (item.Operation _) (omega arith) c.item-item.is w.in-Operation.is in
          rw (here, w.places-is, w.operations-is) record {
            kept = with_operation before _ c.loop-item.places c.loop-item.operations c.loop-item.invariant.kept;
            once = once_with_operation before _ c.loop-item.invariant.once;
            few = omega arith;
          }
    ]
