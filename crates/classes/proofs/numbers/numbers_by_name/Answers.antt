use Rattle.std.proofs.Common.{◌≡◌, take, ap, sym, ◌∙◌, is_some, arith}
use Rattle.std.proofs.lemmas.List.{length-take-le}
use Rattle.classes.specs.Numbers.{number_at}
use Rattle.classes.proofs.NumberLaws.{next_class, with_again, with_new}
use Rattle.classes.proofs.numbers.numbers_by_name.Goals as goal
use Rattle.classes.proofs.numbers.numbers_by_name.Goals.{then-not-contains_key+in_ok-from_slice+in_ok-insert, else-not-contains_key}

pub loop-number-preserved : goal.loop-number-preserved
loop-number-preserved c =
    let classes = c.args.classes.now in
    let here = next_class classes c.loop-number.number c.index-classes-number.result c.loop-number-test.true c.index-classes-number.is in
    elim c.if-not-contains_key.branch [
      | then-not-contains_key+in_ok-from_slice+in_ok-insert w ↦
          let name = w.in_ok-from_slice.field-0.items in
          let same : name ≡ c.as_slice-name.result.now = w.in_ok-from_slice.ensures.items in
          rw (here, w.numbers-is)
          (with_new (take c.loop-number.number classes) c.loop-number.numbers w.insert.new.self c.index-classes-number.result name c.loop-number.number
          (same ∙ c.as_slice-name.ensures) (sym (length-take-le c.loop-number.number classes (omega arith)))
          (ap (λ n. is_some (number_at c.loop-number.numbers n)) same ∙ sym c.contains_key.ensures ∙ w.if-not-contains_key.true)
          w.in_ok-insert.ensures.updates c.loop-number.invariant)
      | else-not-contains_key w ↦
          rw (here, w.numbers-is)
          (with_again (take c.loop-number.number classes) c.loop-number.numbers c.index-classes-number.result c.as_slice-name.result.now c.as_slice-name.ensures
          (sym c.contains_key.ensures ∙ w.if-not-contains_key.false) c.loop-number.invariant)
    ]
