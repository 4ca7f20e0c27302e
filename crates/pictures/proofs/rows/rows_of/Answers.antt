use Rattle.std.proofs.Common.{ap, sym, ◌∙◌}
use Rattle.velodrome.specs.Transactions.{is_event}
use Rattle.pictures.proofs.RowLaws.{one_mark, one_row}
use Rattle.pictures.proofs.rows.rows_of.Goals as goal
use Rattle.pictures.proofs.rows.rows_of.Goals.{then-is_event+in-Some+in_ok-push+in_ok-event, else-is_event}

pub loop-place-preserved : goal.loop-place-preserved
loop-place-preserved c =
    let items = c.args.items.now in
    let i = c.index-items-place.result in
    elim c.if-is_event.branch [
      | then-is_event+in-Some+in_ok-push+in_ok-event w ↦
          let event = sym (ap is_event c.get.ensures) ∙ sym c.is_event.ensures ∙ w.if-is_event.true in
          rw w.rows-is (rw w.event-is (rw w.rest-is (rw w.in_ok-event.ensures (
          one_row c.loop-place.rows.items w.push.new.self.items c.loop-place.event c.loop-place.place items c.loop-place.rest.now w.in-Some.others.now c.args.transactions.now i
          w.in-Some.transaction.now c.loop-place.invariant c.loop-place-test.true c.index-items-place.is event w.in-Some.ensures.cases.0 w.in_ok-push.ensures.items
          ))))
      | else-is_event w ↦
          let mark = sym (ap is_event c.get.ensures) ∙ sym c.is_event.ensures ∙ w.if-is_event.false in
          rw w.rows-is (rw w.event-is (rw w.rest-is (
          one_mark c.loop-place.rows.items c.loop-place.event c.loop-place.place items c.loop-place.rest.now c.args.transactions.now i c.loop-place.invariant c.loop-place-test.true c.index-items-place.is mark
          )))
    ]
