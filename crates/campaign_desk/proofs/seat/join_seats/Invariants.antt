use Rattle.std.proofs.Common.{◌≡◌, [], ◌∷◌, ◌++◌, All}
use Rattle.campaign_desk.specs.Desk.{SeatValue, knowledge_of}
use Rattle.campaign_desk.proofs.seat.join_seats.Given as goal

abbrev pub invariant-loop-seat : goal.invariant-loop-seat
invariant-loop-seat l = record {
  table : l.all.table_id ≡ l.words.table_id;
  seats : All (λ (s : SeatValue). s.table ≡ l.words.table_id) l.seats.items;
  no_slots : l.all.me.1 ≡ [];
  knowledge : knowledge_of l.seats.items ++ l.all.me.0 ≡ knowledge_of l.fn.seats.items ++ l.fn.last.knowledge ∷ [];
}

abbrev pub decreases-loop-seat : goal.decreases-loop-seat
decreases-loop-seat l = goal.left-loop-seat l
