use Rattle.std.proofs.Common.{◌≡◌, ℕ, ◌+◌, ◌≤◌, [], vec_capacity}
use Rattle.campaign_desk.specs.Knowledge.{opening_seats}
use Rattle.campaign_desk.specs.Desk.{new_seats}
use Rattle.campaign_desk.proofs.seat.split_seats.Given as goal

abbrev pub invariant-loop : goal.invariant-loop
invariant-loop l = record {
  table : l.pass.table_id ≡ l.words.table_id;
  left : (n : ℕ) × (n + l.counter ≡ l.workers + 1) × (l.pass.me ≡ (opening_seats l.words.key.jobs n, []));
  made : (m : ℕ) × (m + 1 ≡ l.counter) × (l.seats.items ≡ new_seats l.words.table_id l.words.key.jobs m);
  room : l.workers ≤ vec_capacity l.seats;
}
