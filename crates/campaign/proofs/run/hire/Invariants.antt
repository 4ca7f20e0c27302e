use Rattle.std.proofs.Common.{◌≡◌, ◌≤◌, ◌+◌, All, vec_len, vec_capacity}
use Rattle.campaign_desk.specs.Desk.{IsSeatOf, SeatValue}
use Rattle.campaign.proofs.run.hire.Given as goal

abbrev pub invariant-loop-seat : goal.invariant-loop-seat
invariant-loop-seat g l = record {
  seats : All (λ (s : SeatValue). IsSeatOf l._desk s) l.seats.items;
  team : All (λ w. IsSeatOf l._desk w.seat) l.workers.items;
  same : vec_len l.seats ≡ vec_len l.shares;
  count : vec_len l.workers + vec_len l.shares ≡ vec_len l.initial.shares;
  room : vec_len l.initial.shares ≤ vec_capacity l.workers;
  capacity : vec_capacity l.shares ≡ vec_capacity l.initial.shares;
}

abbrev pub decreases-loop-seat : goal.decreases-loop-seat
decreases-loop-seat g l = vec_len l.seats
