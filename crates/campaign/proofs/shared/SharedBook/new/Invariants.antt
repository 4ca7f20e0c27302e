use Rattle.std.proofs.Common.{◌≡◌, ◌+◌, ◌-◌, ◌≤◌, length, replicate, vec_capacity}
use Rattle.campaign.proofs.shared.SharedBook.new.Given as goal

abbrev pub invariant-loop : goal.invariant-loop
invariant-loop g l = record {
  parts : l.all.parts + l.counter ≡ l.workers + 1;
  amount : l.all.amount ≡ 0;
  shares : l.shares.items ≡ replicate (l.counter - 1) 0;
  count : length l.shares.items + 1 ≡ l.counter;
  room : l.workers ≤ vec_capacity l.shares;
}
