-- The departures so far are the same.
use Rattle.std.proofs.Common.{◌≡◌, ◌≤◌, drop, length}
use Rattle.std.specs.Cmp.Lexicographic.{slice_cmp}
use Rattle.exploration_joins.specs.Orders.{departure_order}
use Rattle.exploration_joins.proofs.order.order_of_departures.Given as goal

abbrev pub invariant-loop-place : goal.invariant-loop-place
invariant-loop-place l =
    (slice_cmp departure_order l.one l.other ≡ slice_cmp departure_order (drop l.place l.one) (drop l.place l.other))
    × (l.place ≤ length l.other)
