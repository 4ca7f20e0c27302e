use Rattle.std.proofs.Common.{◌≡◌, ℕ, [], false, length, take, get_or}
use Rattle.atom_order.specs.Reaching.{is_among}
use Rattle.atom_order.proofs.linked_order.changing.forget.Given as goal

-- The links into others are unchanged.
abbrev pub invariant-loop-y : goal.invariant-loop-y
invariant-loop-y l = record {
  long : length l.into.items ≡ length l.initial.into.items;
  others : (y : ℕ) → is_among y (take l.y-index l.gone) ≡ false → get_or l.into.items y [] ≡ get_or l.initial.into.items y [];
}
