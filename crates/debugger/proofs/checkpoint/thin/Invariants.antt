use Rattle.std.proofs.Common.{◌≡◌, ℕ, ◌+◌, ◌*◌, ◌<◌, length, get_or, ◌-◌, ◌≤◌}
use Rattle.std.specs.Vec.{vec_capacity}
use Rattle.debugger.specs.declared.mark.Mark.{Mark}
use Rattle.debugger.proofs.checkpoint.thin.Given as goal

abbrev pub invariant-loop-next : goal.invariant-loop-next
invariant-loop-next l = record {
  next : l.next ≡ l.first + l.kept * l.ratio;
  order : l.kept ≤ l.next;
  many : length l.checkpoints.items ≡ length l.initial.checkpoints.items;
  room : vec_capacity l.checkpoints ≡ vec_capacity l.initial.checkpoints;
  below : (j : ℕ) (x : Mark) → j < l.kept → get_or l.checkpoints.items j x ≡ get_or l.initial.checkpoints.items (l.first + j * l.ratio) x;
  within : (j : ℕ) → j < l.kept → l.first + j * l.ratio < length l.initial.checkpoints.items;
  rest : (k : ℕ) (x : Mark) → l.next ≤ k → get_or l.checkpoints.items k x ≡ get_or l.initial.checkpoints.items k x;
}

abbrev pub decreases-loop-next : goal.decreases-loop-next
decreases-loop-next l = length l.checkpoints.items - l.next
