use Rattle.std.proofs.Common.{◌≡◌, ℕ, ◌+◌, ◌-◌, ◌<◌, ◌≤◌, ◌++◌, take, replicate, get_or}
use Rattle.debugger.proofs.replay.consecutive.Given as goal

abbrev pub invariant-loop-next : goal.invariant-loop-next
invariant-loop-next l = record {
  more : l.position < l.next;
  within : l.next ≤ l.end;
  same : (n : ℕ) → n ≤ l.next - l.position → take (l.position + n) l.choices ≡ take l.position l.choices ++ replicate n (get_or l.choices l.position 0);
}

abbrev pub decreases-loop-next : goal.decreases-loop-next
decreases-loop-next l = l.end - l.next
