use Rattle.std.proofs.Common.{◌≡◌, ◌+◌, vec_len}
use Rattle.std.specs.List.{sum}
use Rattle.campaign.proofs.shared.merged.Given as goal

abbrev pub invariant-loop-share : goal.invariant-loop-share
invariant-loop-share g l = record {
  parts : l.all.parts + vec_len l.shares ≡ vec_len l.fn.shares + 1;
  amount : l.all.amount + sum l.shares.items ≡ sum l.fn.shares.items + l.fn.last;
}

abbrev pub decreases-loop-share : goal.decreases-loop-share
decreases-loop-share g l = goal.left-loop-share g l
