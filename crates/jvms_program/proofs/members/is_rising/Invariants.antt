use Rattle.std.proofs.Common.{◌≡◌, ℕ, ◌+◌, ◌<◌}
use Rattle.std.specs.Prelude.{slice_index}
use Rattle.std.specs.declared.cmp.Ordering.TheVariants.{Less}
use Rattle.jvms_program.specs.MemberOrders.{names_at, names_cmp}
use Rattle.jvms_program.proofs.members.is_rising.Given as goal

-- The names of the numbers so far rise.
abbrev pub invariant-loop-k : goal.invariant-loop-k
invariant-loop-k g l =
    (j : ℕ) → j + 1 < l.k → names_cmp (names_at g.T.Member.names l.items (slice_index l.order j)) (names_at g.T.Member.names l.items (slice_index l.order (j + 1))) ≡ Less
