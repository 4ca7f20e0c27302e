use Rattle.std.proofs.Common.{subst, List, ℕ}
use Rattle.std.specs.List.Sorted.{IsPermutation}
use Rattle.jvms_program.proofs.MemberOrderLaws.{numbered}
use Rattle.jvms_program.proofs.members.order_of.Goals as goal

pub returns : goal.returns
returns g c =
    numbered c.args.items.now c.sort_unstable_by.new.self.items
    (subst (λ (numbers : List ℕ). IsPermutation numbers c.sort_unstable_by.new.self.items) c.in_ok-order.ensures c.sort_unstable_by.ensures.permutation)
