-- What isn't at its rank isn't live.
use Rattle.std.proofs.Common.{◌≡◌, false, get_or, sym, ap, subst, ◌∙◌, arith}
use Rattle.std.proofs.lemmas.Grind.{common_steps}
use Rattle.atom_order.specs.Reaching.{is_among}
use Rattle.atom_order.specs.Slots.{SlotList, numbers_of, live_of}
use Rattle.atom_order.proofs.Gaps.{numbers_len, slot_read, zero_not_live}
use Rattle.atom_order.proofs.Lists.{read_at}
use Rattle.atom_order.proofs.Recorded.{not_ranked}
use Rattle.atom_order.proofs.slots.Slots.rank_of.Goals as goal

pub returns-then-number-eq0-clause-rank : goal.returns-then-number-eq0-clause-rank
returns-then-number-eq0-clause-rank c = zero_not_live (numbers_of c.args.self.now.slots) c.args.transaction c.if-number-eq0.true

pub returns-then-number-len-clause-rank : goal.returns-then-number-len-clause-rank
returns-then-number-len-clause-rank c =
    subst (λ (s : SlotList). is_among c.args.transaction (live_of (numbers_of s.slots)) ≡ false) c.self.view_is
    (not_ranked (numbers_of c.self.inside.slots.items) c.self.inside.ranks.items c.self.inside.count c.self.invariant c.args.transaction (λ _ known _ _. grind (arith, common_steps)))

pub returns-then-rank-len-clause-rank : goal.returns-then-rank-len-clause-rank
returns-then-rank-len-clause-rank c =
    subst (λ (s : SlotList). is_among c.args.transaction (live_of (numbers_of s.slots)) ≡ false) c.self.view_is
    (not_ranked (numbers_of c.self.inside.slots.items) c.self.inside.ranks.items c.self.inside.count c.self.invariant c.args.transaction (λ _ known less _.
    let read = read_at c.self.inside.ranks.items c.args.transaction c.index-rank.result.now c.index-rank.ensures known in
    let long = numbers_len c.self.inside.slots.items in
    omega arith))

pub returns-then-index-transaction-clause-rank : goal.returns-then-index-transaction-clause-rank
returns-then-index-transaction-clause-rank c =
    subst (λ (s : SlotList). is_among c.args.transaction (live_of (numbers_of s.slots)) ≡ false) c.self.view_is
    (not_ranked (numbers_of c.self.inside.slots.items) c.self.inside.ranks.items c.self.inside.count c.self.invariant c.args.transaction (λ _ known less here.
    let read = read_at c.self.inside.ranks.items c.args.transaction c.index-rank.result.now c.index-rank.ensures known in
    let long = numbers_len c.self.inside.slots.items in
    c.if-index-transaction.true (sym (slot_read c.self.inside.slots.items c.index-rank.result.now c.index.result.now c.index.ensures (omega arith))
    ∙ ap (λ i. get_or (numbers_of c.self.inside.slots.items) i 0) (sym read) ∙ here)))
