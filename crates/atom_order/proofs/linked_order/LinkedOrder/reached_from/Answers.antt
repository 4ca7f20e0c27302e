-- One more transaction is reached.
use Rattle.std.proofs.Common.{◌≡◌, ◌==◌, ◌<◌, ℕ, true, inl, inr, List, [], ◌++◌, ◌∷◌, length, get_or, sym, ap, subst, ◌∙◌}
use Rattle.std.proofs.lemmas.Bool.{both_ways, eqb-true, eq-eqb}
use Rattle.atom_order.specs.declared.link.Link.{Link}
use Rattle.atom_order.specs.LinkedOrder.{Ranked}
use Rattle.atom_order.specs.Marking.{has_key}
use Rattle.atom_order.proofs.Followed.{key_added, key_here}
use Rattle.atom_order.proofs.Lists.{any_in, none_in}
use Rattle.atom_order.proofs.Sweeping.{IsReaching, empty_by, far_from, no_key, popped, rank_here, reach_back, reach_end, reach_nearer, reach_start, reach_step}
use Rattle.atom_order.proofs.linked_order.LinkedOrder.reached_from.Goals as goal

pub loop-next-init : goal.loop-next-init
loop-next-init c =
    let updates = c.in_ok-insert.ensures.updates.0 in
    let none = c.new-work.result.keys in
    let only : (q : ℕ) → has_key c.insert.new.self.keys q ≡ true → q ≡ c.args.rank = λ q is. elim (key_added none c.insert.new.self.keys c.args.rank updates q is) [
      | inl was ↦ absurd (no_key none c.new-work.ensures.empty q was)
      | inr same ↦ same
    ] in
    subst (λ (l : List ℕ). IsReaching c.args.self.now c.args.transaction c.args.links.now c.insert.new.self.keys l) (sym c.new-reached.ensures.items)
    (reach_start c.args.self.now c.args.transaction c.args.links.now c.requires.distinct c.requires.forward c.args.rank c.insert.new.self.keys c.requires.rank only
    (key_here none c.insert.new.self.keys c.args.rank updates))

pub returns-then-contains : goal.returns-then-contains
returns-then-contains c =
    let o = c.args.self.now in
    let links = c.args.links.now in
    let state = c.loop-next.invariant in
    let k = c.in-Some.next in
    let x = get_or o.slots k 0 in
    let pop = popped k c.loop-next.work.keys c.pop_first.new.self.keys c.in-Some.ensures.member c.in-Some.ensures.least c.in-Some.ensures.updates.0 in
    let w = (state.waits k pop.was).1 in
    let found : c.transaction_at-found.result ≡ x = c.transaction_at-found.ensures ∙ ap (λ (r : Ranked). get_or r.slots k 0) c.self.view_is in
    let some = any_in (λ (l : Link). c.transaction_at-found.result == l.from) links (sym (c.in_ok-sources.ensures c.transaction_at-found.result) ∙ sym c.contains.ensures ∙ c.if-contains.true) in
    reach_back o c.args.transaction links c.requires.distinct c.requires.forward c.loop-next.work.keys c.pop_first.new.self.keys [] c.loop-next.reached.items k x state pop (rank_here o.slots w.0 k w.1)
    some.0 some.1 (sym (eqb-true c.transaction_at-found.result some.0.from some.2) ∙ found)

pub loop-next-smaller : goal.loop-next-smaller
loop-next-smaller c =
    let o = c.args.self.now in
    let state = c.loop-next.invariant in
    let k = c.in-Some.next in
    let pop = popped k c.loop-next.work.keys c.pop_first.new.self.keys c.in-Some.ensures.member c.in-Some.ensures.least c.in-Some.ensures.updates.0 in
    let w = (state.waits k pop.was).1 in
    subst (λ (ks : List ℕ). far_from (length o.slots) c.follow.new.work.keys < far_from (length o.slots) ks) (sym c.in-Some.ensures.removal)
    (reach_nearer o c.args.transaction c.args.links.now c.requires.distinct c.requires.forward c.loop-next.work.keys c.pop_first.new.self.keys c.follow.new.work.keys c.loop-next.reached.items k
    (get_or o.slots k 0) state pop (rank_here o.slots w.0 k w.1) c.pop_first.new.self.keys c.in_ok-follow.ensures)

pub loop-next-preserved : goal.loop-next-preserved
loop-next-preserved c =
    let o = c.args.self.now in
    let links = c.args.links.now in
    let state = c.loop-next.invariant in
    let k = c.in-Some.next in
    let x = get_or o.slots k 0 in
    let pop = popped k c.loop-next.work.keys c.pop_first.new.self.keys c.in-Some.ensures.member c.in-Some.ensures.least c.in-Some.ensures.updates.0 in
    let w = (state.waits k pop.was).1 in
    let found : c.transaction_at-found.result ≡ x = c.transaction_at-found.ensures ∙ ap (λ (r : Ranked). get_or r.slots k 0) c.self.view_is in
    let none = none_in (λ (l : Link). c.transaction_at-found.result == l.from) links (sym (c.in_ok-sources.ensures c.transaction_at-found.result) ∙ sym c.contains.ensures ∙ c.if-contains.false) in
    subst (λ (l : List ℕ). IsReaching o c.args.transaction links c.follow.new.work.keys l)
    (ap (λ y. c.loop-next.reached.items ++ y ∷ []) (sym found) ∙ sym c.in_ok-push.ensures.items)
    (reach_step o c.args.transaction links c.requires.distinct c.requires.forward c.loop-next.work.keys c.pop_first.new.self.keys c.follow.new.work.keys c.loop-next.reached.items k x state pop (rank_here o.slots w.0 k w.1)
    (λ l h same. both_ways (c.transaction_at-found.result == l.from) (none l h) (eq-eqb c.transaction_at-found.result l.from (found ∙ sym same))) c.in_ok-follow.ensures)

pub returns : goal.returns
returns c =
    reach_end c.args.self.now c.args.transaction c.args.links.now c.requires.distinct c.requires.forward c.args.rank c.loop-next.work.keys c.loop-next.reached.items c.requires.rank c.loop-next.invariant
    (empty_by c.loop-next.work.keys c.in_default.ensures.variant.1)
