-- One more link is passed.
use Rattle.std.proofs.Common.{◌≡◌, ◌<◌, ◌≤◌, ℕ, false, List, length, get_or, sym, ap, subst, subst₂, ◌∙◌, arith}
use Rattle.atom_order.specs.declared.link.Link.{Link}
use Rattle.atom_order.specs.Exits.{links_at, source_at}
use Rattle.atom_order.specs.LinkedOrder.{Ranked}
use Rattle.atom_order.specs.Reaching.{is_among}
use Rattle.atom_order.specs.Slots.{live_of, IsRank}
use Rattle.atom_order.proofs.Sources.{no_link, source_read}
use Rattle.atom_order.proofs.Stored.{first_passed, passed_more}
use Rattle.atom_order.proofs.linked_order.LinkedOrder.passed.Goals as goal

pub loop-passed-init : goal.loop-passed-init
loop-passed-init c =
    let e = c.self.view_is in
    let slots = c.self.inside.slots.slots in
    let into = c.self.inside.into.items in
    let x = c.requires.0 in
    let k = c.args.rank in
    let r = subst (λ (o : Ranked). IsRank o.slots x k) (sym e) c.requires.1 in
    let first = first_passed slots into x k c.self.invariant.1 r in
    let same : c.links_into-links.result.now ≡ links_at into x =
    c.links_into-links.ensures ∙ ap (λ (o : Ranked). links_at o.into c.transaction_at.result) (sym e) ∙ ap (links_at into) (c.transaction_at.ensures ∙ r.here) in
    record {
      within = subst₂ (λ (n : ℕ) (l : List Link). n ≤ length l) (sym c.passed_at-passed.ensures) (sym same) first.0;
      dropped = λ i z less is.
          subst (λ (o : Ranked). (z < length o.into) × (is_among z (live_of o.slots) ≡ false)) e
          (first.1 i z (subst (λ n. i < n) c.passed_at-passed.ensures less) (ap (λ (l : List Link). source_at l i) (sym same) ∙ is));
    }

pub loop-passed-preserved : goal.loop-passed-preserved
loop-passed-preserved c =
    let links = c.links_into-links.result.now in
    let n = c.loop-passed.passed in
    let less : n < length links = c.loop-passed-test.true in
    record {
      within = omega arith;
      dropped = passed_more links n (get_or links n no_link).from (live_of c.args.self.now.slots) (length c.args.self.now.into)
          (source_read links n no_link less) (sym c.is_dropped.ensures ∙ c.if-is_dropped.true) c.loop-passed.invariant.dropped;
    }

pub returns-else-is_dropped-clause-dropped : goal.returns-else-is_dropped-clause-dropped
returns-else-is_dropped-clause-dropped c =
    let now = c.args.self.now in
    let same = c.links_into-links.ensures ∙ ap (links_at now.into) (c.transaction_at.ensures ∙ ap (λ (o : Ranked). get_or o.slots c.args.rank 0) c.self.view_is) in
    λ i x less is. c.loop-passed.invariant.dropped i x less (ap (λ (l : List Link). source_at l i) same ∙ is)

pub returns-after-loop-passed-clause-dropped : goal.returns-after-loop-passed-clause-dropped
returns-after-loop-passed-clause-dropped c =
    let now = c.args.self.now in
    let same = c.links_into-links.ensures ∙ ap (links_at now.into) (c.transaction_at.ensures ∙ ap (λ (o : Ranked). get_or o.slots c.args.rank 0) c.self.view_is) in
    λ i x less is. c.loop-passed.invariant.dropped i x less (ap (λ (l : List Link). source_at l i) same ∙ is)
