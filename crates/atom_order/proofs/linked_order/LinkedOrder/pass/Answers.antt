-- The passed links lead from dropped transactions.
use Rattle.std.proofs.Common.{◌≡◌, ◌<◌, ◌≤◌, ℕ, false, List, Some, length, get_or, refl, sym, ap, subst, ◌∙◌}
use Rattle.atom_order.specs.declared.slots.Slot.{Slot}
use Rattle.atom_order.specs.Exits.{links_at, source_at, AreLinked}
use Rattle.atom_order.specs.LinkedOrder.{Ranked}
use Rattle.atom_order.specs.Reaching.{is_among}
use Rattle.atom_order.specs.Slots.{gap, numbers_of, live_of, IsRank}
use Rattle.atom_order.proofs.Gaps.{numbers_same}
use Rattle.atom_order.proofs.Stored.{passed_linked}
use Rattle.atom_order.proofs.linked_order.LinkedOrder.pass.Goals as goal

pub invariant_of-self : goal.invariant_of-self
invariant_of-self c =
    let slots = c.self.inside.slots.slots in
    let into = c.self.inside.into.items in
    let x = c.requires.0 in
    let k = c.args.rank in
    let n = c.passed-passed.result in
    let e = sym c.self.view_is in
    let r = subst (λ (o : Ranked). IsRank o.slots x k) e c.requires.1 in
    let fits = subst (λ v. n ≤ length (links_at into v)) r.here (subst (λ (o : Ranked). n ≤ length (links_at o.into (get_or o.slots k 0))) e c.passed-passed.ensures.within) in
    let dead = subst (λ v. (i z : ℕ) → i < n → source_at (links_at into v) i ≡ Some z → (z < length into) × (is_among z (live_of (numbers_of slots)) ≡ false)) r.here
    (subst (λ (o : Ranked). (i z : ℕ) → i < n → source_at (links_at o.into (get_or o.slots k 0)) i ≡ Some z → (z < length o.into) × (is_among z (live_of o.slots) ≡ false)) e
    c.passed-passed.ensures.dropped) in (
      c.pass.ensures.next ∙ c.self.invariant.0,
      subst (λ (s : List Slot). AreLinked s into) (sym c.pass.ensures.slots) (passed_linked slots into x k n c.self.invariant.1 r fits dead),
    )

pub returns-clause-same : goal.returns-clause-same
returns-clause-same c =
    let slots = c.self.inside.slots.slots in
    let same = ap (λ (s : List Slot). numbers_of s) c.pass.ensures.slots ∙ numbers_same slots c.args.rank (record (get_or slots c.args.rank gap) { passed = c.passed-passed.result }) refl in
    ap (λ (xs : List ℕ). record { slots = xs; into = c.self.inside.into.items }) same ∙ c.self.view_is
