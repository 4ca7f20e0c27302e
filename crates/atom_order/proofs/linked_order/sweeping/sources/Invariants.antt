use Rattle.std.proofs.Common.{◌≡◌, ◌==◌, ℕ, take}
use Rattle.std.specs.List.{list_any}
use Rattle.atom_order.specs.declared.link.Link.{Link}
use Rattle.atom_order.specs.Marking.{has_key}
use Rattle.atom_order.proofs.linked_order.sweeping.sources.Given as goal

-- The sources of the first links are in the set.
abbrev pub invariant-loop-link : goal.invariant-loop-link
invariant-loop-link l = (x : ℕ) → has_key l.all.keys x ≡ list_any (λ (k : Link). x == k.from) (take l.link-index l.links)
