use Rattle.std.proofs.Common.{◌≤◌, length, sym, subst, ap, ◌∙◌, List}
use Rattle.atom_order.specs.declared.link.Link.{Link}
use Rattle.atom_order.specs.Exits.{links_at, source_at}
use Rattle.atom_order.proofs.Sources.{source_past, source_read}
use Rattle.atom_order.proofs.linked_order.LinkedOrder.source_of.Goals as goal

pub returns-then-exit-links : goal.returns-then-exit-links
returns-then-exit-links c =
    sym (source_past (links_at c.args.self.now.into c.args.exit.to) c.args.exit.link (subst (λ (l : List Link). length l ≤ c.args.exit.link) c.links_into-links.ensures c.if-exit-links.true))

pub returns : goal.returns
returns c =
    sym (ap (λ (l : List Link). source_at l c.args.exit.link) (sym c.links_into-links.ensures) ∙ source_read c.links_into-links.result.now c.args.exit.link _ c.if-exit-links.false)
