-- One more link.
use Rattle.std.proofs.Common.{◌≡◌, ◌==◌, Bool, true, false, cond, ◌||◌, ◌<◌, length, take, get_or, refl, sym, ap, ◌∙◌, arith}
use Rattle.std.proofs.lemmas.List.{take_more}
use Rattle.std.specs.List.{list_any}
use Rattle.atom_order.specs.declared.link.Link.{Link}
use Rattle.atom_order.specs.Marking.{has_key}
use Rattle.atom_order.proofs.Lists.{any_push}
use Rattle.atom_order.proofs.Marked.{same_key}
use Rattle.atom_order.proofs.Sources.{no_link}
use Rattle.atom_order.proofs.linked_order.sweeping.sources.Goals as goal

one_more : (b a : Bool) → cond b true a ≡ (a || b)
one_more true true = refl
one_more true false = refl
one_more false true = refl
one_more false false = refl

pub loop-link-preserved : goal.loop-link-preserved
loop-link-preserved c =
    let links = c.args.links.now in
    let i = c.loop-link.link-index in
    let less : i < length links = omega arith in
    let last = get_or links i no_link in
    λ q.
    let test = λ (k : Link). q == k.from in
    c.in_ok-insert.ensures.updates.0 q
    ∙ ap (λ b. cond b true (has_key c.loop-link.all.keys q)) (same_key last.from q)
    ∙ ap (λ b. cond (q == last.from) true b) (c.loop-link.invariant q)
    ∙ one_more (q == last.from) (list_any test (take i links))
    ∙ sym (ap (list_any test) (take_more links i no_link less) ∙ any_push test (take i links) last)
