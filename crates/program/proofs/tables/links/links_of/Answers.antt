use Rattle.std.proofs.Common.{◌<◌, ap, ◌∙◌, length, get_or, refl, rules, sym, subst}
use Rattle.std.proofs.lemmas.List.{length-set}
use Rattle.std.proofs.lemmas.Option.{slice_get_read}
use Rattle.program.specs.Tables.{AreEntriesFor, IsLink}
use Rattle.program.proofs.TableLaws.{one_set}
use Rattle.program.proofs.tables.links.links_of.Goals as goal

pub loop-number-init : goal.loop-number-init
loop-number-init c = (c.in_ok-links.ensures.links, c.in_ok-links.ensures.count)

pub link_of-requires-clause-links : goal.link_of-requires-clause-links
link_of-requires-clause-links c = subst (AreEntriesFor (IsLink c.args.program.now) c.args.program.now) (sym c.as_slice.ensures.value) c.loop-number.invariant.0

pub loop-number-preserved : goal.loop-number-preserved
loop-number-preserved c =
    let number = get_or c.order-number-items.result.now c.loop-number.number-index 0 in
    let own = c.index-classes-number.result in
    let within : number < length c.args.program.now = search rules in
    let there = slice_get_read c.args.program.now (length c.args.program.now) number own refl within (c.index-classes-number.is ∙ ap (λ l. get_or l number own) c.classes.ensures) in (
      one_set (IsLink c.args.program.now) c.args.program.now c.loop-number.links.items number own c.link_of.result c.loop-number.invariant.0 there c.link_of.ensures,
      length-set c.loop-number.links.items number c.link_of.result ∙ c.loop-number.invariant.1,
    )

pub returns : goal.returns
returns c = c.loop-number.invariant.0
