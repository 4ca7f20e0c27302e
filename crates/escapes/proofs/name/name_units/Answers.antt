-- The text is that of these units alone, and they are no name of the sort.
use Rattle.std.proofs.Common.{◌≡◌, sym, ap, ◌∙◌, false}
use Rattle.std.proofs.lemmas.Bool.{both_ways}
use Rattle.escapes.specs.Keys.{is_of}
use Rattle.escapes.proofs.Spelling.{one_name}
use Rattle.escapes.proofs.name.name_units.Goals as goal

pub returns-then-not-is_of : goal.returns-then-not-is_of
returns-then-not-is_of c x is e =
    let read = rw c.in-Some.is at c.in_ok-units.ensures in
    let same = one_name c.in-Some.units.items x read.0 is.units (sym read.1 ∙ e) in
    let no : is_of c.args.sort x ≡ false = ap (is_of c.args.sort) (sym same ∙ sym c.as_slice.ensures.value) ∙ sym c.is_of.ensures ∙ c.if-not-is_of.true in
    both_ways (is_of c.args.sort x) no is.sort
