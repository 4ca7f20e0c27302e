-- The lines of the tree are plain, so their units are those of a text, and the text has these lines.
use Rattle.std.proofs.Common.{◌≡◌, ℕ, List, ◌∙◌, subst}
use Rattle.std.specs.Result.{IfOk}
use Rattle.std.specs.String.{string_bytes}
use Rattle.jasmin.specs.Sources.{units_of}
use Rattle.listing_spec.specs.Printed.{lines_of_source}
use Rattle.source_text.proofs.Halves.{lines_paired}
use Rattle.source_text.proofs.PlainTree.{printed_plain}
use Rattle.source_text.proofs.TextLines.{lines_of_text}
use Rattle.source_text.proofs.text.text_of.Goals as goal

pub string_of-requires : goal.string_of-requires
string_of-requires c =
    let s = c.args.source.now in
    rw (c.as_slice.ensures.value, c.in_ok-units.ensures) (lines_paired (lines_of_source s) (printed_plain s c.requires.listable c.requires.printable))

pub returns : goal.returns
returns c =
    let s = c.args.source.now in
    let units = c.as_slice.ensures.value ∙ c.in_ok-units.ensures in
    record {
      exact = lines_of_text c.string_of.result c.as_slice.result.now (lines_of_source s) units (printed_plain s c.requires.listable c.requires.printable) c.string_of.ensures;
      ended = subst (λ (us : List ℕ). IfOk c.string_of.result (λ text. units_of (string_bytes text) ≡ us)) units c.string_of.ensures;
    }
