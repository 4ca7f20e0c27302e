-- Paired units are decoded, and the text has these units.
use Rattle.std.specs.String.{string_bytes}
use Rattle.std.specs.Char.Utf16.{has_unpaired_surrogate}
use Rattle.std.proofs.lemmas.Str.{IsUtf8-string_bytes}
use Rattle.source_text.proofs.Halves.{paired_decodes, decoded_units, no_fault}
use Rattle.source_text.proofs.text.string_of.Goals as goal

pub unwrap-requires : goal.unwrap-requires
unwrap-requires c =
    no_fault c.in_ok-from_utf16.field-0 (has_unpaired_surrogate c.args.units.now) c.in_ok-from_utf16.ensures.unpaired (paired_decodes c.args.units.now c.requires)

pub returns : goal.returns
returns c =
    decoded_units c.args.units.now (string_bytes c.unwrap.result) (IsUtf8-string_bytes c.unwrap.result) (rw c.unwrap.ensures at c.in_ok-from_utf16.ensures.ok)
