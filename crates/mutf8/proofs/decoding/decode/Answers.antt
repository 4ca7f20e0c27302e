-- The exact clause, stated by the spelling.
use Rattle.std.proofs.Common.{ap, subst, ◌∙◌}
use Rattle.jvms_file.specs.Texts.{text_of_bytes}
use Rattle.jvms_file.proofs.TextLaws.{encoded_is_decoded}
use Rattle.mutf8.specs.Reading.{Gives}
use Rattle.mutf8.proofs.Readings.{found_from, bad_from}
use Rattle.mutf8.proofs.decoding.decode.Goals as goal

pub returns-clause-found : goal.returns-clause-found
returns-clause-found c = found_from c.args.bytes.now c.all_units.result c.all_units.ensures

pub returns-clause-only : goal.returns-clause-only
returns-clause-only c = λ us codes. subst (Gives c.all_units.result) (ap text_of_bytes codes.1 ∙ encoded_is_decoded us codes.0) c.all_units.ensures

pub returns-clause-bad : goal.returns-clause-bad
returns-clause-bad c = bad_from c.args.bytes.now c.all_units.result c.all_units.ensures
