use Rattle.std.proofs.Common.{◌≡◌, ◌<◌, false, length, sym, arith, nat_le}
use Rattle.std.proofs.lemmas.Bool.Decides.{nat_tests}
use Rattle.std.proofs.lemmas.List.Folds.{length-flat_map-take}
use Rattle.jvms_file.specs.Texts.{unit_bytes, bytes_of_text}
use Rattle.pool_entries.proofs.text.is_short.Goals as goal

pub returns-then-bytes-left : goal.returns-then-bytes-left
unfolding bytes_of_text
returns-then-bytes-left c =
    let more = length-flat_map-take unit_bytes c.args.text.now c.loop-unit.unit-index 0 c.loop-unit-test.true in
    let long : 65535 < length (bytes_of_text c.args.text.now) = omega arith in
    let is : nat_le (length (bytes_of_text c.args.text.now)) 65535 ≡ false = grind (arith, nat_tests) in
    sym is
