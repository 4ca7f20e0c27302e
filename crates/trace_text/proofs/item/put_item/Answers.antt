-- What the item touches is put last.
use Rattle.std.proofs.Common.{arith}
use Rattle.std.specs.Io.{StartsWith}
use Rattle.std.specs.String.{string_bytes}
use Rattle.std.proofs.Transfers.{starts_with_trans}
use Rattle.std.proofs.lemmas.Grind.{common_steps}
use Rattle.std.proofs.lemmas.Result.{on_err_weaker}
use Rattle.trace_text.proofs.item.put_item.Goals as goal

pub returns-clause-appended : goal.returns-clause-appended
returns-clause-appended c =
    let old = string_bytes c.args.out.now in
    let head = string_bytes c.push_str-3.new.self in
    let begins : StartsWith head old = grind (arith, common_steps) in
    on_err_weaker c.put_touched.result (λ more. starts_with_trans (string_bytes c.put_touched.new.out) head old more begins) c.put_touched.ensures.appended
