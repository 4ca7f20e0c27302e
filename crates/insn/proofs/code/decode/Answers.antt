use Rattle.std.proofs.Common.{rules, ◌≤◌, length}
use Rattle.std.proofs.lemmas.Result.{err_from_is_err_and}
use Rattle.insn.specs.Locating.{all_placed}
use Rattle.insn.proofs.Placing.{placed_rise, places_stop}
use Rattle.insn.proofs.code.decode.Goals as goal

pub starts_of-requires : goal.starts_of-requires
starts_of-requires c =
    let few : length c.args.bytes.now ≤ 65535 = search rules in
    rw c.deref.ensures.value (placed_rise c.args.pool.now c.args.major c.args.bytes.now (all_placed c.in_ok-located.located.items) few c.in_ok-located.ensures)

pub returns-in_err-insns-clause-exact : goal.returns-in_err-insns-clause-exact
returns-in_err-insns-clause-exact c = λ few.
    let p = err_from_is_err_and c.from_residual-in_err-insns.result c.from_residual-in_err-insns.ensures.1 in
    let same = rw (c.in_ok-starts.ensures, c.deref.ensures.value, c.deref-2.ensures.value) at c.in_err-insns.ensures in
    rw (p.1, p.2) (places_stop c.in_err-insns.field-0.0 c.args.pool.now c.args.major c.args.bytes.now (all_placed c.in_ok-located.located.items) c.in_ok-located.ensures same)
