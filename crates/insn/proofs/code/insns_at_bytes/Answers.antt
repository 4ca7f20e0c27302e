use Rattle.std.proofs.Common.{rules, ◌≡◌, ◌++◌, ◌∷◌, [], ◌<◌, length}
use Rattle.std.proofs.lemmas.Result.{err_from_is_err_and}
use Rattle.insn.specs.Locating.{all_placed, placed_of}
use Rattle.insn.proofs.Shortening.{insn_below}
use Rattle.insn.proofs.Placing.{reading_goes_on, reading_stops, reading_ends, one_pushed}
use Rattle.insn.proofs.code.insns_at_bytes.Goals as goal

pub returns-in_err-insn : goal.returns-in_err-insn
returns-in_err-insn c =
    let p = err_from_is_err_and c.from_residual.result c.from_residual.ensures.1 in
    let some : 0 < length c.loop-rest.rest.now = search rules in
    rw (p.1, p.2) (reading_stops c.in_err-insn.field-0.0 c.args.pool.now c.args.major c.args.bytes.now (all_placed c.loop-rest.found.items) c.loop-rest.rest.now some c.in_err-insn.ensures c.loop-rest.invariant)

pub loop-rest-smaller : goal.loop-rest-smaller
loop-rest-smaller c = insn_below c.args.pool.now c.args.major _ c.loop-rest.rest.now c.in_ok-insn.insn c.in_ok-insn.behind.now c.in_ok-insn.ensures

pub loop-rest-preserved : goal.loop-rest-preserved
loop-rest-preserved c =
    let some : 0 < length c.loop-rest.rest.now = search rules in
    let pushed : all_placed c.push.new.self.items ≡ all_placed c.loop-rest.found.items ++ placed_of _ ∷ [] = rw c.in_ok-push.ensures.items (one_pushed c.loop-rest.found.items _) in
    rw pushed (reading_goes_on c.args.pool.now c.args.major c.args.bytes.now (all_placed c.loop-rest.found.items) c.loop-rest.rest.now c.in_ok-insn.insn c.in_ok-insn.behind.now some c.in_ok-insn.ensures c.loop-rest.invariant)

pub returns : goal.returns
returns c =
    let none : length c.loop-rest.rest.now ≡ 0 = search rules in
    reading_ends c.args.pool.now c.args.major c.args.bytes.now (all_placed c.loop-rest.found.items) c.loop-rest.rest.now none c.loop-rest.invariant
