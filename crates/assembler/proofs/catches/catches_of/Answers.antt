use Rattle.std.proofs.Common.{◌+◌, [], drop}
use Rattle.std.proofs.lemmas.Result.{err_from_is_err_and}
use Rattle.const_pool.specs.Interning.{pool_of}
use Rattle.assembly.specs.Operands.{catches_onto}
use Rattle.assembler.proofs.Instances.{catches_loop}
use Rattle.assembler.proofs.Loops.{at_front, none_left, goes_on, is_done, entries_stop}
use Rattle.assembler.proofs.catches.catches_of.Goals as goal

pub returns-in_err-number : goal.returns-in_err-number
returns-in_err-number c =
    let p = err_from_is_err_and c.from_residual.result c.from_residual.ensures.1 in
    let xs = c.args.catches.now in
    let i = c.loop-catch.catch-index in
    let x = c.catch-item.result in
    rw (p.1, p.2)
    (entries_stop catches_loop c.in_err-number.field-0.0 c.loop-catch.numbers (pool_of c.loop-catch.entries) (drop (i + 1) xs) x (drop i xs) (catches_onto [] (pool_of c.args.entries.now) xs)
    (at_front xs i x c.loop-catch-test.true c.catch-item.is) c.in_err-number.ensures c.loop-catch.invariant)

pub loop-catch-preserved : goal.loop-catch-preserved
loop-catch-preserved c =
    let xs = c.args.catches.now in
    let i = c.loop-catch.catch-index in
    let x = c.catch-item.result in
    rw c.in_ok-push.ensures.ok
    (goes_on catches_loop c.loop-catch.numbers (pool_of c.loop-catch.entries) (pool_of c.catch_entry.new.entries) xs (drop (i + 1) xs) x c.in_ok-number.number (drop i xs) (catches_onto [] (pool_of c.args.entries.now) xs)
    (at_front xs i x c.loop-catch-test.true c.catch-item.is) c.in_ok-number.ensures c.loop-catch.invariant)

pub returns : goal.returns
returns c =
    let xs = c.args.catches.now in
    is_done catches_loop c.loop-catch.numbers (pool_of c.loop-catch.entries) (drop c.loop-catch.catch-index xs) (catches_onto [] (pool_of c.args.entries.now) xs) (none_left xs c.loop-catch.catch-index c.loop-catch-test.false) c.loop-catch.invariant
