use Rattle.std.proofs.Common.{◌+◌, [], drop}
use Rattle.std.proofs.lemmas.Result.{err_from_is_err_and}
use Rattle.const_pool.specs.Interning.{pool_of}
use Rattle.assembly.specs.Operands.{classes_onto}
use Rattle.assembler.proofs.Instances.{classes_loop}
use Rattle.assembler.proofs.Loops.{at_front, none_left, goes_on, is_done, entries_stop}
use Rattle.assembler.proofs.throws.classes_of.Goals as goal

pub returns-in_err-number : goal.returns-in_err-number
returns-in_err-number c =
    let p = err_from_is_err_and c.from_residual.result c.from_residual.ensures.1 in
    let xs = c.args.names.now in
    let i = c.loop-name.name-index in
    let x = c.name-item.result in
    rw (p.1, p.2)
    (entries_stop classes_loop c.in_err-number.field-0.0 c.loop-name.numbers (pool_of c.loop-name.entries) (drop (i + 1) xs) x (drop i xs) (classes_onto [] (pool_of c.args.entries.now) xs)
    (at_front xs i x c.loop-name-test.true c.name-item.is) (rw c.as_slice.ensures at c.in_err-number.ensures.exact) c.loop-name.invariant)

pub loop-name-preserved : goal.loop-name-preserved
loop-name-preserved c =
    let xs = c.args.names.now in
    let i = c.loop-name.name-index in
    let x = c.name-item.result in
    rw c.in_ok-push.ensures.ok
    (goes_on classes_loop c.loop-name.numbers (pool_of c.loop-name.entries) (pool_of c.class.new.self) xs (drop (i + 1) xs) x c.in_ok-number.number (drop i xs) (classes_onto [] (pool_of c.args.entries.now) xs)
    (at_front xs i x c.loop-name-test.true c.name-item.is) (rw c.as_slice.ensures at c.in_ok-number.ensures.exact) c.loop-name.invariant)

pub returns : goal.returns
returns c =
    let xs = c.args.names.now in
    is_done classes_loop c.loop-name.numbers (pool_of c.loop-name.entries) (drop c.loop-name.name-index xs) (classes_onto [] (pool_of c.args.entries.now) xs) (none_left xs c.loop-name.name-index c.loop-name-test.false) c.loop-name.invariant
