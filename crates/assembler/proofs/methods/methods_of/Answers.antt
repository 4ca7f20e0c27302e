use Rattle.std.proofs.Common.{◌+◌, [], drop}
use Rattle.std.proofs.lemmas.Result.{err_from_is_err_and}
use Rattle.const_pool.specs.Interning.{pool_of}
use Rattle.assembly.specs.Assembled.{methods_onto}
use Rattle.assembler.proofs.Instances.{methods_loop}
use Rattle.assembler.proofs.Loops.{at_front, none_left, goes_on, is_done, assembling_stops}
use Rattle.assembler.proofs.methods.methods_of.Goals as goal

pub returns-in_err-info : goal.returns-in_err-info
returns-in_err-info c =
    let p = err_from_is_err_and c.from_residual.result c.from_residual.ensures.1 in
    let xs = c.args.methods.now in
    let i = c.loop-method.method-index in
    let x = c.method-item.result in
    rw (p.1, p.2)
    (assembling_stops methods_loop c.in_err-info.field-0.0 c.loop-method.infos (pool_of c.loop-method.entries) (drop (i + 1) xs) x (drop i xs) (methods_onto [] (pool_of c.args.entries.now) xs)
    (at_front xs i x c.loop-method-test.true c.method-item.is) c.in_err-info.ensures c.loop-method.invariant)

pub loop-method-preserved : goal.loop-method-preserved
loop-method-preserved c =
    let xs = c.args.methods.now in
    let i = c.loop-method.method-index in
    let x = c.method-item.result in
    rw c.in_ok-push.ensures.ok
    (goes_on methods_loop c.loop-method.infos (pool_of c.loop-method.entries) (pool_of c.method_info.new.entries) xs (drop (i + 1) xs) x c.in_ok-info.info (drop i xs) (methods_onto [] (pool_of c.args.entries.now) xs)
    (at_front xs i x c.loop-method-test.true c.method-item.is) c.in_ok-info.ensures c.loop-method.invariant)

pub returns : goal.returns
returns c =
    let xs = c.args.methods.now in
    is_done methods_loop c.loop-method.infos (pool_of c.loop-method.entries) (drop c.loop-method.method-index xs) (methods_onto [] (pool_of c.args.entries.now) xs) (none_left xs c.loop-method.method-index c.loop-method-test.false) c.loop-method.invariant
