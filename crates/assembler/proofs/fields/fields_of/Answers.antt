use Rattle.std.proofs.Common.{◌+◌, [], drop}
use Rattle.std.proofs.lemmas.Result.{err_from_is_err_and}
use Rattle.const_pool.specs.Interning.{pool_of}
use Rattle.assembly.specs.Assembled.{fields_onto}
use Rattle.assembler.proofs.Instances.{fields_loop}
use Rattle.assembler.proofs.Loops.{at_front, none_left, goes_on, is_done, entries_stop}
use Rattle.assembler.proofs.fields.fields_of.Goals as goal

pub returns-in_err-info : goal.returns-in_err-info
returns-in_err-info c =
    let p = err_from_is_err_and c.from_residual.result c.from_residual.ensures.1 in
    let xs = c.args.fields.now in
    let i = c.loop-field.field-index in
    let x = c.field-item.result in
    rw (p.1, p.2)
    (entries_stop fields_loop c.in_err-info.field-0.0 c.loop-field.infos (pool_of c.loop-field.entries) (drop (i + 1) xs) x (drop i xs) (fields_onto [] (pool_of c.args.entries.now) xs)
    (at_front xs i x c.loop-field-test.true c.field-item.is) c.in_err-info.ensures c.loop-field.invariant)

pub loop-field-preserved : goal.loop-field-preserved
loop-field-preserved c =
    let xs = c.args.fields.now in
    let i = c.loop-field.field-index in
    let x = c.field-item.result in
    rw c.in_ok-push.ensures.ok
    (goes_on fields_loop c.loop-field.infos (pool_of c.loop-field.entries) (pool_of c.field_info.new.entries) xs (drop (i + 1) xs) x c.in_ok-info.info (drop i xs) (fields_onto [] (pool_of c.args.entries.now) xs)
    (at_front xs i x c.loop-field-test.true c.field-item.is) c.in_ok-info.ensures c.loop-field.invariant)

pub returns : goal.returns
returns c =
    let xs = c.args.fields.now in
    is_done fields_loop c.loop-field.infos (pool_of c.loop-field.entries) (drop c.loop-field.field-index xs) (fields_onto [] (pool_of c.args.entries.now) xs) (none_left xs c.loop-field.field-index c.loop-field-test.false) c.loop-field.invariant
