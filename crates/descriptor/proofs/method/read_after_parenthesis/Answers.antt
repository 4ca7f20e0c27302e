use Rattle.std.proofs.lemmas.Result.{err_from_is_err_and}
use Rattle.descriptor.proofs.Methods.{parameters_fault, result_fault, then_method}
use Rattle.descriptor.proofs.method.read_after_parenthesis.Goals as goal

pub returns-in_err-parameters : goal.returns-in_err-parameters
returns-in_err-parameters c =
    let p = err_from_is_err_and c.from_residual.result c.from_residual.ensures.1 in
    rw (p.1, p.2) (parameters_fault c.in_err-parameters.field-0.0 c.args.behind.now c.in_err-parameters.ensures)

pub returns-in_err-result : goal.returns-in_err-result
returns-in_err-result c =
    let p = err_from_is_err_and c.from_residual-in_err-result.result c.from_residual-in_err-result.ensures.1 in
    rw (p.1, p.2) (result_fault c.in_err-result.field-0.0 c.args.behind.now c.in_ok-parameters.parameters c.in_ok-parameters.rest.now c.in_ok-parameters.ensures c.in_err-result.ensures)

pub returns : goal.returns
returns c =
    let whole = then_method c.args.behind.now c.in_ok-parameters.parameters c.in_ok-parameters.rest.now c.in_ok-result.result c.in_ok-parameters.ensures c.in_ok-result.ensures in
    rw whole c.within_255_units.ensures
