use Rattle.std.proofs.Common.{◌∙◌, ap}
use Rattle.std.specs.Result.{result_err}
use Rattle.jvms_program.specs.Resolution.{resolved_method}
use Rattle.needs.proofs.Resolved.{same_error}
use Rattle.needs.proofs.lack.method_error.Goals as goal

pub returns : goal.returns
returns c =
    c.err.ensures.value
    ∙ same_error _ _ c.resolve_method.result c.resolve_method.ensures
    ∙ ap (λ static. result_err (resolved_method c.args.program.now static c.args.method.now)) c.is_static_call.ensures
