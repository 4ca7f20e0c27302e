use Rattle.std.proofs.Common.{◌∙◌, ap}
use Rattle.std.specs.Result.{result_err}
use Rattle.jvms_program.specs.Resolution.{resolved_field}
use Rattle.needs.proofs.Resolved.{same_error}
use Rattle.needs.proofs.lack.field_error.Goals as goal

pub returns : goal.returns
returns c =
    c.err.ensures.value
    ∙ same_error _ _ c.resolve_field.result c.resolve_field.ensures
    ∙ ap (λ static. result_err (resolved_field c.args.program.now static c.args.field.now)) c.is_static_use.ensures
