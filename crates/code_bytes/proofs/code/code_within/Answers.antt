use Rattle.std.proofs.lemmas.Result.{err_from_is_err_and}
use Rattle.std.proofs.Common.{◌∙◌}
use Rattle.jasmin.specs.Denote.{operations}
use Rattle.assembly.specs.CodeOf.{insns_from, handlers_from}
use Rattle.code_bytes.proofs.Assembled.{starts_fail, bytes_fail, put_together}
use Rattle.code_bytes.proofs.code.code_within.Goals as goal

pub returns-in_err-starts : goal.returns-in_err-starts
returns-in_err-starts c =
    let p = err_from_is_err_and c.from_residual.result c.from_residual.ensures.1 in
    record { exact = rw (p.1, p.2) (starts_fail c.in_err-starts.field-0.0 c.args.operands.now c.args.caught.now c.args.method.now c.as_slice-items.result.now c.as_slice-items.ensures c.in_err-starts.ensures.exact) }

pub returns-in_err-bytes : goal.returns-in_err-bytes
returns-in_err-bytes c =
    let p = err_from_is_err_and c.from_residual-in_err-bytes.result c.from_residual-in_err-bytes.ensures.1 in
    record { exact = rw (p.1, p.2) (bytes_fail c.in_err-bytes.field-0.0 c.args.operands.now c.args.caught.now c.args.method.now c.as_slice-items.result.now c.in_ok-starts.starts c.as_slice.result.now c.as_slice-items.ensures c.in_ok-starts.ensures.exact c.as_slice.ensures c.in_err-bytes.ensures) }

pub returns : goal.returns
returns c =
    let m = c.args.method.now in
    record {
      exact =
          put_together c.args.operands.now c.args.caught.now m c.as_slice-items.result.now c.in_ok-starts.starts c.as_slice.result.now c.in_ok-bytes.bytes c.in_ok-starts-2.starts c.in_ok-insns.insns c.in_ok-handlers.handlers c.new.result
          c.as_slice-items.ensures c.in_ok-starts.ensures.exact c.as_slice.ensures c.in_ok-bytes.ensures
          (c.in_ok-starts-2.ensures ∙ c.as_slice-3.ensures)
          (c.in_ok-insns.ensures ∙ (λ i. insns_from (c.requires.labels i) c.args.operands.now (operations (c.as_slice-items.ensures i))))
          (c.in_ok-handlers.ensures ∙ (λ i. handlers_from (c.requires.labels i) c.args.caught.now (c.as_slice-2.ensures i)))
          c.new.ensures;
    }
