-- A method without code has no such lines.
use Rattle.std.proofs.Common.{sym, ◌∙◌}
use Rattle.std.proofs.lemmas.List.{append-nil}
use Rattle.source_text.proofs.Methods.{no_body}
use Rattle.source_text.proofs.member.put_body_if_any.Goals as goal

pub returns-else-has_code : goal.returns-else-has_code
returns-else-has_code c =
    rw (no_body c.args.method.now (sym c.has_code.ensures ∙ c.if-has_code.false)) (sym (append-nil c.args.out.now.items))
