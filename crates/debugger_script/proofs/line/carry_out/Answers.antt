use Rattle.std.proofs.Common.{inr, refl}
use Rattle.debugger_script.specs.Answers.{view_text}
use Rattle.debugger_script.proofs.Answering.{shown}
use Rattle.debugger_script.proofs.Results.{on_err}
use Rattle.debugger_script.proofs.line.carry_out.Goals as goal

pub returns-in-Ok-clause-memory : goal.returns-in-Ok-clause-memory
returns-in-Ok-clause-memory c =
    let old = c.args.session.now in
    let new = c.command.new.self in
    on_err c.view_text.result _
    (inr (view_text new.setting new.session c.in-Ok.view, shown old new c.args.command c.in-Ok.view (view_text new.setting new.session c.in-Ok.view) c.in-Ok.ensures.did refl))
