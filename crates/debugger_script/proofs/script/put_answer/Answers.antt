use Rattle.std.proofs.Common.{List, ℕ, subst, sym}
use Rattle.debugger_script.specs.Answers.{IsAnswer}
use Rattle.debugger_script.proofs.Taking.{unanswered, unwritten}
use Rattle.debugger_script.proofs.script.put_answer.Goals as goal

pub returns-in_default-clause-cut : goal.returns-in_default-clause-cut
returns-in_default-clause-cut g c =
    unanswered c.args.line.now (g.W.ByteOut.written c.args.output.now) c.args.session.now c.answer.new.session c.in_default.ensures.setting c.in_default.ensures.memory

pub returns-clause-cut : goal.returns-clause-cut
returns-clause-cut g c =
    unwritten c.args.line.now c.as_bytes.result.now (g.W.ByteOut.written c.args.output.now) (g.W.ByteOut.written c.write_all.new.self) c.args.session.now c.answer.new.session
    c.in-Ok.ensures.setting
    (subst (λ (t : List ℕ). IsAnswer c.args.session.now.setting c.args.session.now.session c.args.line.now t c.answer.new.session.session) (sym c.as_bytes.ensures.value) c.in-Ok.ensures.answer)
    c.in-Err.ensures.beginning
