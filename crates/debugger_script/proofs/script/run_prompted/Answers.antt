use Rattle.std.proofs.Common.{List, ℕ, subst}
use Rattle.debugger_script.specs.declared.fault.ScriptFault.TheVariants as fault
use Rattle.debugger_script.specs.Taken.{HasAnswered, IsLineCut, MayBeRefused}
use Rattle.debugger_script.proofs.Lines.{not_empty}
use Rattle.debugger_script.proofs.Reading.{cut_at_rest, run_with_rest}
use Rattle.debugger_script.proofs.Results.{err_of, on_ok_then}
use Rattle.debugger_script.proofs.script.run_prompted.Goals as goal

pub returns-clause-ran : goal.returns-clause-ran
returns-clause-ran g c =
    let line = c.in_ok-line.line in
    let mid = g.W.ByteOut.written c.answer_lines.new.output in
    let new = g.W.ByteOut.written c.put_answer.new.output in
    let session = c.answer_lines.new.session in
    let after = c.put_answer.new.session in
    on_ok_then c.put_answer.result (HasAnswered c.as_slice.result.now mid new session after) _
    (λ did. run_with_rest (g.R.ByteIn.left c.args.input.now) (g.R.ByteIn.left c.answer_lines.new.input) line.items
    (g.W.ByteOut.written c.args.output.now) mid new c.args.session.now session after
    c.in_ok-line.ensures.taken c.in_ok-line.ensures.end (not_empty line.items _ line.ok.0 c.if-is_empty.ensures)
    (subst (λ (l : List ℕ). HasAnswered l mid new session after) c.as_slice.ensures.value did))
    c.put_answer.ensures.answered

pub returns-clause-memory : goal.returns-clause-memory
returns-clause-memory g c = λ is.
    let line = c.in_ok-line.line in
    let mid = g.W.ByteOut.written c.answer_lines.new.output in
    let new = g.W.ByteOut.written c.put_answer.new.output in
    let session = c.answer_lines.new.session in
    let after = c.put_answer.new.session in
    let did = err_of c.put_answer.result fault.Memory (λ e. IsLineCut (MayBeRefused e) c.as_slice.result.now mid new session after) c.put_answer.ensures.cut is in
    cut_at_rest (Unit {0}) (g.R.ByteIn.left c.args.input.now) (g.R.ByteIn.left c.answer_lines.new.input) line.items
    (g.W.ByteOut.written c.args.output.now) mid new c.args.session.now session after
    c.in_ok-line.ensures.taken c.in_ok-line.ensures.end (not_empty line.items _ line.ok.0 c.if-is_empty.ensures)
    (subst (λ (l : List ℕ). IsLineCut (Unit {0}) l mid new session after) c.as_slice.ensures.value did)

pub returns-clause-failed : goal.returns-clause-failed
returns-clause-failed g c = λ is.
    let line = c.in_ok-line.line in
    let mid = g.W.ByteOut.written c.answer_lines.new.output in
    let new = g.W.ByteOut.written c.put_answer.new.output in
    let session = c.answer_lines.new.session in
    let after = c.put_answer.new.session in
    let did = err_of c.put_answer.result fault.Write (λ e. IsLineCut (MayBeRefused e) c.as_slice.result.now mid new session after) c.put_answer.ensures.cut is in
    cut_at_rest ⊥ (g.R.ByteIn.left c.args.input.now) (g.R.ByteIn.left c.answer_lines.new.input) line.items
    (g.W.ByteOut.written c.args.output.now) mid new c.args.session.now session after
    c.in_ok-line.ensures.taken c.in_ok-line.ensures.end (not_empty line.items _ line.ok.0 c.if-is_empty.ensures)
    (subst (λ (l : List ℕ). IsLineCut ⊥ l mid new session after) c.as_slice.ensures.value did)
