use Rattle.std.proofs.Common.{List, ℕ, [], ◌∷◌, subst, sym}
use Rattle.debugger_script.specs.Taken.{HasAnswered, HasTaken, IsLineCut, MayBeRefused}
use Rattle.debugger_script.proofs.Taking.{cut_at_byte, cut_at_line, taken_line}
use Rattle.debugger_script.proofs.script.take_byte.Goals as goal

pub returns-in-Err-clause-cut : goal.returns-in-Err-clause-cut
returns-in-Err-clause-cut g c = cut_at_byte c.args.line.now.items c.args.byte (g.W.ByteOut.written c.args.output.now) c.args.session.now c.requires

pub returns-in-Err-put_answer-clause-cut : goal.returns-in-Err-put_answer-clause-cut
returns-in-Err-put_answer-clause-cut g c =
    let old = g.W.ByteOut.written c.args.output.now in
    let new = g.W.ByteOut.written c.put_answer.new.output in
    let can = MayBeRefused c.in-Err-put_answer.fault in
    let cut : IsLineCut can c.args.line.now.items old new c.args.session.now c.put_answer.new.session =
    subst (λ (l : List ℕ). IsLineCut can l old new c.args.session.now c.put_answer.new.session) c.as_slice.ensures.value c.in-Err-put_answer.ensures.cut in
    cut_at_line can c.args.line.now.items c.args.byte old new c.args.session.now c.put_answer.new.session c.requires c.if-byte-ne-LF.false cut

pub returns-in-Ok-put_answer-clause-taken : goal.returns-in-Ok-put_answer-clause-taken
returns-in-Ok-put_answer-clause-taken g c =
    let old = g.W.ByteOut.written c.args.output.now in
    let new = g.W.ByteOut.written c.put_answer.new.output in
    let line = c.args.line.now.items in
    let did : HasAnswered line old new c.args.session.now c.put_answer.new.session =
    subst (λ (l : List ℕ). HasAnswered l old new c.args.session.now c.put_answer.new.session) c.as_slice.ensures.value c.in-Ok-put_answer.ensures.answered in
    let taken = taken_line line old new c.args.session.now c.put_answer.new.session c.requires did in
    subst (λ (b : ℕ). HasTaken line (b ∷ []) c.clear.new.self.items old new c.args.session.now c.put_answer.new.session) (sym c.if-byte-ne-LF.false)
    (subst (λ (l : List ℕ). HasTaken line (10 ∷ []) l old new c.args.session.now c.put_answer.new.session) (sym c.clear.ensures.items) taken)
