-- Each iteration reads the next line of the definition.
use Rattle.std.proofs.Common.{◌≡◌, ◌<◌, ℕ, ◌∙◌, [], ◌∷◌, length, get_or, sym, arith, rules}
use Rattle.std.proofs.lemmas.List.{length-append}
use Rattle.std.specs.Str.Lines.{lines}
use Rattle.std.proofs.lemmas.Iterator.Splits.{YieldsList-from_lines}
use Rattle.std.proofs.lemmas.Iterator.Consumers.{YieldsList-turn, YieldsList-end}
use Rattle.jasmin.specs.declared.reading.Reading.{Reading}
use Rattle.jasmin.specs.Reading.{empty_reading, with_lines}
use Rattle.jasmin_reader.proofs.LinesRead.{line_more, line_fails, lines_done}
use Rattle.jasmin_reader.proofs.source.with_lines.Goals as goal

pub loop-line-preserved : goal.loop-line-preserved
loop-line-preserved c =
    let all = lines c.args.text.now in
    let n = c.loop-line.number in
    let line = c.in-Some.line.now in
    let turn = YieldsList-turn (YieldsList-from_lines c.args.text.now (search rules)) c.loop-line.yielded _ c.loop-line.yielded_by _ c.next.new.self c.in-Some.line c.in-Some.is c.next.ensures.steps in
    let below : n < length all = omega (arith, turn.0) in
    let is : line ≡ get_or all n line = rw c.loop-line.invariant.counts turn.1 in
    let shorter = rw c.in-Some.is at (c.next.ensures.goes.on (search rules)) in
    record {
      reads = line_more all n line c.loop-line.read c.in-Ok.read (with_lines 0 empty_reading all) below is c.in-Ok.ensures c.loop-line.invariant.reads;
      counts = rw (c.loop-line.invariant.counts) (sym (length-append c.loop-line.yielded (c.in-Some.line ∷ [])));
      fits = omega (arith, shorter.2);
    }

pub returns-in-Err-clause-read : goal.returns-in-Err-clause-read
returns-in-Err-clause-read c =
    let all = lines c.args.text.now in
    let n = c.loop-line.number in
    let line = c.in-Some.line.now in
    let turn = YieldsList-turn (YieldsList-from_lines c.args.text.now (search rules)) c.loop-line.yielded _ c.loop-line.yielded_by _ c.next.new.self c.in-Some.line c.in-Some.is c.next.ensures.steps in
    let below : n < length all = omega (arith, turn.0) in
    let is : line ≡ get_or all n line = rw c.loop-line.invariant.counts turn.1 in
    rw c.at.ensures (line_fails {X = Reading × ℕ} (λ x. x.0) all n line c.loop-line.read c.in-Err.fault (with_lines 0 empty_reading all) below is c.in-Err.ensures c.loop-line.invariant.reads)

pub returns-clause-read : goal.returns-clause-read
returns-clause-read c =
    let all = lines c.args.text.now in
    let end = YieldsList-end (YieldsList-from_lines c.args.text.now (search rules)) c.loop-line.yielded _ c.loop-line.yielded_by _ _ c.in-None.is c.next.ensures.steps in
    lines_done all c.loop-line.number c.loop-line.read (with_lines 0 empty_reading all) (c.loop-line.invariant.counts ∙ end.1) c.loop-line.invariant.reads

pub returns-clause-count : goal.returns-clause-count
returns-clause-count c =
    let end = YieldsList-end (YieldsList-from_lines c.args.text.now (search rules)) c.loop-line.yielded _ c.loop-line.yielded_by _ _ c.in-None.is c.next.ensures.steps in
    c.loop-line.invariant.counts ∙ end.1
