-- The lines before are items, and this one is none.
use Rattle.std.proofs.Common.{suc, arith}
use Rattle.escapes.proofs.Spelling.{not_empty}
use Rattle.trace_text.proofs.Lines.{faulty_line}
use Rattle.trace_text.proofs.reading.read.Goals as goal

pub returns-in_default-2 : goal.returns-in_default-2
returns-in_default-2 c = let h = c.loop-rest.invariant.count in record {
  items = c.loop-rest.trace;
  rest = c.loop-rest.rest.now;
  are_valid = c.loop-rest.invariant.are_valid;
  split = c.loop-rest.invariant.split;
  count = omega arith;
  fault = faulty_line c.loop-rest.rest.now c.in-Some.first.now c.in-Some.behind.now (not_empty c.loop-rest.rest.now c.is_empty.result c.is_empty.ensures c.loop-rest-test.true)
      c.in-Some.ensures.exact.0 c.in-Some.ensures.exact.1 (rw c.in_default-2.is at c.in_ok-item.ensures);
}
