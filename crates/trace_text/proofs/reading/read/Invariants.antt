-- The items so far are the lines so far, and each line is counted once.
use Rattle.std.proofs.Common.{◌≡◌, ◌+◌, ◌≤◌, ◌++◌, length}
use Rattle.std.specs.List.{AllByRecursion}
use Rattle.trace_text.specs.Items.{IsItem}
use Rattle.trace_text.specs.Traces.{trace_text}
use Rattle.trace_text.proofs.reading.read.Given as goal

abbrev pub invariant-loop-rest : goal.invariant-loop-rest
invariant-loop-rest l = record {
  split : l.text ≡ trace_text l.trace ++ l.rest;
  are_valid : AllByRecursion IsItem l.trace;
  count : l.line ≡ length l.trace;
  within : l.line + length l.rest ≤ length l.text;
}

abbrev pub decreases-loop-rest : goal.decreases-loop-rest
decreases-loop-rest l = length l.rest
