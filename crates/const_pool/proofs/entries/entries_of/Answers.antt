-- The bytes that are left to read follow those that were read.
use Rattle.std.proofs.Common.{◌∙◌}
use Rattle.const_pool.proofs.EntryLists.{more_entries, failed_reading, no_more_entries}
use Rattle.const_pool.proofs.entries.entries_of.Goals as goal

pub returns-in-Err : goal.returns-in-Err
returns-in-Err c =
    failed_reading c.loop-left.entries c.args.cut c.loop-left.left c.loop-left.rest.now _ c.in-Err.error c.loop-left-test.true c.loop-left.invariant c.in-Err.ensures

pub loop-left-preserved : goal.loop-left-preserved
loop-left-preserved c =
    rw (c.in_ok-left.ensures.entries, c.in_ok-left.ensures.left)
    (more_entries c.loop-left.entries c.args.cut c.loop-left.left c.loop-left.rest.now c.in-Ok.read.0 c.in-Ok.read.1.now c.loop-left-test.true c.in-Ok.ensures ∙ c.loop-left.invariant)

pub returns : goal.returns
returns c = no_more_entries c.loop-left.entries c.args.cut c.loop-left.left c.loop-left.rest.now _ c.loop-left-test.false c.loop-left.invariant
