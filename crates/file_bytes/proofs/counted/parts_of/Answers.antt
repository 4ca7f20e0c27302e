-- The bytes that are left to read follow those that were read.
use Rattle.jvms_file.proofs.CountedLaws.{counted_more, counted_all, counted_fails}
use Rattle.file_bytes.proofs.counted.parts_of.Goals as goal

pub returns-in-Err : goal.returns-in-Err
returns-in-Err g c =
    counted_fails (g.P.Part.at c.args.part.now) c.loop-left.parts c.loop-left.left c.loop-left.rest.now _ c.in-Err.error c.loop-left-test.true c.loop-left.invariant (rw c.as_slice.ensures at c.in-Err.ensures)

pub loop-left-preserved : goal.loop-left-preserved
loop-left-preserved g c =
    rw c.in_ok-push.ensures.ok
    (counted_more (g.P.Part.at c.args.part.now) c.loop-left.parts c.loop-left.left c.loop-left.rest.now _ c.in-Ok.read.0 c.in-Ok.read.1.now c.loop-left-test.true c.loop-left.invariant (rw c.as_slice.ensures at c.in-Ok.ensures))

pub returns : goal.returns
returns g c = counted_all (g.P.Part.at c.args.part.now) c.loop-left.parts c.loop-left.left c.loop-left.rest.now _ c.loop-left-test.false c.loop-left.invariant
