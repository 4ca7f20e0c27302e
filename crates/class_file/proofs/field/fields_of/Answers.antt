-- The bytes that are left to read follow those that were read.
use Rattle.jvms_file.specs.Members.{field_at}
use Rattle.jvms_file.proofs.CountedLaws.{counted_more, counted_all, counted_fails}
use Rattle.class_file.proofs.field.fields_of.Goals as goal

pub returns-in-Err : goal.returns-in-Err
returns-in-Err c =
    counted_fails (field_at c.args.pool.now c.args.cut) c.loop-left.fields.items c.loop-left.left c.loop-left.rest.now _ c.in-Err.error c.loop-left-test.true c.loop-left.invariant.read c.in-Err.ensures

pub loop-left-preserved : goal.loop-left-preserved
loop-left-preserved c =
    record {
      read = rw c.in_ok-push.ensures.items
          (counted_more (field_at c.args.pool.now c.args.cut) c.loop-left.fields.items c.loop-left.left c.loop-left.rest.now _ c.in-Ok.read.0 c.in-Ok.read.1.now c.loop-left-test.true c.loop-left.invariant.read c.in-Ok.ensures);
      seen = c.in_ok-push.ensures.seen;
    }

pub returns : goal.returns
returns c = counted_all (field_at c.args.pool.now c.args.cut) c.loop-left.fields.items c.loop-left.left c.loop-left.rest.now _ c.loop-left-test.false c.loop-left.invariant.read
