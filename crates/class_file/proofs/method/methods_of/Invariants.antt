use Rattle.std.proofs.Common.{◌≡◌, []}
use Rattle.jvms_file.specs.Results.{part_list_onto}
use Rattle.jvms_file.specs.Members.{method_at}
use Rattle.class_file.specs.Seen.{AreMethods}
use Rattle.class_file.proofs.method.methods_of.Given as goal

abbrev pub invariant-loop-left : goal.invariant-loop-left
invariant-loop-left l =
    record {
      read : part_list_onto (method_at l.pool l.major l.cut l.class_access) l.methods.items l.left l.rest ≡ part_list_onto (method_at l.pool l.major l.cut l.class_access) [] l.fn.count l.fn.bytes;
      seen : AreMethods l.pool l.methods.seen l.methods.items;
    }

abbrev pub decreases-loop-left : goal.decreases-loop-left
decreases-loop-left l = l.left
