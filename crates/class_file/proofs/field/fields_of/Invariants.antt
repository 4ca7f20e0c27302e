use Rattle.std.proofs.Common.{◌≡◌, []}
use Rattle.jvms_file.specs.Results.{part_list_onto}
use Rattle.jvms_file.specs.Members.{field_at}
use Rattle.class_file.specs.Seen.{AreFields}
use Rattle.class_file.proofs.field.fields_of.Given as goal

abbrev pub invariant-loop-left : goal.invariant-loop-left
invariant-loop-left l =
    record {
      read : part_list_onto (field_at l.pool l.cut) l.fields.items l.left l.rest ≡ part_list_onto (field_at l.pool l.cut) [] l.fn.count l.fn.bytes;
      seen : AreFields l.pool l.fields.seen l.fields.items;
    }

abbrev pub decreases-loop-left : goal.decreases-loop-left
decreases-loop-left l = l.left
