use Rattle.std.proofs.Common.{◌≡◌, []}
use Rattle.jvms_file.specs.Results.{part_list_onto}
use Rattle.file_bytes.proofs.counted.parts_of.Given as goal

abbrev pub invariant-loop-left : goal.invariant-loop-left
invariant-loop-left g l = part_list_onto (g.P.Part.at l.part) l.parts l.left l.rest ≡ part_list_onto (g.P.Part.at l.part) [] l.fn.count l.fn.bytes

abbrev pub decreases-loop-left : goal.decreases-loop-left
decreases-loop-left g l = l.left
