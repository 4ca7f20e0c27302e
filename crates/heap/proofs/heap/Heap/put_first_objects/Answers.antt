use Rattle.std.proofs.Common.{subst}
use Rattle.jvms_program.specs.Program.{IsProgram}
use Rattle.heap.proofs.OpeningLaws.{opened}
use Rattle.heap.proofs.heap.Heap.put_first_objects.Goals as goal

pub returns : goal.returns
returns c =
    opened c.args.self.now.program (subst IsProgram c.program.ensures c.program_invariant.ensures) c.args.self.now c.new_instance.new.self c.new_instance-2.new.self c.new_instance-3.new.self c.new_array.new.self _ c.requires
    c.in_ok-new_instance.ensures.ok c.in_ok-new_instance-2.ensures.ok c.in_ok-new_instance-3.ensures.ok c.in_ok-new_array.ensures.ok c.in_ok-strings.ensures
