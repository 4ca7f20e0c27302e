-- Machines without the objects of their heap, which are saved separately.
use Rattle.std.specs.Prelude.{List, []}
use Rattle.jvms_program.specs.declared.program.Class.{Class}
use Rattle.machine_thread.specs.heap.Objects.{Heap}
use Rattle.machine_parts.specs.Machine.{Machine}

-- Returns the heap of a program without objects.
abbrev pub empty_heap : List Class → Heap
empty_heap program = record { program = program; objects = []; elements = 0 }

-- Returns a machine with the objects of a heap.
abbrev pub with_objects : Heap → Machine → Machine
with_objects h m = record m { state = record m.state { heap = h.objects; elements = h.elements } }

abbrev pub without_objects : Machine → Machine
without_objects m = with_objects (empty_heap m.program) m
