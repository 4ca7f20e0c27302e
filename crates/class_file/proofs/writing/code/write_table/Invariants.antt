-- The handlers so far have their bytes.
use Rattle.std.proofs.Common.{◌≡◌, ◌++◌, take, flat_map}
use Rattle.class_file.specs.Writing.{handler_bytes}
use Rattle.class_file.proofs.writing.code.write_table.Given as goal

abbrev pub invariant-loop-handler : goal.invariant-loop-handler
invariant-loop-handler l = l.out.items ≡ l.initial.out.items ++ flat_map (handler_bytes l.layout) (take l.handler-index l.handlers)
