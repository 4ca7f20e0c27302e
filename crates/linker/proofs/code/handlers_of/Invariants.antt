use Rattle.std.proofs.Common.{◌≡◌, take, map}
use Rattle.jvms_program.specs.Meaning.{handler_of}
use Rattle.linker.proofs.code.handlers_of.Given as goal

abbrev pub invariant-loop-handler : goal.invariant-loop-handler
invariant-loop-handler l = l.handlers.items ≡ map (handler_of l.texts) (take l.handler-index l.table)
