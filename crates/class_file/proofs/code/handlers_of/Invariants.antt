use Rattle.std.proofs.Common.{◌≡◌, length}
use Rattle.jvms_file.specs.Results.{results_of}
use Rattle.jvms_file.specs.Code.{handlers_of}
use Rattle.class_file.specs.Wanted.{handler_placed}
use Rattle.class_file.proofs.Handlers.{with_items}
use Rattle.class_file.proofs.code.handlers_of.Given as goal

abbrev pub invariant-loop-rest : goal.invariant-loop-rest
invariant-loop-rest l = with_items l.placed (results_of (handler_placed l.starts l.code_length) l.rest) ≡ handlers_of l.fn.starts l.fn.code_length l.fn.handlers

abbrev pub decreases-loop-rest : goal.decreases-loop-rest
decreases-loop-rest l = length l.rest
