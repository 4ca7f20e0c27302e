use Rattle.std.proofs.Common.{◌∙◌}
use Rattle.invoke.proofs.Entering.{call_undone, first_is_made}
use Rattle.invoke.proofs.applying.calls.enter.Goals as goal

pub returns-in-Err-clause-kept : goal.returns-in-Err-clause-kept
returns-in-Err-clause-kept c =
    call_undone c.args.parts.now c.lock_marked.new.parts c.pop_call.new.parts c.args.t _ (c.in-Err.ensures.kept ∙ c.in_ok-push_call.ensures.ok) c.pop_call.ensures

pub returns-clause-state : goal.returns-clause-state
returns-clause-state c =
    first_is_made c.args.parts.now c.push_call.new.parts c.lock_marked.new.parts c.note_first_call.new.parts c.args.t c.args.method c.args.code.now c.args.lock _
    c.in_ok-frame.ensures c.in_ok-push_call.ensures.ok c.in_default.ensures.state c.note_first_call.ensures
