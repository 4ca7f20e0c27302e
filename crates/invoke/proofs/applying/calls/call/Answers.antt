use Rattle.std.proofs.Common.{refl, ◌∙◌}
use Rattle.invoke.proofs.Entering.{call_undone, call_is_made, can_give}
use Rattle.invoke.proofs.applying.calls.call.Goals as goal

pub give_operands-requires : goal.give_operands-requires
give_operands-requires c =
    can_give c.args.parts.now c.push_called.new.parts c.lock_marked.new.parts c.args.t c.args.takes c.args.lock _ c.in_ok-push_called.ensures.ok c.in_default.ensures.state c.requires.3

pub returns-in-Err-clause-kept : goal.returns-in-Err-clause-kept
returns-in-Err-clause-kept c =
    call_undone c.args.parts.now c.lock_marked.new.parts c.pop_call.new.parts c.args.t _ (c.in-Err.ensures.kept ∙ c.in_ok-push_called.ensures.ok) c.pop_call.ensures

pub returns-clause-state : goal.returns-clause-state
returns-clause-state c =
    call_is_made c.args.parts.now c.push_called.new.parts c.lock_marked.new.parts c.give_operands.new.parts c.args.t c.args.takes c.args.method c.args.code.now c.args.lock _
    refl c.in_ok-push_called.ensures.ok c.in_default.ensures.state c.give_operands.ensures
