use Rattle.std.proofs.Common.{Bool, Some, ap, ◌∙◌}
use Rattle.std.specs.List.{list_any}
use Rattle.jvms_machine.specs.declared.state.StackFrame.TheVariants as stack_frame
use Rattle.debugger_commands.specs.declared.breakpoint.Breakpoint.{Breakpoint}
use Rattle.debugger_commands.specs.Sessions.{is_frame_at}
use Rattle.debugger.proofs.BreakpointLaws.{any_kept}
use Rattle.debugger.proofs.hits.is_frame_at_any.Goals as goal

pub returns : goal.returns
returns c =
    let at : Breakpoint → Bool = is_frame_at (Some (stack_frame.Call c.args.frame.now)) in
    c.is_frame_at_any_slot.ensures ∙ any_kept at c.slots.result.now ∙ ap (list_any at) c.slots.ensures
