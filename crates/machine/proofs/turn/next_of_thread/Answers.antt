-- The turn is that of the next instruction, which is in the call's code.
use Rattle.std.proofs.Common.{rules, ◌≡◌, false, None, Some, slice_get}
use Rattle.jvms_machine.specs.declared.state.StackFrame.TheVariants as stack_frame
use Rattle.jvms_machine.specs.declared.action.FrameDecision.TheVariants as decided
use Rattle.jvms_machine.specs.Steps.{frame_decision, instruction_at}
use Rattle.machine.proofs.Deciding.{reaching}
use Rattle.machine.proofs.Sites.{reaching_site}
use Rattle.machine.proofs.turn.next_of_thread.Goals as goal

pub returns-clause-decision : goal.returns-clause-decision
returns-clause-decision c =
    let thread = c.args.thread.now in
    let frame = c.in-Some-Call.frame in
    let i = c.in_ok-instruction.instruction.now in
    let given = c.requires.given in
    let live : thread.ended ≡ false = search rules in
    let quiet : thread.pending ≡ None = search rules in
    let awake : thread.waits ≡ None = search rules in
    let top : slice_get thread.frames 0 ≡ Some (stack_frame.Call frame) = search rules in
    let at : instruction_at frame ≡ Some i = search rules in
    let beyond : frame_decision frame.body i frame.activation ≡ decided.Beyond = search rules in
    reaching c.args.parts.now c.args.t thread frame i given live quiet awake top at beyond

pub returns-clause-site : goal.returns-clause-site
returns-clause-site c =
    let thread = c.args.thread.now in
    let frame = c.in-Some-Call.frame in
    let i = c.in_ok-instruction.instruction.now in
    let given = c.requires.given in
    let top : slice_get thread.frames 0 ≡ Some (stack_frame.Call frame) = search rules in
    let at : instruction_at frame ≡ Some i = search rules in
    reaching_site c.args.parts.now c.args.t thread frame i c.requires.code given top at
