use Rattle.std.proofs.Common.{◌≡◌, Some, None, refl, sym, slice_get, rules}
use Rattle.std.specs.Option.{option_and_then}
use Rattle.jvms_machine.specs.declared.state.StackFrame.TheVariants as stack_frame
use Rattle.debugger.proofs.HitLaws.{at_none}
use Rattle.debugger.proofs.hits.is_thread_at.Goals as goal

pub returns-in-Some-Initialisation : goal.returns-in-Some-Initialisation
returns-in-Some-Initialisation c =
    let threads = c.args.machine.now.state.threads in
    let thread = slice_get threads c.args.t in
    let at : option_and_then (λ x. slice_get x.frames 0) thread ≡ Some (stack_frame.Initialisation c.in-Some-Initialisation.field-0-0 c.in-Some-Initialisation.field-0-1) = search rules in
    sym (at_none c.args.breakpoints.now.items thread (Some (stack_frame.Initialisation c.in-Some-Initialisation.field-0-0 c.in-Some-Initialisation.field-0-1)) at (λ b. refl))

pub returns-in-None : goal.returns-in-None
returns-in-None c =
    let threads = c.args.machine.now.state.threads in
    let thread = slice_get threads c.args.t in
    let at : option_and_then (λ x. slice_get x.frames 0) thread ≡ None = search rules in
    sym (at_none c.args.breakpoints.now.items thread None at (λ b. refl))
