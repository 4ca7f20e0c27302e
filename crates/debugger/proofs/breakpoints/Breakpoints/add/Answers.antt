use Rattle.std.proofs.Common.{◌+◌, ◌++◌, ◌∷◌, [], List, false, refl, ap, ◌∙◌}
use Rattle.debugger_commands.specs.declared.breakpoint.Breakpoint.{Breakpoint}
use Rattle.debugger.specs.declared.breakpoints.Slot.{Slot}
use Rattle.debugger.specs.Breakpoints.{Numbered}
use Rattle.debugger.proofs.BreakpointLaws.{added_slots, kept_added}
use Rattle.debugger.proofs.breakpoints.Breakpoints.add.Goals as goal

pub invariant_of-self-2 : goal.invariant_of-self-2
invariant_of-self-2 c =
    let b : Breakpoint = record { number = c.self.inside.next; method = c.args.method; instruction = c.args.instruction } in
    let s : Slot = record { breakpoint = b; is_deleted = false } in
    added_slots c.self.inside.slots.items c.push.new.self.items c.self.inside.deleted c.self.inside.next s c.self.invariant c.in_ok-push.ensures.items refl refl

pub returns-clause-added : goal.returns-clause-added
returns-clause-added c =
    let b : Breakpoint = record { number = c.self.inside.next; method = c.args.method; instruction = c.args.instruction } in
    let s : Slot = record { breakpoint = b; is_deleted = false } in
    ap (λ (l : List Breakpoint). let x : Numbered = record { items = l; next = c.self.inside.next + 1 } in x) (kept_added c.self.inside.slots.items c.push.new.self.items s c.in_ok-push.ensures.items refl)
    ∙ ap (λ (x : Numbered). let y : Numbered = record { items = x.items ++ b ∷ []; next = x.next + 1 } in y) c.self.view_is
