use Rattle.std.proofs.Common.{◌≡◌, ◌+◌, ◌++◌, ◌∷◌, [], Some, ap, arith, rules}
use Rattle.debugger_commands.specs.Sessions.{Session, with_breakpoint_at, method_of_place}
use Rattle.debugger.specs.Sessions.{session_of}
use Rattle.debugger.proofs.body.Body.break_at.Goals as goal

pub returns-in-Err-clause-refused : goal.returns-in-Err-clause-refused
returns-in-Err-clause-refused c =
    let x = session_of c.args.self.now in
    let i = c.args.place.now.instruction in
    let after : Session = record x { breakpoints = x.breakpoints ++ record { number = x.next; method = c.in-Some.method; instruction = i } ∷ []; next = x.next + 1 } in
    let place : method_of_place c.args.self.now.timeline.here.machine.program c.args.place.now ≡ Some c.in-Some.method = search rules in
    (tt, after, grind (arith, ap (λ m. with_breakpoint_at x i m) place))
