use Rattle.std.proofs.Common.{◌≡◌, Ok, subst, sym, refl}
use Rattle.debugger_commands.specs.declared.command.Command.{Command}
use Rattle.debugger_commands.specs.Sessions.{Session}
use Rattle.debugger.specs.Commands.{TakesMemory, after_command}
use Rattle.debugger.specs.Sessions.{Debugger, debugger_of}
use Rattle.debugger.proofs.body.Body.carry_out.Goals as goal
use Rattle.debugger.proofs.body.Body.carry_out.Goals.{in-Step, in-Back, in-Goto, in-Continue, in-ReverseContinue, in-Pick}

-- Memory ran out for a command that has no other fault.
abbrev WantsMemory : Debugger → Command → Type 0
WantsMemory d k = TakesMemory k × (x : Session) × (after_command d k ≡ Ok x)

pub returns-in-Err-clause-refused : goal.returns-in-Err-clause-refused
returns-in-Err-clause-refused c =
    let d = debugger_of c.args.self.now in
    elim c.match-command.branch [
      | in-Step w ↦ subst (WantsMemory d) (sym w.in-Step.is) (tt, _, refl)
      | in-Back w ↦ subst (WantsMemory d) (sym w.in-Back.is) (tt, _, refl)
      | in-Goto w ↦ subst (WantsMemory d) (sym w.in-Goto.is) (tt, _, refl)
      | in-Continue w ↦ subst (WantsMemory d) (sym w.in-Continue.is) (tt, _, refl)
      | in-ReverseContinue w ↦ subst (WantsMemory d) (sym w.in-ReverseContinue.is) (tt, _, refl)
      | in-Pick w ↦ subst (WantsMemory d) (sym w.in-Pick.is) (tt, _, refl)
    ]
