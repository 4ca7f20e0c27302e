use Rattle.std.proofs.Common.{subst}
use Rattle.std.specs.Result.{IfErr}
use Rattle.debugger.specs.Commands.{IsRefused}
use Rattle.debugger.specs.Sessions.{Debugger}
use Rattle.debugger.proofs.session.Session.command.Goals as goal

pub returns-clause-refused : goal.returns-clause-refused
returns-clause-refused c = subst (λ (d : Debugger). IfErr c.carry_out.result (λ fault. IsRefused c.args.command d fault)) c.self.view_is c.carry_out.ensures.refused
