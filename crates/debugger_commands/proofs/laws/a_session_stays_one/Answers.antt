use Rattle.debugger_commands.proofs.Sessions.{opens, stays}
use Rattle.debugger_commands.proofs.laws.a_session_stays_one.Goals as goal

pub returns-clause-opened : goal.returns-clause-opened
returns-clause-opened c = opens

pub returns-clause-beyond : goal.returns-clause-beyond
returns-clause-beyond c = stays
