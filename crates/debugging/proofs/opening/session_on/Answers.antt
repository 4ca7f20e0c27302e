use Rattle.debugging.proofs.Begun.{is_session}
use Rattle.debugging.proofs.opening.session_on.Goals as goal

pub returns-in-Ok-clause-session : goal.returns-in-Ok-clause-session
returns-in-Ok-clause-session c =
    let choices = c.in_ok-choices in
    let begins = c.in-Ok.ensures in
    is_session c.args.most c.args.chooser c.args.limits c.args.program.now c.args.entry.now choices.choices.items begins.0 c.in-Ok.session choices.ensures.choices begins.1 begins.2
