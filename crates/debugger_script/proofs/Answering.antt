-- Executed commands, with their answers.
use Rattle.std.proofs.Common.{◌≡◌, ℕ, List, Result, refl, sym, ap, ◌∙◌, subst}
use Rattle.debugger_commands.specs.declared.command.Command.{Command}
use Rattle.debugger_commands.specs.declared.fault.DebugFault.{DebugFault}
use Rattle.debugger_commands.specs.Sessions.{Session}
use Rattle.debugger.specs.declared.view.View.{View}
use Rattle.debugger.specs.Commands.{Did}
use Rattle.debugger.specs.Sessions.{Debugger}
use Rattle.debugger.specs.States.{Setting}
use Rattle.debugger_script.specs.Answers.{IsAnswerTo, view_text}
use Rattle.debugger_script.specs.Carried.{IsAnswerOf}

-- A command was executed, and this is the text of its view.
pub shown : (old new : Debugger) (c : Command) (v : View) (text : List ℕ) → Did c old new v → text ≡ view_text new.setting new.session v → IsAnswerOf old c text new
shown old new c v text did is =
    let said : text ≡ view_text old.setting new.session _ =
    is ∙ ap (λ (g : Setting). view_text g new.session v) did.setting ∙ ap (view_text old.setting new.session) did.view in
    subst (λ (r : Result Session DebugFault). IsAnswerTo old.setting old.session c r text new.session) (sym did.session) (refl, said)
