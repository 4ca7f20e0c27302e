-- Lines have one answer.
use Rattle.std.proofs.Common.{◌≡◌, ◌≢◌, ℕ, List, [], ◌∷◌, ◌++◌, Result, Ok, Err, sym, ap, ◌∙◌, subst}
use Rattle.debugger_commands.specs.declared.command.Command.{Command}
use Rattle.debugger_commands.specs.declared.fault.DebugFault.{DebugFault}
use Rattle.debugger_commands.specs.declared.fault.DebugFault.TheVariants as fault
use Rattle.debugger_commands.specs.Sessions.{Session, after}
use Rattle.debugger.specs.States.{Setting}
use Rattle.debugger_script.specs.Answers.{AreAnswers, IsAnswer, IsAnswerTo, IsAnswerToReading}
use Rattle.debugger_script_laws.proofs.Readings.{IsMemory, OneCommand, one_result}

not_memory : (c : Command) → IsMemory (Ok c) → ⊥
not_memory c h = cc

-- Lack of memory is no answer.
answers_some : (g : Setting) (x y : Session) (r : Result Command DebugFault) (text : List ℕ) → IsAnswerToReading g x r text y → r ≢ Err fault.Memory
answers_some g x y (Ok c) text is h = not_memory c h
answers_some g x y (Err e) text is h = is.0 (cc)

same_answer : (g : Setting) (x y z : Session) (c : Command) (r : Result Session DebugFault) (s t : List ℕ) → IsAnswerTo g x c r s y → IsAnswerTo g x c r t z → (s ≡ t) × (y ≡ z)
same_answer g x y z c (Ok later) s t p q = (p.1 ∙ sym q.1, p.0 ∙ sym q.0)
same_answer g x y z c (Err e) s t p q = (p.1 ∙ sym q.1, p.0 ∙ sym q.0)

same_reading : (g : Setting) (x y z : Session) (r : Result Command DebugFault) (s t : List ℕ) → IsAnswerToReading g x r s y → IsAnswerToReading g x r t z → (s ≡ t) × (y ≡ z)
same_reading g x y z (Ok c) s t p q = same_answer g x y z c (after g.program g.limits g.start x c) s t p q
same_reading g x y z (Err e) s t p q = (p.2 ∙ sym q.2, p.1 ∙ sym q.1)

one_answer : OneCommand → (g : Setting) (x y z : Session) (line s t : List ℕ) → IsAnswer g x line s y → IsAnswer g x line t z → (s ≡ t) × (y ≡ z)
one_answer one g x y z line s t (a, first, p) (b, second, q) =
    let same : b ≡ a = one_result one line b a (answers_some g x z b t q) (answers_some g x y a s p) second first in
    same_reading g x y z a s t p (subst (λ r. IsAnswerToReading g x r t z) same q)

pub one_text : OneCommand → (g : Setting) (x y z : Session) (lines : List (List ℕ)) (s t : List ℕ) → AreAnswers g x lines s y → AreAnswers g x lines t z → (s ≡ t) × (y ≡ z)
one_text one g x y z [] s t p q = (p.0 ∙ sym q.0, p.1 ∙ sym q.1)
one_text one g x y z (line ∷ lines) s t p q =
    let first = one_answer one g x p.2 q.2 line p.0 q.0 p.3 q.3 in
    let rest = one_text one g p.2 y z lines p.1 q.1 p.4 (subst (λ m. AreAnswers g m lines q.1 z) (sym first.1) q.4) in
    (p.5 ∙ ap (λ k. k ++ p.1) first.0 ∙ ap (λ k. q.0 ++ k) rest.0 ∙ sym q.5, rest.1)
