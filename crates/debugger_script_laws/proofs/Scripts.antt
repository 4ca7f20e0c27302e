-- Scripts of the same bytes have one answer.
use Rattle.std.proofs.Common.{◌≡◌, ℕ, List, ◌++◌, Option, Some, None, sym, ap, ◌∙◌, subst, append-nil}
use Rattle.std.specs.Io.KnownBytes.{Appends, Consumes, IsAtEnd}
use Rattle.debugger.specs.Sessions.{Debugger}
use Rattle.debugger_script.specs.Answers.{AreAnswers}
use Rattle.debugger_script.specs.Scripts.{AreLines, HasRun, with_rest}
use Rattle.debugger_script_laws.proofs.Answers.{one_text}
use Rattle.debugger_script_laws.proofs.Lines.{one_list_of_lines}
use Rattle.debugger_script_laws.proofs.Readings.{OneCommand}

-- A reader at its end has returned all its bytes.
all_read : (l : Option (List ℕ)) (read bytes : List ℕ) → Consumes (Some read) l bytes → IsAtEnd l → read ≡ bytes
all_read None read bytes p end = absurd p
all_read (Some y) read bytes p end = p ∙ ap (λ k. bytes ++ k) end ∙ append-nil bytes

same_written : (w v : Option (List ℕ)) (written s t : List ℕ) → s ≡ t → Appends (Some written) w s → Appends (Some written) v t → w ≡ v
same_written None v written s t same p q = absurd p
same_written (Some x) None written s t same p q = absurd q
same_written (Some x) (Some y) written s t same p q = ap Some (p ∙ ap (λ k. written ++ k) same ∙ sym q)

pub one_script : OneCommand → (read written : List ℕ) (l m w v : Option (List ℕ)) (old first second : Debugger)
    → HasRun (Some read) l (Some written) w old first → HasRun (Some read) m (Some written) v old second → (w ≡ v) × (first.session ≡ second.session)
one_script one read written l m w v old first second p q =
    let bytes : p.bytes ≡ q.bytes = sym (all_read l read p.bytes p.read p.end) ∙ all_read m read q.bytes q.read q.end in
    let lines = one_list_of_lines p.bytes p.lines q.lines p.rest q.rest p.lines_are (subst (λ b. AreLines b q.lines q.rest) (sym bytes) q.lines_are) in
    let same : with_rest p.lines p.rest ≡ with_rest q.lines q.rest = ap (λ k. with_rest k p.rest) lines.0 ∙ ap (λ k. with_rest q.lines k) lines.1 in
    let answers = one_text one old.setting old.session first.session second.session (with_rest p.lines p.rest) p.text q.text p.answers
    (subst (λ k. AreAnswers old.setting old.session k q.text second.session) (sym same) q.answers) in
    (same_written w v written p.text q.text answers.0 p.shown q.shown, answers.1)
