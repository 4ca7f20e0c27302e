-- The explanation is that of the run.
use Rattle.std.proofs.Common.{◌≡◌, ℕ, List, length, Some, None, Result, Ok, Err, refl, sym, ap, subst, ◌∙◌}
use Rattle.std.specs.Prelude.{Option}
use Rattle.jvms_file.specs.declared.class_file.ClassFile.{ClassFile}
use Rattle.jvms_file.specs.Results.{◌>>=◌}
use Rattle.jvms_program.specs.declared.program.Class.{Class}
use Rattle.jvms_machine.specs.declared.machine.Entry.{Entry}
use Rattle.jvms_machine.specs.declared.machine.Limits.{Limits}
use Rattle.jvms_machine.specs.Opening.{StartFault, start_of_entry}
use Rattle.jvms_machine.specs.Start.{Start}
use Rattle.machine.specs.Started.{opened_machine}
use Rattle.schedule.specs.Choosers.{Chooser}
use Rattle.velodrome.specs.Specification.{Specification}
use Rattle.program_runs.specs.declared.feeding.Judgement.{Judgement}
use Rattle.program_runs.specs.declared.tracing.TracedRun.{TracedRun}
use Rattle.program_runs.specs.Shown.{HasEnding, Shown, ending_shown, view_of_program, view_of_traced, view_of_run}
use Rattle.judge.specs.Judgement.{IsJudgement, IsJudgementOn}
use Rattle.judge.specs.Programs.{NotRun, not_made, with_reason}
use Rattle.explaining.specs.Explanations.{program_explanation, run_explanation}

-- The run that is shown starts with the machine of this start.
same_run : (most : ℕ) (chooser : Chooser) (limits : Limits) (program : List Class) (entry : Entry) (start : Start) (shown : Shown)
    → start_of_entry program limits entry ≡ Ok start → view_of_program most chooser limits program entry ≡ Ok shown
    → view_of_run most chooser (opened_machine program limits start) ≡ shown
unfolding view_of_program
same_run most chooser limits program entry start shown is shows =
    let both : Ok (view_of_run most chooser (opened_machine program limits start)) ≡ Ok shown =
    sym (ap (λ r. r >>= λ s. Ok (view_of_run most chooser (opened_machine program limits s))) is) ∙ shows in cc

-- The explanation of the run.
pub is_explanation : (first : ℕ) (files : List ClassFile) (lines : Option Specification) (j : Option Judgement) (most : ℕ) (chooser : Chooser) (limits : Limits) (program : List Class) (entry : Entry) (start : Start) (shown : Shown) (text : List ℕ)
    → start_of_entry program limits entry ≡ Ok start → view_of_program most chooser limits program entry ≡ Ok shown
    → text ≡ run_explanation first files lines j (opened_machine program limits start) shown
    → program_explanation first files lines j most chooser limits program entry ≡ Ok text
unfolding program_explanation
is_explanation first files lines j most chooser limits program entry start shown text is shows told =
    ap (λ r. r >>= λ s. Ok (run_explanation first files lines j (opened_machine program limits s) (view_of_run most chooser (opened_machine program limits s)))) is
    ∙ ap (λ x. Ok (run_explanation first files lines j (opened_machine program limits start) x)) (same_run most chooser limits program entry start shown is shows)
    ∙ ap Ok (sym told)

-- How the run ended.
pub ends_so : (run : TracedRun) (said : Result Shown StartFault) → said ≡ Ok (view_of_traced run) → run.ending.turns ≡ length run.choices
    → HasEnding (with_reason not_made said) run.ending
ends_so run said shows turns =
    let P : Result Shown StartFault → Type 0 = λ r. HasEnding (with_reason not_made r) run.ending in
    subst P (sym shows) (ap (λ n. record { turns = n; result = run.ending.result; output = run.ending.output; status = run.ending.status; uncaught = run.ending.uncaught }) turns)

judged_so : (lines : Option Specification) (shown : Shown) (j : Option Judgement) → IsJudgement lines shown.items j
    → IsJudgementOn lines (Ok shown) j
judged_so None shown None is = tt
judged_so (Some lines) shown (Some j) is = is
judged_so None shown (Some j) is = absurd is
judged_so (Some lines) shown None is = absurd is

-- The verdict on the run.
pub is_judged : (lines : Option Specification) (shown : Shown) (j : Option Judgement) (said : Result Shown StartFault) → said ≡ Ok shown
    → IsJudgement lines shown.items j → IsJudgementOn lines (with_reason not_made said) j
is_judged lines shown j said shows is =
    let P : Result Shown StartFault → Type 0 = λ r. IsJudgementOn lines (with_reason not_made r) j in
    subst P (sym shows) (judged_so lines shown j is)
