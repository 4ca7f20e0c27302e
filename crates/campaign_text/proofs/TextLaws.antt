-- The lines of jobs, one after another.
use Rattle.std.proofs.Common.{◌≡◌, ℕ, suc, ◌+◌, ◌<◌, List, [], ◌∷◌, ◌++◌, length, take, get_or, sym, ap, ◌∙◌, arith, append_assoc, append-nil}
use Rattle.std.proofs.lemmas.List.{length-take-le, take_more}
use Rattle.campaign_jobs.specs.declared.result.JobResult.{JobResult}
use Rattle.campaign_text.specs.TableTexts.{job_line, job_lines}

-- The line of one more job.
pub lines_push : (number : ℕ) (xs : List JobResult) (x : JobResult) → job_lines number (xs ++ x ∷ []) ≡ job_lines number xs ++ job_line (number + length xs) x
lines_push number [] x = let none : number + 0 ≡ number = omega arith in rw none (append-nil (job_line number x))
lines_push number (y ∷ ys) x =
    let next : number + suc (length ys) ≡ suc number + length ys = omega arith in
    rw next (
    ap (λ l. job_line number y ++ l) (lines_push (suc number) ys x)
    ∙ sym (append_assoc (job_line number y) (job_lines (suc number) ys) (job_line (suc number + length ys) x))
    )

-- The lines up to the next job.
pub one_more : (first : ℕ) (results : List JobResult) (k : ℕ) (d : JobResult) → k < length results
    → job_lines first (take (k + 1) results) ≡ job_lines first (take k results) ++ job_line (first + k) (get_or results k d)
one_more first results k d below =
    let few : length (take k results) ≡ k = length-take-le k results (omega arith) in
    ap (job_lines first) (take_more results k d below)
    ∙ lines_push first (take k results) (get_or results k d)
    ∙ ap (λ n. job_lines first (take k results) ++ job_line (first + n) (get_or results k d)) few
