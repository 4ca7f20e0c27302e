-- The choices of a job are those of a seeded chooser.
use Rattle.std.proofs.Common.{◌≡◌, ℕ, zero, suc, ◌%◌, List, [], ◌∷◌, length, Some, slice_get, refl, ap, sym, ◌∙◌, arith}
use Rattle.std.proofs.lemmas.Option.{slice_get-get_or}
use Rattle.rand_pcg.specs.Lcg.{Lcg}
use Rattle.rand_pcg.specs.Pcg.{pcg32}
use Rattle.program_runs.specs.machine.Machine.{Machine}
use Rattle.program_runs.specs.schedule.Choosers.{Chooser, Seeded, by_word, generator_of, chooser_of_schedule}
use Rattle.program_runs.specs.schedule.Enabled.{enabled_threads}
use Rattle.program_runs.specs.schedule.Schedules as schedules
use Rattle.program_runs.specs.runs.Choices.{after_turn, choices_from, first_then}
use Rattle.campaign_jobs.specs.Choices.{chosen_then, job_choices, thread_at}

-- A nonempty list has a thread at the next word modulo its length.
is_there : (t : ℕ) (ts : List ℕ) (generator : Lcg) → slice_get (t ∷ ts) ((pcg32 generator).0 % length (t ∷ ts)) ≡ Some (thread_at (t ∷ ts) generator)
is_there t ts generator = slice_get-get_or (t ∷ ts) ((pcg32 generator).0 % length (t ∷ ts)) 0 (omega arith)

same_choice : (enabled : List ℕ) (generator : Lcg) (job : ℕ → List ℕ) (rest : Chooser → ℕ → List ℕ) → ((t : ℕ) → job t ≡ rest (Seeded (pcg32 generator).1) t)
    → chosen_then enabled generator job ≡ first_then (by_word generator enabled).0 (rest (by_word generator enabled).1)
same_choice [] generator job rest same = refl
same_choice (t ∷ ts) generator job rest same =
    ap (λ l. thread_at (t ∷ ts) generator ∷ l) (same (thread_at (t ∷ ts) generator))
    ∙ ap (λ o. first_then o (rest (Seeded (pcg32 generator).1))) (sym (is_there t ts generator))

same : (most : ℕ) (generator : Lcg) (m : Machine) → job_choices most generator m ≡ choices_from most (Seeded generator) m
unfolding job_choices choices_from
same zero generator m = refl
same (suc most) generator m =
    same_choice (enabled_threads m) generator (λ t. job_choices most (pcg32 generator).1 (after_turn m t)) (λ c t. choices_from most c (after_turn m t))
    (λ t. same most (pcg32 generator).1 (after_turn m t))

pub are_seeded : (most seed number : ℕ) (m : Machine) → job_choices most (generator_of seed number) m ≡ choices_from most (chooser_of_schedule (schedules.Seeded seed number)) m
are_seeded most seed number m = same most (generator_of seed number) m
