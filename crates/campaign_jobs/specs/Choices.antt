-- Defines the choices that a job makes: at random at each turn, or by random priorities.
use Rattle.std.specs.Prelude.{ℕ, zero, suc, ◌%◌, List, [], ◌∷◌, length, slice_index_or}
use Rattle.rand_pcg.specs.Lcg.{Lcg}
use Rattle.rand_pcg.specs.Pcg.{pcg32}
use Rattle.program_runs.specs.machine.Machine.{Machine}
use Rattle.program_runs.specs.schedule.Choosers.{chooser_of_schedule, generator_of}
use Rattle.program_runs.specs.schedule.Enabled.{enabled_threads}
use Rattle.program_runs.specs.schedule.Schedules.{Ranked}
use Rattle.program_runs.specs.runs.Choices.{after_turn, choices_from}
use Rattle.campaign_jobs.specs.declared.choosing.Choosing.{Choosing}
use Rattle.campaign_jobs.specs.declared.choosing.Choosing.TheVariants as choosing

-- Returns the thread of a list at the index of the generator's next word, modulo the length of the list.
abbrev pub thread_at : List ℕ → Lcg → ℕ
thread_at threads generator = slice_index_or threads ((pcg32 generator).0 % length threads) 0

-- Returns a choice among enabled threads, followed by the choices after it. Without an enabled thread the list is
-- empty.
abbrev pub chosen_then : List ℕ → Lcg → (ℕ → List ℕ) → List ℕ
chosen_then [] generator rest = []
chosen_then (t ∷ ts) generator rest = thread_at (t ∷ ts) generator ∷ rest (thread_at (t ∷ ts) generator)

-- Returns the choices of a run from a machine on, up to a maximum number. Each is an enabled thread, in ascending
-- order, at the index of the next word modulo their number.
unfoldable pub job_choices : ℕ → Lcg → Machine → List ℕ
job_choices zero generator m = []
job_choices (suc most) generator m =
    chosen_then (enabled_threads m) generator (λ t. job_choices most (pcg32 generator).1 (after_turn m t))

-- Returns the choices of a run from a machine on, up to a maximum number. Its random words have this state and this
-- stream. They name the threads, or the priorities and the changes of the schedule `pct:`.
abbrev pub choices_by : Choosing → ℕ → ℕ → ℕ → Machine → List ℕ
choices_by choosing.Random most state stream m = job_choices most (generator_of state stream) m
choices_by (choosing.Priorities depth turns) most state stream m =
    choices_from most (chooser_of_schedule (Ranked state stream depth turns)) m
