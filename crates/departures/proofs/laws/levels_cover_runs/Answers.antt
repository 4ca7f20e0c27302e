use Rattle.std.proofs.Common.{false, sym, ◌∙◌, ◌≡◌}
use Rattle.departures.specs.Reductions.{held_by, seen_by}
use Rattle.departures.proofs.Cover.{covered_by_jobs}
use Rattle.departures.proofs.laws.levels_cover_runs.Goals as goal

pub returns : goal.returns
returns g c = λ system is_local events view likeness state_of laws report same turns s last most holds good choices run stuck long within. covered_by_jobs system is_local events (seen_by view) likeness (held_by state_of) laws (λ s xs. report s xs ≡ false) (λ s xs ys alike is. sym (same s xs ys alike) ∙ is) turns s last most holds good choices run stuck long within
